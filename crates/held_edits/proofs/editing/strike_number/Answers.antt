-- `strike_number` meets its contract.
use Rattle.planner.proofs.Numbers.{strike_fine, strike_not_there}
use mathlib.Core.Path.{sym}
use Rattle.held_edits.proofs.editing.strike_number.Goals as goal

pub returns : goal.returns
returns c = rw c.if-not-there.false (λ da db. sym (strike_fine da db))

pub returns-then-not-there : goal.returns-then-not-there
returns-then-not-there c = rw c.if-not-there.true (λ da db. sym (strike_not_there da db))
