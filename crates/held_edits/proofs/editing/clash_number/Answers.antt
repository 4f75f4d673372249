-- `clash_number` meets its contract, kind by kind.
use mathlib.Core.Path.{◌∙◌}
use Rattle.held_edits.proofs.Named.{named}
use Rattle.held_edits.proofs.editing.clash_number.Goals as goal

pub returns-in-Adding : goal.returns-in-Adding
returns-in-Adding c = rw (c.in-Adding.is, ← (c.contains-there.ensures.value ∙ named c.args.b.0 c.args.row.now)) c.add_number.ensures

pub returns-in-Striking : goal.returns-in-Striking
returns-in-Striking c = rw (c.in-Striking.is, ← (c.contains-there.ensures.value ∙ named c.args.b.0 c.args.row.now)) (c.strike_number.ensures _ _)
