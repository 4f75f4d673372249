-- A bank whose wave is read straight off has a kept one, in its cell.
use Rattle.doubt_lines.proofs.Answers.{kept_cell}
use mathlib.Core.Path.{sym}
use Rattle.doubt_lines.proofs.line.both_waves.Goals as goal

pub bounds-plan-from : goal.bounds-plan-from
bounds-plan-from c = rw c.from.ensures (kept_cell _ _ _ (sym c.in_ok-read.ensures.number)).0

pub returns-clause-waves : goal.returns-clause-waves
returns-clause-waves c = (rw c.from.ensures (kept_cell _ _ _ (sym c.in_ok-read.ensures.number)).1, c.in_ok-read.ensures.wave)
