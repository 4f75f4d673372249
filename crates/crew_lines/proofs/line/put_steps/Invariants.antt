-- The loop has written the lines of the first k steps.
use Rattle.crew_lines.specs.inner.Cells.{steps_in}
use Rattle.text.specs.Places.{Puts}
use lib.ListN.{length}
use mathlib.Core.Path.{◌≡◌}
use Rattle.crew_lines.proofs.line.put_steps.Given as goal

abbrev pub invariant-loop-k : goal.invariant-loop-k
invariant-loop-k l = Puts (steps_in l.waves l.steps l.n l.k) l.at l.initial.out l.next l.out × (length l.out ≡ length l.initial.out)
