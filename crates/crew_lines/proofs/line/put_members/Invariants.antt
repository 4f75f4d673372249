-- The loop has written the banks below b.
use Rattle.sheet_writer.specs.inner.Cells.{members_text}
use Rattle.text.specs.Places.{Puts}
use lib.ListN.{length}
use mathlib.Core.Path.{◌≡◌}
use Rattle.crew_lines.proofs.line.put_members.Given as goal

abbrev pub invariant-loop-b : goal.invariant-loop-b
invariant-loop-b l = Puts (members_text l.steps l.k l.b) l.at l.initial.out l.next l.out × (length l.out ≡ length l.initial.out)
