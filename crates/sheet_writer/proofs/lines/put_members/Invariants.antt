-- The loop has written the banks below b.
use Rattle.sheet_writer.specs.inner.Cells.{members_text}
use Rattle.text.specs.Places.{Puts}
use lib.ListN.{length}
use mathlib.Core.Path.{◌≡◌}
use Rattle.sheet_writer.proofs.lines.put_members.Given as goal

abbrev pub invariant-loop-b : goal.invariant-loop-b
invariant-loop-b l = Puts (members_text l.waves l.c.0 l.b) l.at l.initial.out l.next l.out × (length l.out ≡ length l.initial.out)
