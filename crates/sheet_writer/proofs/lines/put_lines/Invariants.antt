-- The loop has written the lines of the waves below c.
use Rattle.sheet_writer.specs.inner.Cells.{sheet_waves}
use Rattle.text.specs.Places.{Puts}
use lib.ListN.{length}
use mathlib.Core.Path.{◌≡◌}
use Rattle.sheet_writer.proofs.lines.put_lines.Given as goal

abbrev pub invariant-loop-c : goal.invariant-loop-c
invariant-loop-c l = Puts (sheet_waves l.waves l.n l.c) l.at l.initial.out l.next l.out × (length l.out ≡ length l.initial.out)
