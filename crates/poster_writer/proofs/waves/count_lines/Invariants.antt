-- The loop has counted the lines of the waves below c.
use Prim.Native.Nat.{◌*◌, ◌≤◌}
use Rattle.poster_writer.specs.inner.Cells.{cell_lines}
use lib.ListN.{length}
use mathlib.Core.Path.{◌≡◌}
use Rattle.poster_writer.proofs.waves.count_lines.Given as goal

abbrev pub invariant-loop-c : goal.invariant-loop-c
invariant-loop-c l = (l.lines ≡ length (cell_lines l.waves l.n l.c)) × (l.lines ≤ 147 * l.c)
