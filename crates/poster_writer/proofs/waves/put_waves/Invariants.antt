-- The loop has written the waves below c.
use Rattle.poster_writer.specs.inner.Cells.{poster_waves}
use Rattle.text.specs.Places.{Puts}
use lib.ListN.{length}
use mathlib.Core.Path.{◌≡◌}
use Rattle.poster_writer.proofs.waves.put_waves.Given as goal

abbrev pub invariant-loop-c : goal.invariant-loop-c
invariant-loop-c l = Puts (poster_waves l.waves l.n l.c) 0 l.initial.out l.next l.out × (length l.out ≡ length l.initial.out)
