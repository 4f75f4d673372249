-- The loop has put the banks of wave c below b.
use Rattle.text.specs.Places.{Puts}
use Rattle.wave_lines.specs.inner.Cells.{members_of}
use lib.ListN.{length}
use mathlib.Core.Path.{◌≡◌}
use Rattle.poster_writer.proofs.waves.gather.Given as goal

abbrev pub invariant-loop-b : goal.invariant-loop-b
invariant-loop-b l = Puts (members_of l.waves l.c.0 l.b) 0 l.initial.banks l.next l.banks × (length l.banks ≡ length l.initial.banks)
