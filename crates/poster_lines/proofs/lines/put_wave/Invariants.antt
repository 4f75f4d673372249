-- The loop has written the lines before the index.
use Rattle.poster_lines.specs.inner.Lines.{lines_with}
use Rattle.text.specs.Places.{Puts}
use Rattle.text.specs.Text.{joined}
use lib.ListN.{length, take}
use mathlib.Core.Path.{◌≡◌}
use Rattle.poster_lines.proofs.lines.put_wave.Given as goal

abbrev pub invariant-loop-i : goal.invariant-loop-i
invariant-loop-i l = Puts (joined (take l.i (lines_with l.c.0 l.banks))) l.at l.initial.out l.next l.out × (length l.out ≡ length l.initial.out)
