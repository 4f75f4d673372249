-- The loop has written the lines before the index.
use Rattle.poster_lines.specs.Poster.{padded}
use Rattle.text.specs.Places.{Puts}
use Rattle.text.specs.Text.{joined}
use lib.ListN.{length, replicate}
use mathlib.Core.List.{[]}
use mathlib.Core.Path.{◌≡◌}
use Rattle.poster_lines.proofs.lines.put_blank_lines.Given as goal

abbrev pub invariant-loop-line : goal.invariant-loop-line
invariant-loop-line l = Puts (joined (replicate l._line (padded []))) l.at l.initial.out l.next l.out × (length l.out ≡ length l.initial.out)
