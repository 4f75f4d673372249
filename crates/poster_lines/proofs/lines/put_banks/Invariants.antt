-- The loop has written the banks before the index.
use Rattle.poster_lines.specs.Poster.{right_aligned}
use Rattle.text.specs.Places.{Puts}
use Rattle.text.specs.Text.{joined}
use lib.ListN.{length, take}
use mathlib.Core.List.{map}
use mathlib.Core.Path.{◌≡◌}
use Rattle.poster_lines.proofs.lines.put_banks.Given as goal

abbrev pub invariant-loop-b : goal.invariant-loop-b
invariant-loop-b l = Puts (joined (map right_aligned (take l.b-index l.banks))) l.at l.initial.out l.next l.out × (length l.out ≡ length l.initial.out)
