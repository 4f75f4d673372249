-- The first i clashes are written, each in at most 13 bytes.
use Prim.Native.Nat.{◌+◌, ◌*◌, ◌≤◌}
use Rattle.doubt_lines.specs.Lines.{links_text}
use Rattle.memory.specs.Lent.{slices_in}
use Rattle.text.specs.Places.{Puts}
use lib.ListN.{length}
use lib.ListN.{take}
use mathlib.Core.Path.{◌≡◌}
use Rattle.doubt_lines.proofs.line.put_links.Given as goal

abbrev pub invariant-loop-v : goal.invariant-loop-v
invariant-loop-v l = Puts (links_text l.b.0 (slices_in l.plan) l.plan.tally (take l.v-index l.clashes)) l.at l.initial.out l.next l.out
    × (length l.out ≡ length l.initial.out)
    × (l.next ≤ l.at + 13 * l.v-index)
