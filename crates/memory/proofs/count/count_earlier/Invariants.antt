-- The first banks of the row are counted.
use Prim.Native.Nat.{◌*◌}
use Rattle.memory.specs.inner.Counts.{count_in, Tallied}
use lib.ListN.{take, drop}
use Rattle.memory.proofs.count.count_earlier.Given as goal

abbrev pub invariant-loop-v : goal.invariant-loop-v
invariant-loop-v l = Tallied l.row (count_in l.degrees l.ranks l.waves l.b.0 (take l.v-index (drop (l.b.0 * 23) l.neighbours)))
