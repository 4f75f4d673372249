-- `queue_turned`: after i turns the turned ones of the first i neighbours are queued.
use Rattle.edits.specs.inner.Seeds.{Search, Turning}
use Rattle.memory.specs.Plan.{slices_of}
use lib.ListN.{length}
use mathlib.Core.Path.{◌≡◌}
use Rattle.edits.proofs.seeds.queue_turned.Given as goal

abbrev pub invariant-loop-i : goal.invariant-loop-i
invariant-loop-i l = (length l.counts ≡ length l.initial.counts)
    × ((s : Search)
    → Turning s (slices_of l.neighbours l.degrees l.waves l.initial.counts l.ranks) l.initial.queue l.banks l.b.0 l.old 0
    → Turning s (slices_of l.neighbours l.degrees l.waves l.counts l.ranks) l.queue l.banks l.b.0 l.old l.i)
