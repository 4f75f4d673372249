-- `settle`: the state of the work-list is the loop's invariant.
use Prim.Native.Nat.{◌-◌}
use Rattle.memory.specs.Memory.{memory_of}
use Rattle.memory.specs.Plan.{slices_of}
use Rattle.steps.specs.inner.Work.{Edit, begun, Working}
use lib.ListN.{length}
use mathlib.Core.Path.{◌≡◌}
use Rattle.steps.proofs.work_list.settle.Given as goal

abbrev pub invariant-loop-waves : goal.invariant-loop-waves
invariant-loop-waves l = (length l.waves ≡ length l.initial.waves)
    × (length l.counts ≡ length l.initial.counts)
    × (length l.trail ≡ length l.initial.trail)
    × (length l.moved ≡ length l.initial.moved)
    × ((e : Edit)
    → Working e (memory_of (slices_of l.neighbours l.degrees l.initial.waves l.initial.counts l.ranks) l.initial.trail l.initial.moved e.was.tally) l.initial.queue (begun l.most)
    → Working e (memory_of (slices_of l.neighbours l.degrees l.waves l.counts l.ranks) l.trail l.moved e.was.tally) l.queue l.p)

abbrev pub decreases-loop-waves : goal.decreases-loop-waves
decreases-loop-waves l = 1025 - l.p.taken
