-- `read_edits` meets its contract. The invariant: memory holds the plan after the rows so far, and what is ahead leads to the same result; a row is no further than its first byte; the queue is idle.
use Prim.Native.Nat.{◌+◌, ◌-◌, ◌≤◌}
use Rattle.list_pass.proofs.Passing.{Ahead}
use Rattle.memory.specs.Memory.{Ready}
use Rattle.memory.specs.Memory.{memory_of}
use Rattle.memory.specs.Plan.{slices_of}
use Rattle.planner.proofs.Lengths.{SameLengths}
use Rattle.planner.specs.inner.Held.{Fresh}
use Rattle.queue.specs.Queue.{Idle, Unranked}
use Rattle.rule.specs.Graph.{Graph}
use lib.ListN.{length}
use mathlib.Core.Bool.{false}
use mathlib.Core.Path.{◌≡◌}
use Rattle.list_edits.proofs.rows.read_edits.Given as goal

abbrev pub invariant-loop-last : goal.invariant-loop-last
invariant-loop-last l = let m₀ = memory_of (slices_of l.initial.neighbours l.initial.degrees l.initial.waves l.initial.counts l.initial.ranks) l.initial.trail l.initial.moved l.initial.last.tally in
    let m = memory_of (slices_of l.neighbours l.degrees l.waves l.counts l.ranks) l.trail l.moved l.last.tally in
    ((G : Graph) → Ready G m₀ → Fresh false G → Ahead l.list l.v2 l.row l.first G m₀ l.last m)
    × SameLengths m₀ m
    × (l.last.next ≤ length l.list + 1)
    × (l.last.row ≤ l.last.next)
    × Idle l.last.tally.banks l.ranks l.queue
    × (l.last.begun ≡ false → Unranked l.queue)

abbrev pub decreases-loop-last : goal.decreases-loop-last
decreases-loop-last l = length l.list + 1 - l.last.next
