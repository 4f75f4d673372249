-- `strike_all` meets its contract. The invariant: memory holds a plan in which the clashes of b are left that are not yet struck, and striking these leads to the same state; the queue is idle.
use Prim.Native.Nat.{◌-◌}
use Rattle.list_pass.proofs.Struck.{Left}
use Rattle.memory.specs.Memory.{Ready}
use Rattle.memory.specs.Memory.{memory_of}
use Rattle.memory.specs.Plan.{slices_of}
use Rattle.planner.proofs.Lengths.{SameLengths}
use Rattle.queue.specs.Queue.{Idle}
use Rattle.rule.specs.Graph.{Graph}
use mathlib.Core.Path.{◌≡◌}
use Rattle.list_edits.proofs.change.strike_all.Given as goal

abbrev pub invariant-loop : goal.invariant-loop
invariant-loop l = let m₀ = memory_of (slices_of l.initial.neighbours l.initial.degrees l.initial.waves l.initial.counts l.ranks) l.initial.trail l.initial.moved l.initial.last.tally in
    let m = memory_of (slices_of l.neighbours l.degrees l.waves l.counts l.ranks) l.trail l.moved l.last.tally in
    ((G : Graph) → Ready G m₀ → Left G l.b.0 m₀ (l.left - l.counter) l.last m)
    × SameLengths m₀ m
    × Idle l.initial.last.tally.banks l.ranks l.queue
    × (l.last.tally.banks ≡ l.initial.last.tally.banks)
