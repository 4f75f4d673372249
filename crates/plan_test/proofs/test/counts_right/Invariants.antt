-- The parts before b are right.
use Rattle.std.proofs.Common.{ℕ, ◌<◌, get_or}
use Rattle.memory.specs.inner.Test.{part, PartRight}
use Rattle.plan_test.proofs.test.counts_right.Given as goal

abbrev pub invariant-loop-b : goal.invariant-loop-b
invariant-loop-b l = (k : ℕ) → k < l.b → PartRight (part l.plan.counts.now k) (λ c. get_or (part l.cells k) c 0) (get_or l.plan.waves.now k 0)
