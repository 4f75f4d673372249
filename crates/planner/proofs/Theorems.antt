-- The theorems to cite, each restated. Their proofs are in the files beside this one.
use mathlib.Core.Path.{◌≡◌}
use Prim.Native.Nat.{ℕ}
use lib.Dec.{T}
use Rattle.rule.specs.Graph.{Graph, empty}
use Rattle.memory.specs.declared.Tally.{Tally}
use Rattle.memory.specs.Plan.{Slices, cap_fits, PlanOf}
use Rattle.planner.specs.Calls.{plan_number, open_result, opened}
use Rattle.planner.proofs.Numbers as Numbers
use Rattle.planner.proofs.NoClash as NoClash

-- 1. opening that is accepted leaves memory that holds the plan of no clash
pub opened_plan : (n : ℕ) (s : Slices) (t : Tally) {s' : Slices} {t' : Tally} → open_result 0 s' t' ≡ opened n s t → PlanOf (empty n) s' t'
opened_plan = NoClash.opened_plan

-- 2. memory that holds a plan under a cap that fits passes questions 3 to 5 of a call that reads
pub held_number : (G : Graph) (s : Slices) (t : Tally) → PlanOf G s t → T (cap_fits t) → plan_number s t ≡ 0
held_number = Numbers.held_number
