-- What an edit is lent and leaves, and when it holds a plan.
use Rattle.std.specs.Prelude.{List, ℕ, ◌≤◌, length}
use Rattle.rule.specs.Graph.{Graph}
use Rattle.memory.specs.declared.Tally.{Tally}
use Rattle.memory.specs.Plan.{Slices, PlanOf}

-- the plan, its tally, the trail slice and the moved slice
pub record Memory : Type 0 where
  pub slices : Slices
  pub tally : Tally
  pub trail : List ℕ
  pub moved : List ℕ

abbrev pub memory_of : Slices → List ℕ → List ℕ → Tally → Memory
memory_of slices trail moved tally = record { slices = slices; tally = tally; trail = trail; moved = moved }

-- memory holds the plan of G, and the trail and moved slices have room for its banks
pub record Ready (G : Graph) (m : Memory) : Type 0 where
  pub plan : PlanOf G m.slices m.tally
  pub trail_room : G.banks ≤ length m.trail
  pub moved_room : G.banks ≤ length m.moved
