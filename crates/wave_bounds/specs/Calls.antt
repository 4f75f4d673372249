-- What the call wave_bound answers of what it is lent (02, N8).
use Rattle.std.specs.Prelude.{ℕ, zero, suc}
use Rattle.rule.specs.Graph.{Graph}
use Rattle.rule.specs.Bounds.{wave_bound}
use Rattle.memory.specs.declared.Tally.{Tally}
use Rattle.memory.specs.Plan.{Slices, graph_in}
use Rattle.planner.specs.Calls.{plan_number}

-- by the number of the first no
unfoldable pub bound_by : ℕ → Graph → ℕ
bound_by zero G = wave_bound G
bound_by (suc c) G = 0

-- how many waves the plan has at most (Welsh and Powell), or 0 with the number
unfoldable pub bound_of : Slices → Tally → ℕ
bound_of s t = bound_by (plan_number s t) (graph_in t.banks s)
