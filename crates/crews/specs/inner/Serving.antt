-- The day from the cells of the waves: how many steps come before each wave, and before each bank.
use Rattle.std.specs.Prelude.{Bool, List, ◌≡◌, ℕ, ◌+◌, ◌/◌, ◌≤◌, ◌<◌, leb, length, get_or, take}
use Rattle.memory.specs.declared.Tally.{Tally}
use Rattle.memory.specs.Cells.{cells, over}
use Rattle.memory.specs.Plan.{Slices}
use Rattle.memory.specs.inner.Counts.{Tallied}
use Rattle.cell_counts.specs.inner.Cells.{cells_at, FewEach}
use Rattle.planner.specs.inner.Held.{PlanIn}
use Rattle.crews.specs.Day.{sum_up, first_from}

-- q is from 1 to 64
pub record Crew (q : ℕ) : Type 0 where
  pub some : 1 ≤ q
  pub few : q ≤ 64

-- the sizes of the 24 waves that there can be
pub record Sizes (sizes : List ℕ) : Type 0 where
  pub long : length sizes ≡ 24
  pub few : (w : ℕ) → w < 24 → get_or sizes w 0 ≤ 1024

-- the steps of the first w waves, of these sizes
abbrev pub steps_to : List ℕ → ℕ → ℕ → ℕ
steps_to sizes q w = sum_up q (λ c. get_or sizes c 0) w

-- these cells hold how many steps come before each of the first w waves, and `sum` is how many these waves have
pub record StartsTo (sizes : List ℕ) (q w : ℕ) (starts : List ℕ) (sum : ℕ) : Type 0 where
  pub long : length starts ≡ 24
  pub before : (v : ℕ) → v < w → get_or starts v 0 ≡ steps_to sizes q v
  pub total : sum ≡ steps_to sizes q w

-- the step of b: after those before its wave, and those that its wave takes for the lower banks
unfoldable pub step_by : List ℕ → List ℕ → ℕ → ℕ → ℕ
step_by ws starts q b = get_or starts (get_or ws b 0) 0 + cells_at ws b (get_or ws b 0) / q + 1

-- what serving n banks asks: waves below 24, so many cells of steps, and few steps before each wave
pub record Servable (ws steps starts : List ℕ) (n q : ℕ) : Type 0 where
  pub waves : FewEach ws n
  pub room : n ≤ length steps
  pub crew : Crew q
  pub low : (w : ℕ) → w < 24 → get_or starts w 0 ≤ 26088

-- the first i banks are served: counted by their waves, and their steps stored
pub record ServedTo (ws starts : List ℕ) (n q : ℕ) (was : List ℕ) (i : ℕ) (seen steps : List ℕ) : Type 0 where
  pub counted : Tallied seen (cells_at ws i)
  pub stored : steps ≡ over (take i (cells n (step_by ws starts q))) was

-- all n banks are served, in so many steps
pub record Served (ws : List ℕ) (n q : ℕ) (was : List ℕ) (sum : ℕ) (steps : List ℕ) : Type 0 where
  pub total : sum ≡ sum_up q (cells_at ws n) 24
  pub stored : steps ≡ over (cells n (λ b. sum_up q (cells_at ws n) (get_or ws b 0) + cells_at ws b (get_or ws b 0) / q + 1)) was

-- waves of these sizes end within the limit, with q couriers
abbrev pub ends_by : List ℕ → ℕ → ℕ → Bool
ends_by sizes limit q = leb (steps_to sizes q 24) limit

-- the least q from 1 to 64 with which they do, or 0
abbrev pub least_by_sizes : List ℕ → ℕ → ℕ
least_by_sizes sizes limit = first_from 64 1 (ends_by sizes limit)

-- what crew_steps asks: memory holds a plan, steps has room for it, and q is from 1 to 64
pub record CrewIn (q : ℕ) (s : Slices) (t : Tally) (steps : List ℕ) : Type 0 where
  pub plan : PlanIn s t
  pub room : t.banks ≤ length steps
  pub crew : Crew q
