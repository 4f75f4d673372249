-- The plan cells in the slices, of n banks and of one bank (01, "Calls"): for the theorems that compare them.
use Rattle.std.specs.Prelude.{List, ◌≡◌, ℕ, ◌+◌, ◌*◌, ◌<◌, get_or, take}
use Rattle.memory.specs.Plan.{Slices}

-- the plan cells of n banks
pub record PlanCells : Type 0 where
  pub neighbours : List ℕ
  pub degrees : List ℕ
  pub waves : List ℕ
  pub counts : List ℕ
  pub ranks : List ℕ

abbrev pub plan_cells : ℕ → Slices → PlanCells
plan_cells n s = record {
  neighbours = take (23 * n) s.neighbours;
  degrees = take n s.degrees;
  waves = take n s.waves;
  counts = take (24 * n) s.counts;
  ranks = take n s.ranks;
}

-- the plan cells of bank x, its row, its degree, its wave, its 24 cells of Counts and its rank, are what they were
pub record SameCells (was is : Slices) (x : ℕ) : Type 0 where
  pub row : (i : ℕ) → i < 23 → get_or is.neighbours (x * 23 + i) 0 ≡ get_or was.neighbours (x * 23 + i) 0
  pub degree : get_or is.degrees x 0 ≡ get_or was.degrees x 0
  pub wave : get_or is.waves x 0 ≡ get_or was.waves x 0
  pub counts : (c : ℕ) → c < 24 → get_or is.counts (x * 24 + c) 0 ≡ get_or was.counts (x * 24 + c) 0
  pub rank : get_or is.ranks x 0 ≡ get_or was.ranks x 0
