-- Counts of one bank, from the cells alone: what the code counts, before it is known whose plan they are.
use Rattle.std.specs.Prelude.{Bool, ◌≡◌, ℕ, suc, ◌+◌, ◌*◌, ◌≤◌, ◌<◌, max, eqb, length, get_or, set, take, drop}
use mathlib.Core.List.{List, foldr}
use Rattle.rule.specs.Lists.{upto, filter}
use Rattle.rule.specs.Order.{earlier_by}

-- p is earlier than q, by the cells of degrees and ranks
unfoldable pub by_cells : List ℕ → List ℕ → ℕ → ℕ → Bool
by_cells ds rs p q = earlier_by (get_or ds p 0) (get_or rs p 0) p (get_or ds q 0) (get_or rs q 0) q

-- how many of these banks have the wave c
unfoldable pub standing : (ℕ → ℕ) → ℕ → List ℕ → ℕ
standing wave c banks = length (filter (λ v. eqb (wave v) c) banks)

-- of these banks, those that are earlier than b and stand in wave c, by the cells
abbrev pub count_in : List ℕ → List ℕ → List ℕ → ℕ → List ℕ → ℕ → ℕ
count_in ds rs ws b banks c = standing (λ v. get_or ws v 0) c (filter (λ v. by_cells ds rs v b) banks)

-- the cells from which a bank can be counted: its row names banks, and each bank has a wave below 24
pub record Countable (ns ds rs ws : List ℕ) (n b : ℕ) : Type 0 where
  pub most : n ≤ 1024
  pub bank : b < n
  pub long_neighbours : n * 23 ≤ length ns
  pub long_degrees : n ≤ length ds
  pub long_ranks : n ≤ length rs
  pub long_waves : n ≤ length ws
  pub few : get_or ds b 0 ≤ 23
  pub named : (i : ℕ) → i < get_or ds b 0 → get_or ns (b * 23 + i) 0 < n
  pub small : (x : ℕ) → x < n → get_or ws x 0 < 24

-- 24 cells with a count for each wave
pub record Tallied (row : List ℕ) (count : ℕ → ℕ) : Type 0 where
  pub long : length row ≡ 24
  pub counts : (c : ℕ) → c < 24 → get_or row c 0 ≡ count c

-- these 24 cells count the first k banks of b's row
abbrev pub CountedTo : List ℕ → List ℕ → List ℕ → List ℕ → List ℕ → ℕ → ℕ → Type 0
CountedTo ns ds rs ws row b k = Tallied row (count_in ds rs ws b (take k (drop (b * 23) ns)))

-- the largest of the first n cells plus 1, or 0 if n is 0
unfoldable pub most_of : List ℕ → ℕ → ℕ
most_of cells n = foldr (λ (b k : ℕ). max (suc (get_or cells b 0)) k) 0 (upto n)

-- one more in cell k
abbrev pub grown : List ℕ → ℕ → List ℕ
grown cells k = set cells k (get_or cells k 0 + 1)
