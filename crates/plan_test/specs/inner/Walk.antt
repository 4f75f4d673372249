-- The walk over the clashes that question 5 takes: what its cursors and its cells hold on the way.
use Rattle.std.specs.Prelude.{Bool, true, false, cond, List, [], ◌∷◌, ◌++◌, ◌≡◌, ℕ, ◌+◌, ◌*◌, ◌≤◌, ◌<◌, T, length, get_or, take}
use Rattle.rule.specs.Lists.{upto, filter, memb}
use Rattle.memory.specs.inner.Counts.{by_cells, CountedTo}
use Rattle.memory.specs.inner.Test.{row, part, Rows, WavesSmall, Symmetric}

-- the cell in which the earlier of two banks is counted for the later one
abbrev pub pair_cell : List ℕ → List ℕ → List ℕ → ℕ → ℕ → ℕ
pair_cell ds rs ws b v = cond (by_cells ds rs b v) (v * 24 + get_or ws b 0) (b * 24 + get_or ws v 0)

-- two banks of which one can be counted for the other
pub record Pairable (ds rs ws : List ℕ) (b v : ℕ) : Type 0 where
  pub few : (b < 1024) × (v < 1024)
  pub long_degrees : (b < length ds) × (v < length ds)
  pub long_ranks : (b < length rs) × (v < length rs)
  pub long_waves : (b < length ws) × (v < length ws)
  pub small : (get_or ws b 0 < 24) × (get_or ws v 0 < 24)

-- the banks below b that name v
unfoldable pub naming : List ℕ → ℕ → ℕ → List ℕ
naming ns b v = filter (λ x. memb v (row ns x)) (upto b)

-- the part of x counts the first k cells of its row
abbrev pub PartTo : List ℕ → List ℕ → List ℕ → List ℕ → List ℕ → ℕ → ℕ → Type 0
PartTo ns ds rs ws cells x k = CountedTo ns ds rs ws (part cells x) x k

-- what the walk stands on: rows that are right, waves below 24, and cursors that stay within their rows
pub record Ground (ns ds rs ws : List ℕ) (n : ℕ) (cursors cells : List ℕ) : Type 0 where
  pub rows : Rows ns ds n
  pub long_ranks : n ≤ length rs
  pub waves : WavesSmall ws n
  pub long_cursors : length cursors ≡ 1024
  pub long_cells : length cells ≡ 24576
  pub within : (v : ℕ) → v < n → get_or cursors v 0 ≤ get_or ds v 0

-- the walk before the row of b: the row of each bank from b on names first, up to its cursor, the banks below b that name
-- it; the rows below b are met and counted, and the others are counted up to their cursors
pub record Seen (ns ds rs ws : List ℕ) (n b : ℕ) (cursors cells : List ℕ) : Type 0 where
  pub ground : Ground ns ds rs ws n cursors cells
  pub fronts : (v : ℕ) → b ≤ v → v < n → take (get_or cursors v 0) (row ns v) ≡ naming ns b v
  pub met : (x y : ℕ) → x < b → y < n → T (memb y (row ns x)) → T (memb x (row ns y))
  pub done : (x : ℕ) → x < b → PartTo ns ds rs ws cells x (get_or ds x 0)
  pub begun : (x : ℕ) → b ≤ x → x < n → PartTo ns ds rs ws cells x (get_or cursors x 0)

-- the walk within the row of b, before its cell i
pub record Walk (ns ds rs ws : List ℕ) (n b i : ℕ) (cursors cells : List ℕ) : Type 0 where
  pub ground : Ground ns ds rs ws n cursors cells
  pub bank : b < n
  pub past : get_or cursors b 0 ≤ i
  pub own : take (get_or cursors b 0) (row ns b) ≡ naming ns b b
  pub fronts : (v : ℕ) → b < v → v < n
      → take (get_or cursors v 0) (row ns v) ≡ cond (memb v (take i (row ns b))) (naming ns b v ++ (b ∷ [])) (naming ns b v)
  pub met : (x y : ℕ) → x < b → y < n → T (memb y (row ns x)) → T (memb x (row ns y))
  pub here : (j : ℕ) → get_or cursors b 0 ≤ j → j < i → T (memb b (row ns (get_or (row ns b) j 0)))
  pub done : (x : ℕ) → x < b → PartTo ns ds rs ws cells x (get_or ds x 0)
  pub half : PartTo ns ds rs ws cells b i
  pub begun : (x : ℕ) → b < x → x < n → PartTo ns ds rs ws cells x (get_or cursors x 0)

-- the walk goes on, or the rows are not symmetric
abbrev pub OrNot : Type 0 → List ℕ → ℕ → Bool → Type 0
OrNot state ns n true = state
OrNot state ns n false = Symmetric ns n → ⊥
