-- The same plan with other bank numbers (02, N6): clashes and ranks go with their banks.
use Rattle.std.specs.Prelude.{◌≢◌, ◌≡◌, ℕ, ◌<◌}
use Rattle.rule.specs.Graph.{Graph}

-- H is G with its banks renumbered: bank x of G is bank `to x` of H, and bank y of H is bank `from y` of G
pub record Renumbered (G H : Graph) (to from : ℕ → ℕ) : Type 0 where
  pub banks : H.banks ≡ G.banks
  -- both take banks to banks, and each undoes the other
  pub to_bank : (x : ℕ) → x < G.banks → to x < G.banks
  pub from_bank : (y : ℕ) → y < G.banks → from y < G.banks
  pub back : (x : ℕ) → x < G.banks → from (to x) ≡ x
  pub forth : (y : ℕ) → y < G.banks → to (from y) ≡ y
  -- each bank keeps its clashes and its rank
  pub clash : (x y : ℕ) → x < G.banks → y < G.banks → H.clash (to x) (to y) ≡ G.clash x y
  pub rank : (x : ℕ) → x < G.banks → H.rank (to x) ≡ G.rank x

-- no two banks have the same rank
abbrev pub RanksDiffer : Graph → Type 0
RanksDiffer G = (x y : ℕ) → x < G.banks → y < G.banks → x ≢ y → G.rank x ≢ G.rank y
