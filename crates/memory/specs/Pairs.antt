-- The clashes of a plan as pairs: for the theorem that the tally counts them.
use mathlib.Core.List.{List, map, flat_map}
use Rattle.std.specs.Prelude.{ℕ}
use Rattle.rule.specs.Lists.{upto, filter}
use Rattle.rule.specs.Graph.{Graph}

-- the banks a below b that clash with it
abbrev pub clashes_below : Graph → ℕ → List ℕ
clashes_below G b = filter (λ a. G.clash a b) (upto b)

-- the pairs a < b that clash
unfoldable pub pairs : Graph → List (ℕ × ℕ)
pairs G = flat_map (λ b. map (λ a. (a, b)) (clashes_below G b)) (upto G.banks)
