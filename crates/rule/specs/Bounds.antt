-- How many waves a plan has at most, by its degrees alone (02, N8; Welsh and Powell).
use mathlib.Core.List.{List, [], ◌∷◌, foldr}
use Rattle.std.specs.Prelude.{ℕ, suc, max, min, leb, length}
use Rattle.rule.specs.Lists.{upto, filter}
use Rattle.rule.specs.Graph.{Graph, degree, order}

-- of banks numbered off from `from`: the largest over i of the smaller of i and one plus the degree of the i-th; 0 if there are none
unfoldable pub largest_from : ℕ → (ℕ → ℕ) → List ℕ → ℕ
largest_from from degrees [] = 0
largest_from from degrees (b ∷ bs) = max (min from (suc (degrees b))) (largest_from (suc from) degrees bs)

-- the largest over i, from 1, of the smaller of i and one plus the degree of the i-th bank in rule order; 0 if there are no banks
unfoldable pub wave_bound : Graph → ℕ
wave_bound G = largest_from 1 (degree G) (order G)

-- the largest degree, or 0 if there are no banks
unfoldable pub largest_degree : Graph → ℕ
largest_degree G = foldr (λ b m. max (degree G b) m) 0 (upto G.banks)

-- the number of banks of degree d or more
unfoldable pub banks_from : Graph → ℕ → ℕ
banks_from G d = length (filter (λ b. leb d (degree G b)) (upto G.banks))
