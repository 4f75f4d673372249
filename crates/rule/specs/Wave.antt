-- The rule wave of a bank (01, "The rule"): its colour by greedy colouring in the rule order.
use Rattle.std.specs.Prelude.{true, false, ℕ, zero, suc, max, eqb, length}
use mathlib.Core.List.{List, map, foldr}
use Rattle.rule.specs.Lists.{memb, upto, filter}
use Rattle.rule.specs.Graph.{Graph, earlier_neighbours}

-- the first of from, from + 1, .., from + steps that is not held, or the last of them
unfoldable pub lowest_from : ℕ → ℕ → List ℕ → ℕ
lowest_from zero from held = from
lowest_from (suc steps) from held = elim (memb from held) [ true ↦ lowest_from steps (suc from) held | false ↦ from ]

-- the smallest number from 0 that is not held: k held numbers leave one of 0 .. k free
unfoldable pub lowest_free : List ℕ → ℕ
lowest_free held = lowest_from (length held) 0 held

-- the rule wave of b, if no chain of ever earlier neighbours from b on has more than `depth` banks
unfoldable pub wave_in : ℕ → Graph → ℕ → ℕ
wave_in zero G b = 0
wave_in (suc depth) G b = lowest_free (map (wave_in depth G) (earlier_neighbours G b))

-- the rule wave of b: the smallest number from 0 not held by an earlier bank that clashes with it
unfoldable pub wave : Graph → ℕ → ℕ
wave G b = wave_in G.banks G b

-- the rule waves of banks 0, 1, ..
unfoldable pub waves : Graph → List ℕ
waves G = map (wave G) (upto G.banks)

-- the number of waves: the highest wave plus 1, or 0 if there is no bank
unfoldable pub wave_count : Graph → ℕ
wave_count G = foldr (λ b k. max (suc (wave G b)) k) 0 (upto G.banks)

-- the banks of wave c, ascending, where n banks have the waves w
unfoldable pub banks_by : (ℕ → ℕ) → ℕ → ℕ → List ℕ
banks_by w n c = filter (λ b. eqb (w b) c) (upto n)

-- the banks of wave c by the rule, ascending
abbrev pub banks_of : Graph → ℕ → List ℕ
banks_of G c = banks_by (wave G) G.banks c
