-- Plan memory, cell by cell (01, "Plan memory"; 02, N6: ranks, N9: the cap).
use Rattle.std.specs.Prelude.{Bool, true, ◌&&◌, ◌||◌, not, ◌≡◌, ℕ, ◌+◌, ◌*◌, ◌/◌, ◌%◌, ◌≤◌, ◌<◌, T, ltb, leb, eqb, length, get_or, take, drop}
use mathlib.Core.List.{List, foldr}
use Rattle.rule.specs.Lists.{upto, filter, memb, some}
use Rattle.rule.specs.Graph.{Graph, neighbours, degree, earlier_neighbours}
use Rattle.rule.specs.Wave.{wave, waves, wave_count}
use Rattle.memory.specs.declared.Tally.{Tally}
use Rattle.memory.specs.Cells.{cells, over, starts}

-- the five slices of plan memory
pub record Slices : Type 0 where
  pub neighbours : List ℕ
  pub degrees : List ℕ
  pub waves : List ℕ
  pub counts : List ℕ
  pub ranks : List ℕ

abbrev pub slices_of : List ℕ → List ℕ → List ℕ → List ℕ → List ℕ → Slices
slices_of neighbours degrees waves counts ranks =
    record { neighbours = neighbours; degrees = degrees; waves = waves; counts = counts; ranks = ranks }

-- are they long enough for n banks?
unfoldable pub long_enough : ℕ → Slices → Bool
long_enough n s =
    leb (23 * n) (length s.neighbours)
    && (leb n (length s.degrees) && (leb n (length s.waves) && (leb (24 * n) (length s.counts) && leb n (length s.ranks))))

-- cell 23 b + i: the i-th bank that clashes with b, ascending, or 65,535
unfoldable pub neighbour_cells : Graph → List ℕ
neighbour_cells G = cells (23 * G.banks) (λ i. get_or (neighbours G (i / 23)) (i % 23) 65535)

-- cell b: the degree of b
unfoldable pub degree_cells : Graph → List ℕ
degree_cells G = cells G.banks (degree G)

-- cell 24 b + c: how many earlier neighbours of b stand in wave c
unfoldable pub count_cells : Graph → List ℕ
count_cells G = cells (24 * G.banks) (λ i. length (filter (λ v. eqb (wave G v) (i % 24)) (earlier_neighbours G (i / 24))))

-- cell b: the rank of b
unfoldable pub rank_cells : Graph → List ℕ
rank_cells G = cells G.banks G.rank

-- the number of clashes: each is counted at both of its banks
unfoldable pub clash_count : Graph → ℕ
clash_count G = foldr (λ b m. degree G b + m) 0 (upto G.banks) / 2

-- the tally of G, with a cap
unfoldable pub tally_of : ℕ → Graph → Tally
tally_of cap G = record { banks = G.banks; clashes = clash_count G; waves = wave_count G; cap = cap }

-- the slices with the plan of G at their fronts; the cells beyond stay
unfoldable pub plan_in : Graph → Slices → Slices
plan_in G s = record {
  neighbours = over (neighbour_cells G) s.neighbours;
  degrees = over (degree_cells G) s.degrees;
  waves = over (waves G) s.waves;
  counts = over (count_cells G) s.counts;
  ranks = over (rank_cells G) s.ranks;
}

-- the clashes that the rows of n banks name, and the ranks in their cells
unfoldable pub graph_in : ℕ → Slices → Graph
graph_in n s = record { banks = n; clash = λ x y. memb y (take 23 (drop (23 * x) s.neighbours)); rank = λ x. get_or s.ranks x 0 }

-- no bank clashes with itself, and each clash stands in both rows
unfoldable pub proper : Graph → Bool
proper G =
    not (some (λ x. G.clash x x || some (λ y. G.clash x y && not (G.clash y x)) (upto G.banks)) (upto G.banks))

-- no rank is above 9,999
unfoldable pub low_ranks : Graph → Bool
low_ranks G = not (some (λ x. ltb 9999 (G.rank x)) (upto G.banks))

-- is memory, cell by cell, the plan of the clashes that its rows name and of its ranks, the tally's numbers included?
unfoldable pub is_plan : Slices → Tally → Bool
is_plan s t =
    let G = graph_in t.banks s in
    proper G
    && (low_ranks G
    && (starts (neighbour_cells G) s.neighbours
    && (starts (degree_cells G) s.degrees
    && (starts (waves G) s.waves
    && (starts (count_cells G) s.counts
    && (starts (rank_cells G) s.ranks
    && (eqb t.clashes (clash_count G) && eqb t.waves (wave_count G))))))))

-- is the tally's cap from 1 to 24, and not below its waves?
unfoldable pub cap_fits : Tally → Bool
cap_fits t = leb 1 t.cap && (leb t.cap 24 && leb t.waves t.cap)

-- question 5: does memory hold a plan, under a cap that fits it?
unfoldable pub holds : Slices → Tally → Bool
holds s t = is_plan s t && cap_fits t

-- a set of clashes of different banks, at most 23 of each bank, on at most 1,024 banks of ranks up to 9,999
pub record Clashes (G : Graph) : Type 0 where
  pub most : G.banks ≤ 1024
  pub symmetric : (x y : ℕ) → x < G.banks → y < G.banks → G.clash x y ≡ G.clash y x
  pub apart : (x : ℕ) → x < G.banks → T (G.clash x x) → ⊥
  pub few : (x : ℕ) → x < G.banks → degree G x ≤ 23
  pub ranks : (x : ℕ) → x < G.banks → G.rank x ≤ 9999

-- memory holds the plan of G: it is cell by cell what "Plan memory" gives for these clashes and ranks, the tally included, whatever its cap
pub record PlanOf (G : Graph) (s : Slices) (t : Tally) : Type 0 where
  pub clashes : Clashes G
  pub long : long_enough G.banks s ≡ true
  pub cells : plan_in G s ≡ s
  pub tally : t ≡ tally_of t.cap G
