-- Days of small plans, as rows of one list, and one theorem that computes them all: M1, M5 and M9 of 01, and a wave of five banks.
use Rattle.std.specs.Prelude.{Bool, true, false, ◌&&◌, ℕ, T, eqb}
use mathlib.Core.List.{List, [], ◌∷◌, foldr}
use Rattle.rule.specs.Lists.{upto, filter, some, memb}
use Rattle.rule.specs.Order.{tie_by, earlier_by}
use Rattle.rule.specs.Graph.{Graph, neighbours, degree, earlier, earlier_neighbours, empty, pair, added}
use Rattle.rule.specs.Wave.{lowest_from, lowest_free, wave_in, wave, wave_count, banks_by}
use Rattle.memory.specs.Cells.{cells}
use Rattle.crews.specs.Day.{steps_in, steps_of, day_to, day, step_of, in_time, first_from, least_crew}
use Rattle.crews.specs.Calls.{step_cells}

-- are the two lists equal?
same : List ℕ → List ℕ → Bool
same [] [] = true
same [] (y ∷ ys) = false
same (x ∷ xs) [] = false
same (x ∷ xs) (y ∷ ys) = eqb x y && same xs ys

-- and the two lists of steps?
same_steps : List (List ℕ) → List (List ℕ) → Bool
same_steps [] [] = true
same_steps [] (y ∷ ys) = false
same_steps (x ∷ xs) [] = false
same_steps (x ∷ xs) (y ∷ ys) = same x y && same_steps xs ys

-- a row: n and the clashes; or the day with q couriers in the row before, and the steps of its banks; or the least q there for a limit, or 0
pub data Case : Type 0 where
  given : ℕ → List (ℕ × ℕ) → Case
  served : ℕ → List (List ℕ) → List ℕ → Case
  within : ℕ → ℕ → Case

-- the clashes of a row, from those of the row before
pub clashes_of : Case → Graph → Graph
clashes_of (given n pairs) G = foldr (λ p H. added H p.0 p.1) (empty n) pairs
clashes_of (served q steps cells) G = G
clashes_of (within limit q) G = G

-- is the row as the definitions have it?
pub right : Case → Graph → Bool
right (given n pairs) G = true
right (served q steps cells) G = same_steps (day q G) steps && same (step_cells q G) cells
right (within limit q) G = eqb (least_crew limit G) q

-- are they all, each from the row before?
pub all_right : List Case → Graph → Bool
all_right [] G = true
all_right (c ∷ cs) G = right c G && all_right cs (clashes_of c G)

pub cases : List Case
cases =
    -- M1
    given 0 []
    ∷ served 1 [] []
    ∷ within 0 1
    -- M5: waves 1 0 1 0
    ∷ given 4 ((0, 1) ∷ (1, 2) ∷ (2, 3) ∷ [])
    ∷ served 1 ((1 ∷ []) ∷ (3 ∷ []) ∷ (0 ∷ []) ∷ (2 ∷ []) ∷ []) (3 ∷ 1 ∷ 4 ∷ 2 ∷ [])
    ∷ served 2 ((1 ∷ 3 ∷ []) ∷ (0 ∷ 2 ∷ []) ∷ []) (2 ∷ 1 ∷ 2 ∷ 1 ∷ [])
    -- M9: waves 0 0 1 2 1 1
    ∷ given 6 ((0, 4) ∷ (0, 2) ∷ (2, 3) ∷ (1, 3) ∷ (1, 5) ∷ [])
    ∷ served 1 ((0 ∷ []) ∷ (1 ∷ []) ∷ (2 ∷ []) ∷ (4 ∷ []) ∷ (5 ∷ []) ∷ (3 ∷ []) ∷ []) (1 ∷ 2 ∷ 3 ∷ 6 ∷ 4 ∷ 5 ∷ [])
    ∷ served 2 ((0 ∷ 1 ∷ []) ∷ (2 ∷ 4 ∷ []) ∷ (5 ∷ []) ∷ (3 ∷ []) ∷ []) (1 ∷ 1 ∷ 2 ∷ 4 ∷ 2 ∷ 3 ∷ [])
    ∷ served 64 ((0 ∷ 1 ∷ []) ∷ (2 ∷ 4 ∷ 5 ∷ []) ∷ (3 ∷ []) ∷ []) (1 ∷ 1 ∷ 2 ∷ 3 ∷ 2 ∷ 2 ∷ [])
    ∷ within 2 0
    ∷ within 3 3
    ∷ within 4 2
    ∷ within 5 2
    ∷ within 6 1
    -- one wave of five banks
    ∷ given 5 []
    ∷ served 2 ((0 ∷ 1 ∷ []) ∷ (2 ∷ 3 ∷ []) ∷ (4 ∷ []) ∷ []) (1 ∷ 1 ∷ 2 ∷ 2 ∷ 3 ∷ [])
    ∷ within 0 0
    ∷ within 1 5
    ∷ within 2 3
    ∷ []

pub examples_hold : T (all_right cases (empty 0))
unfolding same same_steps clashes_of right all_right cases upto filter some memb tie_by earlier_by neighbours degree earlier
    earlier_neighbours pair lowest_from lowest_free wave_in wave wave_count cells banks_by
    steps_in steps_of day_to day step_of in_time first_from least_crew step_cells
examples_hold = tt
