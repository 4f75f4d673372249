-- The day as it is served (02, N13): with q couriers each step serves the q lowest waiting banks of the present wave, or all if fewer; the next wave
-- starts in the step after.
use Rattle.std.specs.Prelude.{Bool, cond, List, [], ◌∷◌, ◌++◌, ℕ, zero, suc, ◌+◌, ◌-◌, ◌/◌, leb, length, take, drop}
use Rattle.rule.specs.Lists.{memb}
use Rattle.rule.specs.Graph.{Graph}
use Rattle.rule.specs.Wave.{wave_count, banks_of}

-- the steps, at most so many, that serve these waiting banks, which ascend: each serves the q lowest, or all if fewer, until none waits
unfoldable pub steps_in : ℕ → ℕ → List ℕ → List (List ℕ)
steps_in zero q waiting = []
steps_in (suc most) q [] = []
steps_in (suc most) q (b ∷ bs) = take q (b ∷ bs) ∷ steps_in most q (drop q (b ∷ bs))

-- the steps that serve a wave: each serves a bank, so there are no more of them than banks
unfoldable pub steps_of : ℕ → List ℕ → List (List ℕ)
steps_of q banks = steps_in (length banks) q banks

-- the steps that serve the first k waves: each wave starts in the step after those before it
unfoldable pub day_to : ℕ → Graph → ℕ → List (List ℕ)
day_to q G zero = []
day_to q G (suc k) = day_to q G k ++ steps_of q (banks_of G k)

-- the day: the steps that serve all waves
unfoldable pub day : ℕ → Graph → List (List ℕ)
day q G = day_to q G (wave_count G)

-- the first of these steps that serves b, from 1; the one after the last if none does
unfoldable pub step_of : ℕ → List (List ℕ) → ℕ
step_of b [] = 1
step_of b (s ∷ ss) = cond (memb b s) 1 (suc (step_of b ss))

-- m divided by q, rounded up
unfoldable pub divided_up : ℕ → ℕ → ℕ
divided_up m q = (m + (q - 1)) / q

-- the sum over the first k waves of their sizes divided by q, each rounded up
unfoldable pub sum_up : ℕ → (ℕ → ℕ) → ℕ → ℕ
sum_up q size zero = 0
sum_up q size (suc k) = sum_up q size k + divided_up (size k) q

-- does the day with q couriers end within so many steps?
unfoldable pub in_time : ℕ → Graph → ℕ → Bool
in_time limit G q = leb (length (day q G)) limit

-- the first of the `count` numbers from q on that passes the test, or 0
unfoldable pub first_from : ℕ → ℕ → (ℕ → Bool) → ℕ
first_from zero q test = 0
first_from (suc count) q test = cond (test q) q (first_from count (suc q) test)

-- the least q from 1 to 64 that ends within so many steps, or 0
unfoldable pub least_crew : ℕ → Graph → ℕ
least_crew limit G = first_from 64 1 (in_time limit G)
