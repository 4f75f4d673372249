-- What the calls crew_steps and least_crew answer and leave, of what they are lent (02, N13).
use Rattle.std.specs.Prelude.{Bool, ◌&&◌, List, [], ◌∷◌, ℕ, zero, suc, ltb, leb, length, Result}
use Rattle.rule.specs.Graph.{Graph}
use Rattle.rule.specs.declared.refusal.Refusal.{Refusal}
use Rattle.rule.specs.Refusals.{number_in, value_or}
use Rattle.memory.specs.declared.Tally.{Tally}
use Rattle.memory.specs.Cells.{cells, over}
use Rattle.memory.specs.Plan.{Slices, long_enough, graph_in, holds}
use Rattle.planner.specs.Questions.{◌else◌, first_no}
use Rattle.crews.specs.Day.{day, step_of, least_crew}

-- is q from 1 to 64?
unfoldable pub crew_fits : ℕ → Bool
crew_fits q = leb 1 q && leb q 64

-- questions 3 to 5, of which 4 also asks for n cells of steps, then whether q is from 1 to 64
unfoldable pub crew_number : ℕ → Slices → Tally → List ℕ → ℕ
crew_number q s t steps =
    first_no
    ((leb t.banks 1024 else 1)
    ∷ (long_enough t.banks s && leb t.banks (length steps) else 2)
    ∷ (holds s t else 3)
    ∷ (crew_fits q else 24)
    ∷ [])

-- cell b: the step of bank b
unfoldable pub step_cells : ℕ → Graph → List ℕ
step_cells q G = cells G.banks (λ b. step_of b (day q G))

-- what crew_steps answers: its number, and how many steps there are
pub record Crewed : Type 0 where
  pub number : ℕ
  pub total : ℕ

-- refused, 0 steps
abbrev pub crewed : Result ℕ Refusal → Crewed
crewed r = record { number = number_in r; total = value_or r 0 }

-- what crew_steps leaves
pub record CrewResult : Type 0 where
  pub answer : Crewed
  pub steps : List ℕ

abbrev pub crew_result : Crewed → List ℕ → CrewResult
crew_result answer steps = record { answer = answer; steps = steps }

-- by the number of the first no: the total, and the banks' steps at the front of their slice; or the number, and the slice as it was
unfoldable pub crew_by : ℕ → ℕ → Graph → List ℕ → CrewResult
crew_by zero q G steps = crew_result (record { number = 0; total = length (day q G) }) (over (step_cells q G) steps)
crew_by (suc c) q G steps = crew_result (record { number = suc c; total = 0 }) steps

-- the call crew_steps, of any memory and any slice
unfoldable pub crew_steps : ℕ → Slices → Tally → List ℕ → CrewResult
crew_steps q s t steps = crew_by (crew_number q s t steps) q (graph_in t.banks s) steps

-- questions 3 to 5, then whether the limit is at most 1,024, then whether some q from 1 to 64 ends within it
unfoldable pub least_number : ℕ → Slices → Tally → ℕ
least_number limit s t =
    first_no
    ((leb t.banks 1024 else 1)
    ∷ (long_enough t.banks s else 2)
    ∷ (holds s t else 3)
    ∷ (leb limit 1024 else 24)
    ∷ (ltb 0 (least_crew limit (graph_in t.banks s)) else 25)
    ∷ [])

-- what least_crew answers: its number, and how many couriers
pub record LeastCrew : Type 0 where
  pub number : ℕ
  pub couriers : ℕ

-- refused, 0 couriers
abbrev pub least_found : Result ℕ Refusal → LeastCrew
least_found r = record { number = number_in r; couriers = value_or r 0 }

-- by the number of the first no: the least q, or 0 with the number
unfoldable pub least_by : ℕ → ℕ → Graph → LeastCrew
least_by zero limit G = record { number = 0; couriers = least_crew limit G }
least_by (suc c) limit G = record { number = suc c; couriers = 0 }

-- the call least_crew, of any memory
unfoldable pub least_of : ℕ → Slices → Tally → LeastCrew
least_of limit s t = least_by (least_number limit s t) limit (graph_in t.banks s)
