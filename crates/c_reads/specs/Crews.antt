-- What the functions for crews answer and leave, by the definition of their call (02, N13). Where the tally or the result slice is short: 2, and all as
-- it was.
use Rattle.std.specs.Prelude.{List, [], ◌∷◌, ℕ, length}
use Rattle.memory.specs.declared.Tally.{Tally}
use Rattle.memory.specs.Cells.{over}
use Rattle.memory.specs.Plan.{Slices}
use Rattle.crews.specs.Calls.{CrewResult, crew_steps, least_of}
use Rattle.c_cells.specs.CellMemory.{tally_in, short_number, roomed}
use Rattle.c_reads.specs.Reads.{ReadAnswered, read_answered}

-- what crew_steps_in answers and leaves
pub record CrewAnswered : Type 0 where
  pub number : ℕ
  pub steps : List ℕ
  pub result : List ℕ

abbrev pub crew_answered : ℕ → List ℕ → List ℕ → CrewAnswered
crew_answered number steps result = record { number = number; steps = steps; result = result }

-- the total is the result
unfoldable pub crew_done : CrewResult → List ℕ → CrewAnswered
crew_done r result = crew_answered r.answer.number r.steps (over (r.answer.total ∷ []) result)

-- wave_plan_crew_steps
unfoldable pub crew_call : ℕ → Slices → List ℕ → List ℕ → List ℕ → CrewAnswered
crew_call q s tally steps result =
    roomed (short_number 1 (length tally) (length result)) (λ c. crew_answered c steps result) (crew_done (crew_steps q s (tally_in tally) steps) result)

-- the least number of couriers is the result
unfoldable pub least_done : ℕ → Slices → Tally → List ℕ → ReadAnswered
least_done limit s t result = read_answered (least_of limit s t).number (over ((least_of limit s t).couriers ∷ []) result)

-- wave_plan_least_crew
unfoldable pub least_call : ℕ → Slices → List ℕ → List ℕ → ReadAnswered
least_call limit s tally result =
    roomed (short_number 1 (length tally) (length result)) (λ c. read_answered c result) (least_done limit s (tally_in tally) result)
