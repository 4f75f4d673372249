-- What the program crew prints of a plan, by what it is asked (02, N13): the day of a crew, or a refusal.
use Rattle.std.specs.Prelude.{List, [], ◌∷◌, ◌++◌, ℕ, zero, suc, replicate}
use Rattle.rule.specs.Graph.{Graph}
use Rattle.memory.specs.declared.Tally.{Tally}
use Rattle.memory.specs.Plan.{Slices, graph_in}
use Rattle.list_program.specs.Answers.{named, refused_text}
use Rattle.crews.specs.Calls.{crew_number, least_number}
use Rattle.crews.specs.Day.{least_crew}
use Rattle.crew_lines.specs.Lines.{day_text}
use Rattle.crew_lines.specs.declared.plan.Question.{Question}
use Rattle.crew_lines.specs.declared.plan.Question.TheVariants.{Couriers, Within}

-- by the number of crew_steps: the lines of the day of q couriers, or `CREW q REFUSED c`
unfoldable pub couriers_by : ℕ → ℕ → Graph → List ℕ
couriers_by zero q G = day_text q G
couriers_by (suc c) q G = refused_text (67 ∷ 82 ∷ 69 ∷ 87 ∷ 32 ∷ []) q (suc c)

-- of q couriers; the program lends 1,024 cells for the steps
unfoldable pub couriers_text : ℕ → Slices → Tally → List ℕ
couriers_text q s t = couriers_by (crew_number q s t (replicate 1024 0)) q (graph_in t.banks s)

-- `CREW q`
unfoldable pub crew_text : ℕ → List ℕ
crew_text q = named (67 ∷ 82 ∷ 69 ∷ 87 ∷ 32 ∷ []) q ++ (10 ∷ [])

-- by the number of least_crew: `CREW q` and the lines of q couriers, or `WITHIN L REFUSED c`
unfoldable pub within_by : ℕ → ℕ → ℕ → Slices → Tally → List ℕ
within_by zero limit q s t = crew_text q ++ couriers_text q s t
within_by (suc c) limit q s t = refused_text (87 ∷ 73 ∷ 84 ∷ 72 ∷ 73 ∷ 78 ∷ 32 ∷ []) limit (suc c)

-- of the fewest couriers who end within so many steps
unfoldable pub within_text : ℕ → Slices → Tally → List ℕ
within_text limit s t = within_by (least_number limit s t) limit (least_crew limit (graph_in t.banks s)) s t

-- of a plan, by what is asked
unfoldable pub plan_text : Question → Slices → Tally → List ℕ
plan_text (Couriers q) s t = couriers_text q s t
plan_text (Within limit) s t = within_text limit s t
