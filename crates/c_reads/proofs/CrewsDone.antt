-- What the functions for crews leave, of what their calls left: by the definition of their call. `short` is what `room` answered.
use mathlib.Core.List.{List, [], ◌∷◌}
use mathlib.Core.Path.{◌≡◌, ap, ◌∙◌}
use Prim.Native.Nat.{ℕ}
use lib.ListN.{length}
use Rattle.memory.specs.declared.Tally.{Tally}
use Rattle.memory.specs.Cells.{over}
use Rattle.memory.specs.Plan.{Slices}
use Rattle.crews.specs.Calls.{Crewed, LeastCrew, CrewResult, crew_result, crew_steps, least_of}
use Rattle.c_cells.specs.CellMemory.{tally_in, short_number}
use Rattle.c_cells.proofs.Rooms.{roomed_none}
use Rattle.c_reads.specs.Reads.{read_answered}
use Rattle.c_reads.specs.Crews.{crew_answered, crew_done, crew_call, least_done, least_call}
use Rattle.c_reads.proofs.Done.{one_done}

module _ (s : Slices) (tally result : List ℕ) (short : ℕ) (t : Tally) (at : t ≡ tally_in tally) (none : short ≡ 0)
    (is : short ≡ short_number 1 (length tally) (length result)) where
  pub crew_done-law : (q : ℕ) (steps : List ℕ) (r : Crewed) (steps' result' : List ℕ)
      → crew_result r steps' ≡ crew_steps q s t steps
      → result' ≡ over (r.total ∷ []) result
      → crew_answered r.number steps' result' ≡ crew_call q s tally steps result
  unfolding crew_call crew_done
  crew_done-law q steps r steps' result' call put =
      rw (← at)
      (ap (crew_answered r.number steps') put
      ∙ ap (λ (x : CrewResult). crew_answered x.answer.number x.steps (over (x.answer.total ∷ []) result)) call
      ∙ roomed_none 1 (length tally) (length result) short is (λ c. crew_answered c steps result) _ none)

  pub least_done-law : (limit : ℕ) (r : LeastCrew) (result' : List ℕ)
      → r ≡ least_of limit s t
      → result' ≡ over (r.couriers ∷ []) result
      → read_answered r.number result' ≡ least_call limit s tally result
  unfolding least_call least_done
  least_done-law limit r result' call put =
      one_done tally result short t at none (λ u. (least_of limit s u).number) (λ u. (least_of limit s u).couriers) r.number r.couriers result' is
      (ap (λ (x : LeastCrew). x.number) call) (ap (λ (x : LeastCrew). x.couriers) call) put
