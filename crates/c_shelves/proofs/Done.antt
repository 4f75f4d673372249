-- What each function leaves, of what its calls left: by the definition of its call. `short` is what `room` answered.
use mathlib.Core.List.{List, [], ◌∷◌}
use mathlib.Core.Path.{◌≡◌, ap, ap₂, ◌∙◌}
use Prim.Native.Nat.{ℕ}
use lib.ListN.{length}
use Rattle.memory.specs.declared.Tally.{Tally}
use Rattle.memory.specs.Cells.{over}
use Rattle.memory.specs.Plan.{Slices}
use Rattle.checkpoints.specs.Calls.{ShelfResult, shelf_result, keep, BackResult, come_back}
use Rattle.c_cells.specs.CellMemory.{tally_in, tally_cells, short_number}
use Rattle.c_cells.proofs.Rooms.{roomed_none}
use Rattle.c_shelves.specs.Shelves.{keep_call, back_answered, back_done, come_back_call}

module _ (name : List ℕ) (s : Slices) (tally shelf : List ℕ) (short : ℕ) (t : Tally) (at : t ≡ tally_in tally) (none : short ≡ 0) where
  pub keep_done : (x : ShelfResult) → short ≡ short_number 0 (length tally) 0 → x ≡ keep name s t shelf → x ≡ keep_call name s tally shelf
  unfolding keep_call
  keep_done x is made =
      made
      ∙ ap (λ (u : Tally). keep name s u shelf) at
      ∙ roomed_none 0 (length tally) 0 short is (λ c. shelf_result c shelf) _ none

  pub back_done-law : (moved result : List ℕ) (x : BackResult) (tally' result' : List ℕ)
      → short ≡ short_number 1 (length tally) (length result)
      → x ≡ come_back name s t moved shelf
      → tally' ≡ over (tally_cells x.tally) tally
      → result' ≡ over (x.count ∷ []) result
      → back_answered x.number x.slices x.moved tally' result' ≡ come_back_call name s moved tally shelf result
  unfolding come_back_call back_done
  back_done-law moved result x tally' result' is made tallied told =
      ap₂ (back_answered x.number x.slices x.moved) tallied told
      ∙ ap (λ (y : BackResult). back_done y tally result) (made ∙ ap (λ (u : Tally). come_back name s u moved shelf) at)
      ∙ roomed_none 1 (length tally) (length result) short is (λ c. back_answered c s moved tally result) _ none
