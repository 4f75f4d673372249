-- What a function that writes bytes leaves, of what its calls left: by the definition of its call. `short` is what `room` answered.
use mathlib.Core.List.{List, [], ◌∷◌}
use mathlib.Core.Path.{◌≡◌, ap, ◌∙◌}
use Prim.Native.Nat.{ℕ}
use lib.ListN.{length}
use Rattle.memory.specs.declared.Tally.{Tally}
use Rattle.memory.specs.Cells.{over}
use Rattle.memory.specs.Plan.{Slices}
use Rattle.c_cells.specs.CellMemory.{tally_in, short_number}
use Rattle.c_cells.proofs.Rooms.{roomed_none}
use Rattle.c_texts.specs.Texts.{TextOutcome, text_answered, text_done, text_call}

module _ (write : Slices → Tally → List ℕ → TextOutcome) (s : Slices) (tally out result : List ℕ) (short : ℕ) where
  pub text_done-law : (t : Tally) (x : TextOutcome) (result' : List ℕ)
      → short ≡ short_number 1 (length tally) (length result)
      → short ≡ 0
      → t ≡ tally_in tally
      → x ≡ write s t out
      → result' ≡ over (x.length ∷ []) result
      → text_answered x.number x.out result' ≡ text_call write s tally out result
  unfolding text_call text_done
  text_done-law t x result' is none at made put =
      ap (text_answered x.number x.out) put
      ∙ ap (λ (y : TextOutcome). text_done y result) (made ∙ ap (λ (u : Tally). write s u out) at)
      ∙ roomed_none 1 (length tally) (length result) short is (λ c. text_answered c out result) _ none
