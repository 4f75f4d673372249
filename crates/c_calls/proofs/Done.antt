-- What each function leaves, of what its calls left: by the definition of its call. `short` is what `room` answered.
use mathlib.Core.List.{List, [], ◌∷◌}
use mathlib.Core.Path.{◌≡◌, ap, ◌∙◌}
use Prim.Native.Nat.{ℕ}
use lib.ListN.{length}
use Rattle.rule.specs.declared.Kind.{Kind}
use Rattle.memory.specs.declared.Tally.{Tally}
use Rattle.memory.specs.Cells.{over}
use Rattle.memory.specs.Plan.{Slices}
use Rattle.memory.specs.Memory.{Memory, memory_of}
use Rattle.planner.specs.Calls.{OpenResult, opened}
use Rattle.edit_calls.specs.Calls.{CapResult, set_cap}
use Rattle.journal.specs.Calls.{RecordResult, recorded}
use Rattle.c_cells.specs.CellMemory.{tally_in, tally_cells, short_number, CellMemory, cells_of}
use Rattle.c_cells.proofs.Rooms.{roomed_none}
use Rattle.c_cells.proofs.Calls.{on_memory, put_as}
use Rattle.c_calls.specs.Calls.{open_answered, open_done, open_call, cap_answered, cap_done, cap_call, record_answered, record_done, record_call}

module _ (s : Slices) (tally : List ℕ) (short : ℕ) (is : short ≡ short_number 0 (length tally) 0) where
  pub open_done-law : (n : ℕ) (t : Tally) (o : OpenResult) (tally' : List ℕ)
      → short ≡ 0
      → t ≡ tally_in tally
      → o ≡ opened n s t
      → tally' ≡ over (tally_cells o.tally) tally
      → open_answered o.number o.slices tally' ≡ open_call n s tally
  unfolding open_call open_done
  open_done-law n t o tally' none at made put =
      ap (open_answered o.number o.slices) put
      ∙ ap (λ (x : OpenResult). open_done x tally) (made ∙ ap (opened n s) at)
      ∙ roomed_none 0 (length tally) 0 short is (λ c. open_answered c s tally) _ none

  pub cap_done-law : (cap : ℕ) (t : Tally) (o : CapResult) (tally' : List ℕ)
      → short ≡ 0
      → t ≡ tally_in tally
      → o ≡ set_cap cap s t
      → tally' ≡ over (tally_cells o.tally) tally
      → cap_answered o.number tally' ≡ cap_call cap s tally
  unfolding cap_call cap_done
  cap_done-law cap t o tally' none at made put =
      ap (cap_answered o.number) put
      ∙ ap (λ (x : CapResult). cap_done x tally) (made ∙ ap (set_cap cap s) at)
      ∙ roomed_none 0 (length tally) 0 short is (λ c. cap_answered c tally) _ none

module _ (l : CellMemory) (short : ℕ) where
  pub record_done-law : (k : Kind) (a b size : ℕ) (journal : List ℕ) (t : Tally) (x : RecordResult) (tally' result' : List ℕ)
      → short ≡ short_number 3 (length l.tally) (length l.result)
      → short ≡ 0
      → t ≡ tally_in l.tally
      → x ≡ recorded k a b (memory_of l.slices l.trail l.moved t) size journal
      → tally' ≡ over (tally_cells x.memory.tally) l.tally
      → result' ≡ over (x.answer.moved ∷ x.answer.trail ∷ x.answer.length ∷ []) l.result
      → record_answered x.answer.number (cells_of x.memory.slices x.memory.trail x.memory.moved tally' result') x.journal
      ≡ record_call k a b l size journal
  unfolding record_call record_done
  record_done-law k a b size journal t x tally' result' is none at made tallied told =
      ap (λ (c : CellMemory). record_answered x.answer.number c x.journal) (put_as l x.memory _ tally' result' tallied told)
      ∙ ap (λ (y : RecordResult). record_done y l) (on_memory l (λ (m : Memory). recorded k a b m size journal) t x at made)
      ∙ roomed_none 3 (length l.tally) (length l.result) short is (λ c. record_answered c l journal) _ none
