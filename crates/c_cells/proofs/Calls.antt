-- Calls on lent cells: what they leave, of what `room`, `tally_in`, the call on memory and `put_answer` left.
use mathlib.Core.List.{List}
use mathlib.Core.Path.{◌≡◌, sym, ap, ap₂, ◌∙◌}
use Prim.Native.Nat.{ℕ}
use lib.ListN.{length}
use Rattle.memory.specs.declared.Tally.{Tally}
use Rattle.memory.specs.Cells.{over}
use Rattle.memory.specs.Memory.{Memory, memory_of}
use Rattle.c_cells.specs.CellMemory.{tally_in, tally_cells, short_number, CellMemory, cells_of, memory_in, leaving, Outcome, answered, done, on_cells}
use Rattle.c_cells.proofs.Rooms.{roomed_none, roomed_some}

module _ (l : CellMemory) where
  -- the lent memory, with the tally that was read from its cells
  pub memory_with-law : (t : Tally) → t ≡ tally_in l.tally → memory_in l ≡ memory_of l.slices l.trail l.moved t
  unfolding memory_in
  memory_with-law t is = ap (memory_of l.slices l.trail l.moved) (sym is)

  -- a call on the lent slices and the tally that was read from its cells is one on the lent memory
  pub on_memory : {R : Type 0} (f : Memory → R) (t : Tally) (x : R)
      → t ≡ tally_in l.tally
      → x ≡ f (memory_of l.slices l.trail l.moved t)
      → x ≡ f (memory_in l)
  on_memory f t x is call = call ∙ ap f (sym (memory_with-law t is))

  -- its tally and its results put into their cells
  pub put_as : (m : Memory) (results tally' result' : List ℕ)
      → tally' ≡ over (tally_cells m.tally) l.tally
      → result' ≡ over results l.result
      → cells_of m.slices m.trail m.moved tally' result' ≡ leaving m results l
  unfolding leaving
  put_as m results tally' result' tallied told = ap₂ (cells_of m.slices m.trail m.moved) tallied told

  -- the call's outcome put into the cells
  pub done_as : (call : Memory → Outcome) (t : Tally) (o : Outcome) (tally' result' : List ℕ)
      → t ≡ tally_in l.tally
      → o ≡ call (memory_of l.slices l.trail l.moved t)
      → tally' ≡ over (tally_cells o.memory.tally) l.tally
      → result' ≡ over o.results l.result
      → answered o.number (cells_of o.memory.slices o.memory.trail o.memory.moved tally' result') ≡ done (call (memory_in l)) l
  unfolding done
  done_as call t o tally' result' at made tallied told =
      ap (answered o.number) (put_as o.memory o.results tally' result' tallied told)
      ∙ ap (λ (x : Outcome). done x l) (on_memory call t o at made)

  module _ (needed : ℕ) (call : Memory → Outcome) (number : ℕ) (is : number ≡ short_number needed (length l.tally) (length l.result)) where
    pub refused : (number ≡ 0 → ⊥) → answered number l ≡ on_cells needed call l
    unfolding on_cells
    refused some = roomed_some needed (length l.tally) (length l.result) number is (λ c. answered c l) _ some

    pub called : (t : Tally) (o : Outcome) (tally' result' : List ℕ)
        → number ≡ 0
        → t ≡ tally_in l.tally
        → o ≡ call (memory_of l.slices l.trail l.moved t)
        → tally' ≡ over (tally_cells o.memory.tally) l.tally
        → result' ≡ over o.results l.result
        → answered o.number (cells_of o.memory.slices o.memory.trail o.memory.moved tally' result') ≡ on_cells needed call l
    unfolding on_cells
    called t o tally' result' none at made tallied told =
        done_as call t o tally' result' at made tallied told
        ∙ roomed_none needed (length l.tally) (length l.result) number is (λ c. answered c l) _ none
