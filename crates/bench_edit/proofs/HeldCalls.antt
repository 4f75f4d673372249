-- An edit without question 5 on cells: what it leaves, of what `tally_in`, `edit_held` and `put_answer` left.
use mathlib.Core.List.{List, [], ◌∷◌}
use mathlib.Core.Path.{◌≡◌, ap, subst}
use Prim.Native.Nat.{ℕ}
use Rattle.rule.specs.Graph.{Graph}
use Rattle.rule.specs.declared.Kind.{Kind}
use Rattle.memory.specs.declared.Tally.{Tally}
use Rattle.memory.specs.Cells.{over}
use Rattle.memory.specs.Plan.{Slices}
use Rattle.memory.specs.Memory.{Memory, memory_of, Ready}
use Rattle.planner.specs.declared.Edited.{Edited}
use Rattle.planner.specs.Calls.{edit_of}
use Rattle.planner.specs.inner.Held.{HoldsPlan, EditMade}
use Rattle.c_cells.specs.CellMemory.{tally_in, tally_cells, CellMemory, cells_of, memory_in, answered, edit_outcome}
use Rattle.c_cells.proofs.Calls.{memory_with-law, done_as}
use Rattle.bench_edit.specs.inner.HeldCall.{held_call}

module _ (l : CellMemory) (t : Tally) (at : t ≡ tally_in l.tally) where
  abbrev read : Memory
  read = memory_of l.slices l.trail l.moved t

  pub held : HoldsPlan (memory_in l) → HoldsPlan read
  held = subst HoldsPlan (memory_with-law l t at)

  pub held_done : (k : Kind) (G : Graph) (a b : ℕ) (r : Edited) (s' : Slices) (trail' moved' tally' result' : List ℕ)
      → ((H : Graph) → Ready H read → EditMade k H a b read r (memory_of s' trail' moved' r.tally))
      → Ready G (memory_in l)
      → tally' ≡ over (tally_cells r.tally) l.tally
      → result' ≡ over (r.answer.moved ∷ r.answer.trail ∷ []) l.result
      → answered r.answer.number (cells_of s' trail' moved' tally' result') ≡ held_call k G a b l
  held_done k G a b r s' trail' moved' tally' result' edits ready tallied told =
      let is = (edits G (subst (Ready G) (memory_with-law l t at) ready)).is in
      done_as l (λ m. edit_outcome (edit_of k G a b m)) t _ tally' result' at (ap edit_outcome is) tallied told
