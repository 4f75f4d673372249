-- What follows from the contracts of this crate, each restated in full: a refused edit, recorded or not, changes no slice but the front cells of the
-- result, which are 0; a refused opening changes nothing.
use mathlib.Core.List.{List, [], ◌∷◌}
use mathlib.Core.Path.{◌≡◌, ap}
use Prim.Native.Nat.{ℕ, ◌≤◌}
use lib.ListN.{length}
use Rattle.memory.specs.Cells.{over}
use Rattle.memory.specs.Plan.{Slices}
use Rattle.planner.specs.Calls.{open_result, refused}
use Rattle.journal.specs.Calls.{record_result, no_record}
use Rattle.c_cells.specs.CellMemory.{tally_size, tally_in, CellMemory, cells_of, memory_in, leaving, answered, done, edit_outcome}
use Rattle.c_cells.proofs.Fronts.{tally_again}
use Rattle.c_calls.specs.Calls.{open_answered, open_done, record_answered, record_done}

module _ (l : CellMemory) (long : tally_size ≤ length l.tally) where
  leaves_all : (results : List ℕ)
      → leaving (memory_in l) results l ≡ cells_of l.slices l.trail l.moved l.tally (over results l.result)
  unfolding memory_in leaving
  leaves_all results =
      ap (λ (t : List ℕ). cells_of l.slices l.trail l.moved t (over results l.result)) (tally_again l.tally long)

  pub refused_edit : (c : ℕ)
      → done (edit_outcome (refused c (memory_in l))) l
      ≡ answered c (cells_of l.slices l.trail l.moved l.tally (over (0 ∷ 0 ∷ []) l.result))
  unfolding done refused
  refused_edit c = ap (answered c) (leaves_all (0 ∷ 0 ∷ []))

  pub refused_record : (c : ℕ) (journal : List ℕ)
      → record_done (record_result (no_record c) (memory_in l) journal) l
      ≡ record_answered c (cells_of l.slices l.trail l.moved l.tally (over (0 ∷ 0 ∷ 0 ∷ []) l.result)) journal
  unfolding record_done
  refused_record c journal = ap (λ (x : CellMemory). record_answered c x journal) (leaves_all (0 ∷ 0 ∷ 0 ∷ []))

pub refused_open : (s : Slices) (tally : List ℕ) → tally_size ≤ length tally → (c : ℕ)
    → open_done (open_result c s (tally_in tally)) tally ≡ open_answered c s tally
unfolding open_done
refused_open s tally long c = ap (open_answered c s) (tally_again tally long)
