-- What follows from the contracts of this crate, restated in full: a refused return changes no slice but the front cell of the result, which is 0.
use mathlib.Core.List.{List, [], ◌∷◌}
use mathlib.Core.Path.{◌≡◌, ap}
use Prim.Native.Nat.{ℕ, ◌≤◌}
use lib.ListN.{length}
use Rattle.memory.specs.Cells.{over}
use Rattle.memory.specs.Plan.{Slices}
use Rattle.checkpoints.specs.Calls.{back_result}
use Rattle.c_cells.specs.CellMemory.{tally_size, tally_in}
use Rattle.c_cells.proofs.Fronts.{tally_again}
use Rattle.c_shelves.specs.Shelves.{back_answered, back_done}

pub refused_back : (s : Slices) (moved tally result : List ℕ) → tally_size ≤ length tally → (c : ℕ)
    → back_done (back_result c 0 s (tally_in tally) moved) tally result ≡ back_answered c s moved tally (over (0 ∷ []) result)
unfolding back_done
refused_back s moved tally result long c = ap (λ (t : List ℕ). back_answered c s moved t (over (0 ∷ []) result)) (tally_again tally long)
