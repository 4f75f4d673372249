-- Tallies in the cells at the front of a slice.
use mathlib.Core.List.{List, [], ◌∷◌}
use mathlib.Core.Path.{◌≡◌, refl}
use Prim.Native.Nat.{ℕ, ◌≤◌}
use native.Mathlib.Omega.{arith}
use lib.ListN.{length}
use Rattle.memory.specs.Cells.{over}
use Rattle.c_cells.specs.CellMemory.{tally_size, tally_in, tally_cells}

-- a refused call puts the tally back as it was
pub tally_again : (xs : List ℕ) → tally_size ≤ length xs → over (tally_cells (tally_in xs)) xs ≡ xs
unfolding over tally_cells tally_in
tally_again [] h = absurd (omega arith)
tally_again (a ∷ []) h = absurd (omega arith)
tally_again (a ∷ b ∷ []) h = absurd (omega arith)
tally_again (a ∷ b ∷ c ∷ []) h = absurd (omega arith)
tally_again (a ∷ b ∷ c ∷ d ∷ xs) h = refl
