-- Lent cells as the contracts name them: all that a call that edits is lent, by what it holds.
use Rattle.std.specs.Prelude.{List, ℕ}
use Rattle.memory.specs.Plan.{slices_of}
use Rattle.c_cells.specs.CellMemory.{CellMemory, cells_of}

abbrev pub cells_given : List ℕ → List ℕ → List ℕ → List ℕ → List ℕ → List ℕ → List ℕ → List ℕ → List ℕ → CellMemory
cells_given n d w c k r m t result = cells_of (slices_of n d w c k) r m t result
