-- Slices that are long enough.
use Rattle.std.specs.Prelude.{ℕ, ◌+◌, ◌*◌, ◌≤◌}
use Rattle.c_cells.specs.CellMemory.{tally_size}

-- a tally slice and a result slice of so many cells are long enough, or r is not 0: as sums, which arithmetic reads without a case
abbrev pub Enough : ℕ → ℕ → ℕ → ℕ → Type 0
Enough needed tally result r = (tally_size ≤ tally + tally_size * r) × (needed ≤ result + needed * r)
