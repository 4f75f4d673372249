-- The shelf of kept states, cell by cell (02, N5; N6: ranks, N9: the cap). A kept state is the field's checkpoint: a plan's cells and its tally.
use Rattle.std.specs.Prelude.{Bool, ◌&&◌, ◌||◌, List, [], ◌∷◌, ◌++◌, ℕ, ◌+◌, ◌*◌, eqb, get_or, take, drop}
use Rattle.memory.specs.declared.Tally.{Tally}
use Rattle.memory.specs.Plan.{Slices, slices_of, holds}

-- a place of n banks is a used cell, then 23 n cells of rows from cell 1 on, and from these on n degrees,
abbrev pub degrees_at : ℕ → ℕ
degrees_at n = 1 + 23 * n

-- n waves,
abbrev pub waves_at : ℕ → ℕ
waves_at n = 1 + 24 * n

-- 24 n Counts,
abbrev pub counts_at : ℕ → ℕ
counts_at n = 1 + 25 * n

-- the tally, which is banks, clashes, waves,
abbrev pub tally_at : ℕ → ℕ
tally_at n = 1 + 49 * n

-- n ranks,
abbrev pub ranks_at : ℕ → ℕ
ranks_at n = 4 + 49 * n

-- and the tally's cap, the last cell;
abbrev pub cap_at : ℕ → ℕ
cap_at n = 4 + 50 * n

-- these are its cells
abbrev pub place_size : ℕ → ℕ
place_size n = 5 + 50 * n

-- three places follow each other
abbrev pub shelf_size : ℕ → ℕ
shelf_size n = 3 * place_size n

-- `size` cells from `from` on
abbrev pub part : ℕ → ℕ → List ℕ → List ℕ
part from size cells = take size (drop from cells)

-- place i of a shelf of n banks
unfoldable pub place : ℕ → ℕ → List ℕ → List ℕ
place n i shelf = part (i * place_size n) (place_size n) shelf

-- is the place used?
unfoldable pub used : List ℕ → Bool
used cells = eqb (get_or cells 0 0) 1

-- the plan cells of n banks in a place
unfoldable pub slices_in : ℕ → List ℕ → Slices
slices_in n cells =
    slices_of
    (part 1 (23 * n) cells)
    (part (degrees_at n) n cells)
    (part (waves_at n) n cells)
    (part (counts_at n) (24 * n) cells)
    (part (ranks_at n) n cells)

-- the tally in a place of n banks, its cap included
unfoldable pub tally_in : ℕ → List ℕ → Tally
tally_in n cells = record {
  banks = get_or cells (tally_at n) 0;
  clashes = get_or cells (tally_at n + 1) 0;
  waves = get_or cells (tally_at n + 2) 0;
  cap = get_or cells (cap_at n) 0;
}

-- does it hold a plan of n banks, its tally included, under a cap that fits it?
unfoldable pub holds_in : ℕ → List ℕ → Bool
holds_in n cells = eqb (tally_in n cells).banks n && holds (slices_in n cells) (tally_in n cells)

-- a place is unused and not read, or used and holds a plan
unfoldable pub place_right : ℕ → List ℕ → Bool
place_right n cells = eqb (get_or cells 0 0) 0 || (used cells && holds_in n cells)

-- question 5 of the shelf
unfoldable pub shelf_right : ℕ → List ℕ → Bool
shelf_right n shelf = place_right n (place n 0 shelf) && (place_right n (place n 1 shelf) && place_right n (place n 2 shelf))

-- the cells of a place in which this plan is kept
unfoldable pub place_cells : Slices → Tally → List ℕ
place_cells s t =
    let n = t.banks in
    (1 ∷ [])
    ++ (take (23 * n) s.neighbours
    ++ (take n s.degrees
    ++ (take n s.waves
    ++ (take (24 * n) s.counts
    ++ ((t.banks ∷ t.clashes ∷ t.waves ∷ [])
    ++ (take n s.ranks
    ++ (t.cap ∷ [])))))))
