-- What each function for kept states answers and leaves, by the definition of its call. Where the tally or the result slice is short: 2, and all
-- as it was. Opening a shelf has neither, and is `open_shelf` of checkpoints.
use Rattle.std.specs.Prelude.{List, [], ◌∷◌, ℕ, length}
use Rattle.memory.specs.Cells.{over}
use Rattle.memory.specs.Plan.{Slices}
use Rattle.checkpoints.specs.Calls.{ShelfResult, shelf_result, keep, BackResult, come_back}
use Rattle.c_cells.specs.CellMemory.{tally_in, tally_cells, short_number, roomed}

-- wave_plan_keep
unfoldable pub keep_call : List ℕ → Slices → List ℕ → List ℕ → ShelfResult
keep_call name s tally shelf = roomed (short_number 0 (length tally) 0) (λ c. shelf_result c shelf) (keep name s (tally_in tally) shelf)

-- what coming back answers and leaves
pub record BackAnswered : Type 0 where
  pub number : ℕ
  pub slices : Slices
  pub moved : List ℕ
  pub tally : List ℕ
  pub result : List ℕ

abbrev pub back_answered : ℕ → Slices → List ℕ → List ℕ → List ℕ → BackAnswered
back_answered number slices moved tally result = record { number = number; slices = slices; moved = moved; tally = tally; result = result }

-- the tally is put into its cells, and the count is the result
unfoldable pub back_done : BackResult → List ℕ → List ℕ → BackAnswered
back_done x tally result =
    back_answered x.number x.slices x.moved (over (tally_cells x.tally) tally) (over (x.count ∷ []) result)

-- wave_plan_come_back
unfoldable pub come_back_call : List ℕ → Slices → List ℕ → List ℕ → List ℕ → List ℕ → BackAnswered
come_back_call name s moved tally shelf result =
    roomed
    (short_number 1 (length tally) (length result))
    (λ c. back_answered c s moved tally result)
    (back_done (come_back name s (tally_in tally) moved shelf) tally result)
