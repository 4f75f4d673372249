-- What checking a sheet from anybody answers and leaves. Where the tally or the result slice is short: 2, and all as it was.
use Rattle.std.specs.Prelude.{List, [], ◌∷◌, ◌≡◌, ℕ, length}
use Rattle.memory.specs.Cells.{over}
use Rattle.memory.specs.Plan.{Slices}
use Rattle.sheet_reader.specs.Calls.{Verdict, Answered}
use Rattle.c_cells.specs.CellMemory.{tally_in, short_number}
use Rattle.c_reads.specs.Reads.{read_answered}

-- the cells of the answer: the line, and the two banks
unfoldable pub verdict_cells : Verdict → List ℕ
verdict_cells v = v.line ∷ v.first ∷ v.second ∷ []

-- wave_plan_check_sheet: the answer to this tally, its cells at the front of the result
pub record SheetChecked (s : Slices) (tally result bytes : List ℕ) (number : ℕ) (result' : List ℕ) : Type 0 where
  pub short : (short_number 3 (length tally) (length result) ≡ 0 → ⊥)
      → read_answered number result' ≡ read_answered (short_number 3 (length tally) (length result)) result
  pub done : short_number 3 (length tally) (length result) ≡ 0
      → (v : Verdict) × Answered s (tally_in tally) bytes v × (read_answered number result' ≡ read_answered v.number (over (verdict_cells v) result))
