-- What each function answers and leaves, by the definition of its call. Where the tally or the result slice is short: 2, and all as it was.
use Rattle.std.specs.Prelude.{List, [], ◌∷◌, ℕ, length}
use Rattle.rule.specs.declared.Kind.{Kind}
use Rattle.memory.specs.Cells.{over}
use Rattle.memory.specs.Plan.{Slices}
use Rattle.planner.specs.Calls.{OpenResult, opened}
use Rattle.edit_calls.specs.Calls.{edit, CapResult, set_cap}
use Rattle.journal.specs.Calls.{RecordResult, recorded}
use Rattle.c_cells.specs.CellMemory.{tally_in, tally_cells, short_number, roomed, CellMemory, memory_in, leaving, Answered, on_cells, edit_outcome}

-- what opening answers and leaves
pub record OpenAnswered : Type 0 where
  pub number : ℕ
  pub slices : Slices
  pub tally : List ℕ

abbrev pub open_answered : ℕ → Slices → List ℕ → OpenAnswered
open_answered number slices tally = record { number = number; slices = slices; tally = tally }

-- the tally is put into its cells
unfoldable pub open_done : OpenResult → List ℕ → OpenAnswered
open_done o tally = open_answered o.number o.slices (over (tally_cells o.tally) tally)

-- wave_plan_open
unfoldable pub open_call : ℕ → Slices → List ℕ → OpenAnswered
open_call n s tally = roomed (short_number 0 (length tally) 0) (λ c. open_answered c s tally) (open_done (opened n s (tally_in tally)) tally)

-- wave_plan_add and wave_plan_strike
unfoldable pub edit_call : Kind → ℕ → ℕ → CellMemory → Answered
edit_call k a b l = on_cells 2 (λ m. edit_outcome (edit k a b m)) l

-- what set_cap answers and leaves
pub record CapAnswered : Type 0 where
  pub number : ℕ
  pub tally : List ℕ

abbrev pub cap_answered : ℕ → List ℕ → CapAnswered
cap_answered number tally = record { number = number; tally = tally }

-- the tally is put into its cells
unfoldable pub cap_done : CapResult → List ℕ → CapAnswered
cap_done o tally = cap_answered o.number (over (tally_cells o.tally) tally)

-- wave_plan_set_cap
unfoldable pub cap_call : ℕ → Slices → List ℕ → CapAnswered
cap_call cap s tally = roomed (short_number 0 (length tally) 0) (λ c. cap_answered c tally) (cap_done (set_cap cap s (tally_in tally)) tally)

-- what an edit that is recorded answers and leaves
pub record RecordAnswered : Type 0 where
  pub number : ℕ
  pub cells : CellMemory
  pub journal : List ℕ

abbrev pub record_answered : ℕ → CellMemory → List ℕ → RecordAnswered
record_answered number cells journal = record { number = number; cells = cells; journal = journal }

-- the moved count, the trail count and the length are the results
unfoldable pub record_done : RecordResult → CellMemory → RecordAnswered
record_done x l =
    record_answered x.answer.number (leaving x.memory (x.answer.moved ∷ x.answer.trail ∷ x.answer.length ∷ []) l) x.journal

-- wave_plan_add_recorded and wave_plan_strike_recorded, of a journal of `size` bytes
unfoldable pub record_call : Kind → ℕ → ℕ → CellMemory → ℕ → List ℕ → RecordAnswered
record_call k a b l size journal =
    roomed (short_number 3 (length l.tally) (length l.result)) (λ c. record_answered c l journal) (record_done (recorded k a b (memory_in l) size journal) l)
