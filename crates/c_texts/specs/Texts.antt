-- What each function that makes a plan from bytes, or writes bytes of one, answers and leaves, by the definition of its call. Where the tally or the
-- result slice is short: 2, and all as it was.
use Rattle.std.specs.Prelude.{List, [], ◌∷◌, ℕ, length}
use Rattle.memory.specs.declared.Tally.{Tally}
use Rattle.memory.specs.Cells.{over}
use Rattle.memory.specs.Plan.{Slices}
use Rattle.list_pass.specs.Pass.{ListResult, read_list}
use Rattle.wave_lines.specs.Calls.{TextResult}
use Rattle.sheet_writer.specs.Calls.{write_sheet}
use Rattle.poster_writer.specs.Calls.{write_poster}
use Rattle.journal.specs.Calls.{StartResult, started}
use Rattle.journal_replay.specs.Replay.{ReplayResult, replayed}
use Rattle.c_cells.specs.CellMemory.{tally_in, short_number, roomed, CellMemory, Outcome, outcome, Answered, on_cells}

-- the result of a list: the row
abbrev pub list_outcome : ListResult → Outcome
list_outcome x = outcome x.answer.number (x.answer.row ∷ []) x.memory

-- wave_plan_read_list
unfoldable pub list_call : List ℕ → CellMemory → Answered
list_call bytes l = on_cells 1 (λ m. list_outcome (read_list bytes m)) l

-- the results of a replay: the field and the number of bytes left over
abbrev pub replay_outcome : ReplayResult → Outcome
replay_outcome x = outcome x.answer.number (x.answer.field ∷ x.answer.left_over ∷ []) x.memory

-- wave_plan_replay
unfoldable pub replay_call : List ℕ → CellMemory → Answered
replay_call bytes l = on_cells 2 (λ m. replay_outcome (replayed bytes m)) l

-- what writing bytes of the plan to the front of a slice comes to: its number, how many they are, and the slice
pub record TextOutcome : Type 0 where
  pub number : ℕ
  pub length : ℕ
  pub out : List ℕ

abbrev pub text_outcome : ℕ → ℕ → List ℕ → TextOutcome
text_outcome number length out = record { number = number; length = length; out = out }

abbrev pub text_of : TextResult → TextOutcome
text_of x = text_outcome x.answer.number x.answer.length x.out

-- what it answers and leaves
pub record TextAnswered : Type 0 where
  pub number : ℕ
  pub out : List ℕ
  pub result : List ℕ

abbrev pub text_answered : ℕ → List ℕ → List ℕ → TextAnswered
text_answered number out result = record { number = number; out = out; result = result }

-- the length is the result
unfoldable pub text_done : TextOutcome → List ℕ → TextAnswered
text_done x result = text_answered x.number x.out (over (x.length ∷ []) result)

-- of a call that writes in this way
unfoldable pub text_call : (Slices → Tally → List ℕ → TextOutcome) → Slices → List ℕ → List ℕ → List ℕ → TextAnswered
text_call write s tally out result =
    roomed (short_number 1 (length tally) (length result)) (λ c. text_answered c out result) (text_done (write s (tally_in tally) out) result)

-- wave_plan_write_sheet
abbrev pub sheet_call : Slices → List ℕ → List ℕ → List ℕ → TextAnswered
sheet_call = text_call (λ s t out. text_of (write_sheet s t out))

-- wave_plan_write_poster
abbrev pub poster_call : Slices → List ℕ → List ℕ → List ℕ → TextAnswered
poster_call = text_call (λ s t out. text_of (write_poster s t out))

-- starting a journal writes bytes to the front of its slice
abbrev pub start_of : StartResult → TextOutcome
start_of x = text_outcome x.answer.number x.answer.length x.journal

-- wave_plan_start_journal
abbrev pub start_call : Slices → List ℕ → List ℕ → List ℕ → TextAnswered
start_call = text_call (λ s t journal. start_of (started s t journal))
