-- What the program agree prints of a sheet: the lines by what the call check_sheet answers (02, N14).
use Rattle.std.specs.Prelude.{Bool, cond, List, ℕ, eqb}
use Rattle.memory.specs.declared.Tally.{Tally}
use Rattle.memory.specs.Plan.{Slices, graph_in}
use Rattle.text.specs.Places.{Puts}
use Rattle.sheet_writer.specs.Sheet.{sheet}
use Rattle.sheet_parser.specs.Sheets.{wave_read, same_bytes}
use Rattle.sheet_reader.specs.Calls.{Verdict, Answered}
use Rattle.list_program.specs.Answers.{refusal_text}
use Rattle.agree_lines.specs.Lines.{accepted_text, no_sheet_text, waves_text}

-- is it the planner's own sheet?
unfoldable pub is_own : Slices → Tally → List ℕ → Bool
is_own s t bytes = same_bytes bytes (sheet (graph_in t.banks s))

-- the lines by the number; of two banks that clash, the first one's wave on the sheet is named. An accepted list leads to no other number: it has the line of a
-- list's refusal
unfoldable pub verdict_text : Slices → Tally → List ℕ → Verdict → List ℕ
verdict_text s t bytes v =
    cond (eqb v.number 0) (accepted_text (is_own s t bytes))
    (cond (eqb v.number 26) (no_sheet_text v.line)
    (cond (eqb v.number 27) (waves_text v.first v.second (wave_read bytes v.first) t.waves) (refusal_text v.number 0)))

-- the lines of what the call answers were written to the front of out, and r is the place after them
pub record Printed (s : Slices) (t : Tally) (bytes out : List ℕ) (r : ℕ) (out' : List ℕ) : Type 0 where
  pub verdict : Verdict
  pub is : Answered s t bytes verdict
  pub text : Puts (verdict_text s t bytes verdict) 0 out r out'
