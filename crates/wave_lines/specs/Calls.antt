-- What writing a text of the plan answers and leaves (01, "Calls" and "The questions").
use Rattle.std.specs.Prelude.{List, [], ◌∷◌, ℕ, zero, suc, leb, length, take, Result}
use Rattle.rule.specs.declared.refusal.Refusal.{Refusal}
use Rattle.rule.specs.Graph.{Graph}
use Rattle.rule.specs.Refusals.{number_in, value_or}
use Rattle.memory.specs.declared.Tally.{Tally}
use Rattle.memory.specs.Cells.{over}
use Rattle.memory.specs.Plan.{Slices, long_enough, graph_in, holds}
use Rattle.planner.specs.Questions.{◌else◌, first_no}

-- questions 3 to 5 and 12
unfoldable pub text_number : List ℕ → Slices → Tally → List ℕ → ℕ
text_number text s t out =
    first_no
    ((leb t.banks 1024 else 1)
    ∷ (long_enough t.banks s else 2)
    ∷ (holds s t else 3)
    ∷ (leb (length text) (length out) else 12)
    ∷ [])

-- 01's number, and the bytes of the text
pub record Written : Type 0 where
  pub number : ℕ
  pub length : ℕ

-- what writing a text leaves
pub record TextResult : Type 0 where
  pub answer : Written
  pub out : List ℕ

abbrev pub written : ℕ → ℕ → List ℕ → TextResult
written number length out = record { answer = record { number = number; length = length }; out = out }

-- by the length of the text, or a refusal
abbrev pub text_result : Result ℕ Refusal → List ℕ → TextResult
text_result answer out = written (number_in answer) (value_or answer 0) out

-- by the number of the first no: the text at the front of the output, and its length; or the number, and the output as it was
unfoldable pub text_by : ℕ → List ℕ → List ℕ → TextResult
text_by zero text out = written 0 (length text) (over text out)
text_by (suc c) text out = written (suc c) 0 out

-- writing a text of the clashes that memory holds, of any memory and any output
unfoldable pub write_text : (Graph → List ℕ) → Slices → Tally → List ℕ → TextResult
write_text text s t out = text_by (text_number (text (graph_in t.banks s)) s t out) (text (graph_in t.banks s)) out

-- the bytes that were written
abbrev pub written_bytes : TextResult → List ℕ
written_bytes r = take r.answer.length r.out
