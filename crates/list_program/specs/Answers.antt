-- What a program writes for a list: a text of its plan, or the refusal (01, "The sheet").
use Rattle.std.specs.Prelude.{List, [], ◌∷◌, ◌++◌, ℕ, zero, suc, length, replicate}
use Rattle.rule.specs.Graph.{Graph}
use Rattle.memory.specs.Cells.{over}
use Rattle.memory.specs.Plan.{slices_of}
use Rattle.memory.specs.Memory.{Memory, memory_of}
use Rattle.text.specs.Numbers.{decimal}
use Rattle.list_pass.specs.Pass.{ListResult, read_list}
use Rattle.wave_lines.specs.Calls.{TextResult, write_text}
use Rattle.sheet_writer.specs.Sheet.{sheet}
use Rattle.poster_lines.specs.Poster.{poster}

-- the memory that a program lends: cells for 1,024 banks, all 0; and a cap of 24
abbrev pub blank : Memory
blank =
    memory_of
    (slices_of (replicate 23552 0) (replicate 1024 0) (replicate 1024 0) (replicate 24576 0) (replicate 1024 0))
    (replicate 1024 0)
    (replicate 1024 0)
    (record { banks = 0; clashes = 0; waves = 0; cap = 24 })

-- the texts of a plan that a program prints
pub data Text : Type 0 where
  Sheet : Text
  Poster : Text

-- the text of a plan, of each kind
unfoldable pub text_of : Text → Graph → List ℕ
text_of Sheet = sheet
text_of Poster = poster

-- `REFUSED c ROW r`
unfoldable pub refusal_text : ℕ → ℕ → List ℕ
refusal_text c r =
    (82 ∷ 69 ∷ 70 ∷ 85 ∷ 83 ∷ 69 ∷ 68 ∷ 32 ∷ []) ++ (decimal c ++ ((32 ∷ 82 ∷ 79 ∷ 87 ∷ 32 ∷ []) ++ (decimal r ++ (10 ∷ []))))

-- a text and a number
unfoldable pub named : List ℕ → ℕ → List ℕ
named text x = text ++ decimal x

-- `.. x REFUSED c`: a call that was refused, by a word and a number
unfoldable pub refused_text : List ℕ → ℕ → ℕ → List ℕ
refused_text word x c = named word x ++ (named (32 ∷ 82 ∷ 69 ∷ 70 ∷ 85 ∷ 83 ∷ 69 ∷ 68 ∷ 32 ∷ []) c ++ (10 ∷ []))

-- what is written, and its length
pub record AnswerResult : Type 0 where
  pub length : ℕ
  pub out : List ℕ

abbrev pub answer_result : ℕ → List ℕ → AnswerResult
answer_result length out = record { length = length; out = out }

abbrev pub of_text : TextResult → AnswerResult
of_text w = answer_result w.answer.length w.out

-- by the list's number: the text of the plan that it left, or the refusal
unfoldable pub answer_by : (Graph → List ℕ) → ℕ → ListResult → List ℕ → AnswerResult
answer_by text zero l out = of_text (write_text text l.memory.slices l.memory.tally out)
answer_by text (suc c) l out =
    let line = refusal_text (suc c) l.answer.row in answer_result (length line) (over line out)

-- the answer to a list
unfoldable pub answer_of : (Graph → List ℕ) → List ℕ → List ℕ → AnswerResult
answer_of text list out = answer_by text (read_list list blank).answer.number (read_list list blank) out
