-- What the program crew prints for a list, by what it is asked (02, N13).
use Rattle.std.specs.Prelude.{List, ℕ, zero, suc}
use Rattle.list_pass.specs.Pass.{ListResult, read_list}
use Rattle.list_program.specs.Answers.{blank, refusal_text}
use Rattle.crew_lines.specs.declared.plan.Question.{Question}
use Rattle.crew_lines.specs.Plans.{plan_text}

-- by the list's number: what is printed of the plan that it left, or its refusal
unfoldable pub answer_by : ℕ → Question → ListResult → List ℕ
answer_by zero question l = plan_text question l.memory.slices l.memory.tally
answer_by (suc c) question l = refusal_text (suc c) l.answer.row

-- the answer to a list
unfoldable pub answer_text : Question → List ℕ → List ℕ
answer_text question list = answer_by (read_list list blank).answer.number question (read_list list blank)
