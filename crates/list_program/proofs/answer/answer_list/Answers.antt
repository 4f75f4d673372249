-- The refusal of a list that is refused, else the text of the plan that it left.
use mathlib.Core.Path.{◌∙◌}
use Rattle.list_program.proofs.Answering.{answer_refused, answer_text-law, text_within, unwrapped}
use Rattle.list_program.proofs.answer.answer_list.Goals as goal

pub returns-then-reading-ne0-clause-answers : goal.returns-then-reading-ne0-clause-answers
returns-then-reading-ne0-clause-answers g c =
    answer_refused g.W.PlanText.text _ _ _ c.read_list_core-read.ensures c.if-reading-ne0.true _ _ c.put_refusal.ensures.0

pub returns-clause-answers : goal.returns-clause-answers
returns-clause-answers g c =
    rw (c.unwrap_or.ensures ∙ unwrapped c.write.result)
    (answer_text-law g.W.PlanText.text _ _ _ c.read_list_core-read.ensures c.if-reading-ne0.false _ c.write.ensures)

pub returns-clause-within : goal.returns-clause-within
returns-clause-within g c =
    rw (c.unwrap_or.ensures ∙ unwrapped c.write.result)
    (text_within g.W.PlanText.text _ _ _ c.read_list_core-read.ensures _ c.write.ensures)
