-- The refusal of a list that is refused, else the text of the plan that it left, which the function writes.
use Rattle.list_program.proofs.Answering.{answer_refused, answer_text-law, unwrapped, unwrapped_within}
use Rattle.list_program.proofs.printing.answer_list_by.Goals as goal

pub returns-then-reading-ne0-clause-answers : goal.returns-then-reading-ne0-clause-answers
returns-then-reading-ne0-clause-answers g c =
    λ text w. answer_refused text _ _ _ c.read_list_core-read.ensures c.if-reading-ne0.true _ _ c.put_refusal.ensures.0

pub returns-clause-answers : goal.returns-clause-answers
returns-clause-answers g c =
    λ text w. rw (c.unwrap_or.ensures, unwrapped c.write.result) (answer_text-law text _ _ _ c.read_list_core-read.ensures c.if-reading-ne0.false _ (w _ _ _ _ c.write.ensures))

pub returns-clause-within : goal.returns-clause-within
returns-clause-within g c = rw c.unwrap_or.ensures (unwrapped_within _ _ (c.requires.written_within _ _ _ _ c.write.ensures))
