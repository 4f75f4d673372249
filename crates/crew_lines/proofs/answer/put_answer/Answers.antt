-- The refusal of a list that is refused, else what is printed of the plan that it left.
use Rattle.crew_lines.proofs.Answers.{answer_refused, answer_plan}
use Rattle.crew_lines.proofs.answer.put_answer.Goals as goal

pub returns-then-reading-ne0 : goal.returns-then-reading-ne0
returns-then-reading-ne0 c =
    let is = answer_refused c.args.question _ _ c.read_list_core-read.ensures c.if-reading-ne0.true in
    (rw is at c.put_refusal.ensures.0, c.put_refusal.ensures.1)

pub returns : goal.returns
returns c =
    let is = answer_plan c.args.question _ _ c.read_list_core-read.ensures c.if-reading-ne0.false in
    (rw is at c.put_plan.ensures.0, c.put_plan.ensures.1)
