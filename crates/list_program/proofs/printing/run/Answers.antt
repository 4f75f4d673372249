-- The text that is written is inside the output.
use Rattle.list_program.proofs.Answering.{writes_within}
use Rattle.list_program.proofs.printing.run.Goals as goal

pub answer_list_by-length-requires-clause-written_within : goal.answer_list_by-length-requires-clause-written_within
answer_list_by-length-requires-clause-written_within g c = writes_within _ g.text c.requires.1.1.1.1
