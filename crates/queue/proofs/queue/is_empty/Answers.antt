-- `is_empty`: no bank waits exactly if the summary is 0.
use Rattle.queue.proofs.Taking.{tells_empty}
use Rattle.queue.proofs.queue.is_empty.Goals as goal

pub returns : goal.returns
returns c = λ G keyed queue. tells_empty queue c.first_summary.ensures
