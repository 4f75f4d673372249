-- `set_bit`: by the law of one bit written.
use Rattle.queue.proofs.Writing.{set_written}
use Rattle.queue.proofs.words.set_bit.Goals as goal

pub returns : goal.returns
returns c = rw c.from.ensures (set_written c.requires c.args.put)
