-- `clear_bit`: by the law of one bit written.
use Rattle.queue.proofs.Writing.{clear_written}
use Rattle.queue.proofs.words.clear_bit.Goals as goal

pub returns : goal.returns
returns c = rw c.from.ensures (clear_written c.requires.has_bit c.args.out c.requires.is_set)
