-- `queue_seed`: the counts of v are counted, and v is queued, by the laws of `Recounts`.
use Rattle.edits.proofs.Recounts.{v_countable, part_in, enqueuable, seed_queued}
use Rattle.edits.proofs.seeds.queue_seed.Goals as goal

pub recount_one-requires : goal.recount_one-requires
recount_one-requires c =
    record {
      countable = v_countable c.requires.recounting.2 c.requires.bank;
      b_in_bounds = part_in c.requires.recounting.2 c.requires.bank;
    }

pub enqueue-requires : goal.enqueue-requires
enqueue-requires c = (c.requires.recounting.0, rw c.from.ensures (enqueuable c.requires.recounting.2 c.requires.bank))

pub returns : goal.returns
returns c = λ G was rc.
    seed_queued rc c.requires.bank c.recount_one.auto.counts c.recount_one.ensures (c.enqueue.ensures G (rw c.from.ensures (enqueuable rc c.requires.bank)))
