-- `enqueue`: the bit of v, and that of its word.
use Rattle.queue.proofs.Banks.{summary_bits}
use Rattle.queue.proofs.Putting.{place_small, inside, own_bits, enqueued}
use native.Mathlib.Omega.{arith}
use Rattle.queue.proofs.queue.enqueue.Goals as goal

pub bounds-queue-from : goal.bounds-queue-from
bounds-queue-from c = let line = c.requires.1 in omega (arith, c.from.ensures, line.bank, line.keyed.few)

pub overflow_sub-degree : goal.overflow_sub-degree
overflow_sub-degree c =
    let line = c.requires.1 in
    omega (arith, line.own_degree, line.keyed.small c.args.v.0 line.bank)

pub overflow_add-word : goal.overflow_add-word
overflow_add-word c = rw c.from.ensures (omega (arith, place_small c.requires.1, c.from-2.ensures))

pub set_bit-requires : goal.set_bit-requires
set_bit-requires c = rw (c.from.ensures, c.from-2.ensures) (own_bits c.requires.1)

pub overflow_add-word-2 : goal.overflow_add-word-2
overflow_add-word-2 c = rw c.from.ensures (omega (arith, place_small c.requires.1, c.from-2.ensures))

pub set_bit-requires-2 : goal.set_bit-requires-2
set_bit-requires-2 c = rw (c.from.ensures, c.from-2.ensures) (summary_bits (inside c.requires.1) (rw (c.from.ensures, c.from-2.ensures) at c.set_bit.ensures))

pub returns : goal.returns
returns c =
    let bank = rw (c.from.ensures, c.from-2.ensures) at c.set_bit.ensures in
    let mark = rw (c.from.ensures, c.from-2.ensures) at c.set_bit-2.ensures in
    λ G line. enqueued line c.args.put bank mark
