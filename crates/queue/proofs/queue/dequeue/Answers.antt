-- `dequeue`: the bit of the first bank of the first degree, and that of its word.
use Rattle.queue.proofs.Banks.{summary_bits}
use Rattle.queue.proofs.Taking.{has_bit, bit_set, found_bank, spot_less, still_marked, dequeued}
use native.Mathlib.Omega.{arith}
use Rattle.queue.proofs.queue.dequeue.Goals as goal

pub overflow_add-bank : goal.overflow_add-bank
overflow_add-bank c = let wait = c.requires in omega (arith, (c.first_place-place.ensures wait.0 wait.1).inside)

pub offset_bounds-queue-place : goal.offset_bounds-queue-place
offset_bounds-queue-place c = let wait = c.requires in omega (arith, (c.first_place-place.ensures wait.0 wait.1).inside)

pub bounds-queue-place : goal.bounds-queue-place
bounds-queue-place c = let wait = c.requires in omega (arith, (c.first_place-place.ensures wait.0 wait.1).inside)

pub overflow_cast-bank : goal.overflow_cast-bank
overflow_cast-bank c =
    let wait = c.requires in
    omega (arith, found_bank wait.1 c.first_word-head.ensures (c.first_place-place.ensures wait.0 wait.1))

pub overflow_add-word : goal.overflow_add-word
overflow_add-word c =
    let wait = c.requires in
    omega (arith, (c.first_place-place.ensures wait.0 wait.1).inside, c.first_word-head.ensures.inside)

pub clear_bit-requires : goal.clear_bit-requires
clear_bit-requires c =
    let wait = c.requires in
    let head = c.first_word-head.ensures in
    let found = c.first_place-place.ensures wait.0 wait.1 in
    record {
      has_bit = has_bit wait.1 head found;
      is_set = bit_set wait.1 head found;
    }

pub offset_bounds-queue-word : goal.offset_bounds-queue-word
offset_bounds-queue-word c =
    let wait = c.requires in
    omega (arith, spot_less wait.1 c.first_word-head.ensures (c.first_place-place.ensures wait.0 wait.1))

pub bounds-queue-word : goal.bounds-queue-word
bounds-queue-word c =
    let wait = c.requires in
    omega (arith, spot_less wait.1 c.first_word-head.ensures (c.first_place-place.ensures wait.0 wait.1))

pub overflow_add-word-2 : goal.overflow_add-word-2
overflow_add-word-2 c =
    let wait = c.requires in
    omega (arith, spot_less wait.1 c.first_word-head.ensures (c.first_place-place.ensures wait.0 wait.1))

pub clear_bit-requires-2 : goal.clear_bit-requires-2
clear_bit-requires-2 c =
    let one = c.clear_bit.ensures in
    let wait = c.requires in
    let head = c.first_word-head.ensures in
    let found = c.first_place-place.ensures wait.0 wait.1 in
    record {
      has_bit = summary_bits (spot_less wait.1 head found) one;
      is_set = still_marked wait.1 head found one;
    }

pub returns : goal.returns
returns c =
    let one = c.clear_bit.ensures in
    λ G wait. dequeued wait c.first_word-head.ensures (c.first_place-place.ensures G wait) one c.clear_bit-2.ensures
