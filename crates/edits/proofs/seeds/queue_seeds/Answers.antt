-- `queue_seeds`: a, b, and then the turned neighbours of each.
use Rattle.edits.proofs.Seeding.{turn_a, turn_b, seeded}
use Rattle.edits.proofs.seeds.queue_seeds.Goals as goal

pub queue_seed-requires : goal.queue_seed-requires
queue_seed-requires c =
    let sd = c.requires.1 in record {
      recounting = (_, _, sd.counts);
      bank = sd.bank_a;
    }

pub queue_seed-requires-2 : goal.queue_seed-requires-2
queue_seed-requires-2 c =
    let sd = c.requires.1 in
    let one = c.queue_seed.ensures _ _ sd.counts in
    record {
      recounting = (_, _, one.counts);
      bank = sd.bank_b;
    }

pub queue_turned-requires : goal.queue_turned-requires
queue_turned-requires c =
    let sd = c.requires.1 in
    let one = c.queue_seed.ensures _ _ sd.counts in
    (_, turn_a sd one (c.queue_seed-2.ensures _ _ one.counts))

pub queue_turned-requires-2 : goal.queue_turned-requires-2
queue_turned-requires-2 c =
    let sd = c.requires.1 in
    let one = c.queue_seed.ensures _ _ sd.counts in
    let two = c.queue_seed-2.ensures _ _ one.counts in
    (_, turn_b sd one two (c.queue_turned.ensures _ (turn_a sd one two)))

pub returns : goal.returns
returns c =
    λ o sd.
    let one = c.queue_seed.ensures _ _ sd.counts in
    let two = c.queue_seed-2.ensures _ _ one.counts in
    let three = c.queue_turned.ensures _ (turn_a sd one two) in
    seeded sd one two three (c.queue_turned-2.ensures _ (turn_b sd one two three))
