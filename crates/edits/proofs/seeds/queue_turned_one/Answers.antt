-- `queue_turned_one`: neighbour i is passed over or queued, by the two tests of its order.
use Rattle.edits.proofs.Seeding.{in_row, v_degree, v_rank, y_inside, y_rank, v_bank, not_turned, has_turned, passed, queued}
use native.Mathlib.Omega.{arith}
use Rattle.edits.proofs.seeds.queue_turned_one.Goals as goal

pub overflow_add-v : goal.overflow_add-v
overflow_add-v c = omega (arith, c.from-at.ensures, in_row c.requires.turning.1 c.requires.in_row)

pub offset_bounds-neighbours-at : goal.offset_bounds-neighbours-at
offset_bounds-neighbours-at c = omega (arith, c.from-at.ensures, in_row c.requires.turning.1 c.requires.in_row)

pub bounds-neighbours-at : goal.bounds-neighbours-at
bounds-neighbours-at c = rw c.from-at.ensures (in_row c.requires.turning.1 c.requires.in_row)

pub bounds-degrees-at_v : goal.bounds-degrees-at_v
bounds-degrees-at_v c = rw (c.from-at_v.ensures, c.from-at.ensures) (v_degree c.requires.turning.1 c.requires.in_row)

pub bounds-ranks-at_v : goal.bounds-ranks-at_v
bounds-ranks-at_v c = rw (c.from-at_v.ensures, c.from-at.ensures) (v_rank c.requires.turning.1 c.requires.in_row)

pub bounds-ranks-at : goal.bounds-ranks-at
bounds-ranks-at c = rw c.from-at.ensures (y_rank c.requires.turning.1)

pub is_earlier-is-requires : goal.is_earlier-is-requires
is_earlier-is-requires c =
    record {
      have_degrees = (rw c.from-at.ensures (v_degree c.requires.turning.1 c.requires.in_row), y_inside c.requires.turning.1);
      have_ranks = (rw c.from-at.ensures (v_rank c.requires.turning.1 c.requires.in_row), y_rank c.requires.turning.1);
    }

pub returns-then-was-is : goal.returns-then-was-is
returns-then-was-is c = λ s tn.
    let was = rw (c.from-at_v.ensures, c.from-at.ensures) at c.earlier-was.ensures in
    let is = rw c.from-at.ensures at c.is_earlier-is.ensures in
    passed tn c.requires.in_row (not_turned tn c.requires.in_row was is c.if-was-is.true)

pub queue_seed-requires : goal.queue_seed-requires
queue_seed-requires c =
    record {
      recounting = (c.requires.turning.0.graph, c.requires.turning.0.counts, c.requires.turning.1.counts);
      bank = rw c.from-at.ensures (v_bank c.requires.turning.1 c.requires.in_row);
    }

pub returns : goal.returns
returns c =
    λ s tn.
    let was = rw (c.from-at_v.ensures, c.from-at.ensures) at c.earlier-was.ensures in
    let is = rw c.from-at.ensures at c.is_earlier-is.ensures in
    let turned = has_turned tn c.requires.in_row was is c.if-was-is.false in
    queued tn c.requires.in_row turned (rw c.from-at.ensures at (c.queue_seed.ensures s.graph s.counts tn.counts))
