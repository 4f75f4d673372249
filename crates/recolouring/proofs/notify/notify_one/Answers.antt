-- `notify_one`: Counts of neighbour i and the queue are brought up to date.
use Rattle.recolouring.proofs.Notices.{in_row, v_degree, v_rank, by_cells-law, movable, enqueuable, notified}
use native.Mathlib.Omega.{arith}
use Rattle.recolouring.proofs.notify.notify_one.Goals as goal

pub overflow_add-v : goal.overflow_add-v
overflow_add-v c = omega (arith, in_row c.requires.notifying.1 c.requires.i_bound)

pub offset_bounds-neighbours-at : goal.offset_bounds-neighbours-at
offset_bounds-neighbours-at c = omega (arith, in_row c.requires.notifying.1 c.requires.i_bound)

pub bounds-neighbours-at : goal.bounds-neighbours-at
bounds-neighbours-at c = rw c.from-at.ensures (in_row c.requires.notifying.1 c.requires.i_bound)

pub bounds-degrees-at_v : goal.bounds-degrees-at_v
bounds-degrees-at_v c = let v = rw c.from-at.ensures at c.from-at_v.ensures in rw v (v_degree c.requires.notifying.1 c.requires.i_bound)

pub bounds-ranks-at_v : goal.bounds-ranks-at_v
bounds-ranks-at_v c = let v = rw c.from-at.ensures at c.from-at_v.ensures in rw v (v_rank c.requires.notifying.1 c.requires.i_bound)

pub move_count-requires : goal.move_count-requires
move_count-requires c =
    let p = c.requires in
    let v = rw c.from-at.ensures at c.from-at_v.ensures in
    let later = rw (v, c.from-at.ensures) at c.earlier-later.ensures in
    rw c.from-at.ensures (movable p.notifying.1 p.i_bound (by_cells-law p.notifying.1 p.i_bound p.of_b.0 p.of_b.1 later))

pub enqueue-requires : goal.enqueue-requires
enqueue-requires c =
    let v = rw c.from-at.ensures at c.from-at_v.ensures in
    (c.requires.notifying.0.graph, rw (v, c.from-at.ensures) (enqueuable c.requires.notifying.1 c.requires.i_bound))

pub shape_of-counts : goal.shape_of-counts
shape_of-counts c = c.move_count.auto.counts

pub returns : goal.returns
returns c =
    let p = c.requires in
    let v = rw c.from-at.ensures at c.from-at_v.ensures in
    let later = rw (v, c.from-at.ensures) at c.earlier-later.ensures in
    let moved = rw c.from-at.ensures at c.move_count.ensures in
    λ s nt.
    let queued = c.enqueue.ensures s.graph (rw (v, c.from-at.ensures) (enqueuable nt p.i_bound)) in
    rw moved (notified nt p.i_bound (by_cells-law nt p.i_bound p.of_b.0 p.of_b.1 later) (rw c.from-at.ensures at queued))
