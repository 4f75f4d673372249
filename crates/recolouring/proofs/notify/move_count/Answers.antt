-- `move_count`: both cells lie in the part of v.
use Rattle.recolouring.proofs.Counting.{at_most, at_most_one, moved_if}
use lib.ListN.{length-set}
use native.Mathlib.Omega.{arith}
use Rattle.recolouring.proofs.notify.move_count.Goals as goal

pub overflow_sub-fewer : goal.overflow_sub-fewer
overflow_sub-fewer c = rw (c.from-base.ensures, c.from.ensures, c.from-one.ensures) (at_most c.args.notified _ c.requires.some)

pub overflow_add-more : goal.overflow_add-more
overflow_add-more c = rw (c.from-base.ensures, c.from-2.ensures, c.from-one.ensures) (omega (arith, at_most_one c.args.notified))

pub bounds-counts-to-2 : goal.bounds-counts-to-2
bounds-counts-to-2 c = simp length-set (omega arith)

pub shape_of-counts : goal.shape_of-counts
shape_of-counts c = simp length-set

pub returns : goal.returns
returns c = let a = c.args in rw (c.from-base.ensures, c.from.ensures, c.from-2.ensures, c.from-one.ensures) (moved_if a.notified a.counts.now a.v.0 a.old.0 a.new.0)
