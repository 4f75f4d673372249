-- The walk within the row of b, by the laws of `Cursors`.
use Rattle.std.proofs.Common.{◌≡◌, get_or, arith}
use Rattle.plan_test.proofs.Cursors.{walk_start, walk_end}
use Rattle.plan_test.proofs.walk.row_matched.Goals as goal

pub loop-i-init : goal.loop-i-init
loop-i-init c = walk_start c.requires.seen c.requires.is_bank (rw c.from-at.ensures at c.from-i.ensures)

pub returns : goal.returns
returns c =
    let a = c.args in
    let first = rw c.from-at.ensures at c.from-i.ensures in
    let last = rw c.from-at.ensures at c.from-i-end.ensures in
    let e : c.loop-i.i ≡ get_or a.plan.degrees.now a.b.0 0 = omega (arith, c.requires.seen.ground.within a.b.0 c.requires.is_bank) in
    walk_end (rw e at c.loop-i.invariant)
