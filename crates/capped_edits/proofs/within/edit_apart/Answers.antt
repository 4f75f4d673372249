-- `edit_apart`: what was tried with a trail and a moved list of its own is put into the lent ones where it is accepted.
use Rattle.capped_edits.proofs.Unmade.{own_ready, trail_few, moved_few, apart}
use Rattle.memory.specs.Lent.{given}
use native.Mathlib.Omega.{arith}
use Rattle.capped_edits.proofs.within.edit_apart.Goals as goal

pub try_edit-tried-requires : goal.try_edit-tried-requires
try_edit-tried-requires c = let p = c.requires in (_, own_ready p.1)

pub put_kept-taken-requires : goal.put_kept-taken-requires
put_kept-taken-requires c =
    let a = c.args in
    let m = given a.neighbours.now a.degrees.now a.waves.now a.counts.now a.ranks.now a.trail.now a.moved.now a.tally in
    let p = c.requires in
    λ z.
    let few = trail_few m (c.try_edit-tried.ensures p.0 (own_ready p.1)) z in
    (omega (arith, few, p.1.plan.clashes.most), omega (arith, few, p.1.trail_room))

pub put_kept-changed-requires : goal.put_kept-changed-requires
put_kept-changed-requires c =
    let a = c.args in
    let m = given a.neighbours.now a.degrees.now a.waves.now a.counts.now a.ranks.now a.trail.now a.moved.now a.tally in
    let p = c.requires in
    λ z.
    let few = moved_few m (c.try_edit-tried.ensures p.0 (own_ready p.1)) z in
    (omega (arith, few, p.1.plan.clashes.most), omega (arith, few, p.1.moved_room))

pub returns : goal.returns
returns c =
    let a = c.args in
    let m = given a.neighbours.now a.degrees.now a.waves.now a.counts.now a.ranks.now a.trail.now a.moved.now a.tally in
    λ G ready.
    apart m (c.try_edit-tried.ensures G (own_ready ready)) c.put_kept-taken.ensures c.put_kept-changed.ensures
