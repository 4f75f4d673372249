-- `put_plan`: part after part.
use Prim.Native.Nat.{◌*◌}
use Rattle.checkpoints.proofs.Calls.{plan_put}
use Rattle.memory.proofs.Theorems.{long}
use Rattle.memory.specs.Lent.{slices_in}
use native.Mathlib.Omega.{arith}
use Rattle.checkpoints.proofs.keeping.put_plan.Goals as goal

pub put_cells-degree-requires : goal.put_cells-degree-requires
put_cells-degree-requires c = let l = long c.args.plan.tally.banks _ c.requires.long in (omega (arith, l.neighbours), omega arith)

pub put_cells-wave-requires : goal.put_cells-wave-requires
put_cells-wave-requires c = let l = long c.args.plan.tally.banks _ c.requires.long in (omega (arith, l.degrees), omega arith)

pub put_cells-count-requires : goal.put_cells-count-requires
put_cells-count-requires c = let l = long c.args.plan.tally.banks _ c.requires.long in (omega (arith, l.waves), omega arith)

pub put_cells-tally_at-requires : goal.put_cells-tally_at-requires
put_cells-tally_at-requires c = let l = long c.args.plan.tally.banks _ c.requires.long in (omega (arith, l.counts), omega arith)

pub put_cells-cap-requires : goal.put_cells-cap-requires
put_cells-cap-requires c = let l = long c.args.plan.tally.banks _ c.requires.long in (omega (arith, l.ranks), omega arith)

pub put_cells-requires : goal.put_cells-requires
put_cells-requires c = (omega arith, omega arith)

pub shape_of-shelf : goal.shape_of-shelf
shape_of-shelf c = omega arith

pub returns : goal.returns
returns c =
    let n = c.from-n.result in
    let is-n = c.from-n.ensures in
    let s = slices_in c.args.plan in
    let l = long c.args.plan.tally.banks s c.requires.long in
    plan_put s c.args.plan.tally l c.args.at c.args.shelf.now c.requires.room (n * 23) n (n * 24) _ _ _ _ _ _ _ _ _ _ _ _ _ _ _ _
    (omega (arith, is-n)) is-n (omega (arith, is-n)) c.put_cells-row.ensures c.put_cells-degree.ensures
    c.put_cells-wave.ensures c.put_cells-count.ensures c.put_cells-tally_at.ensures c.put_cells-rank.ensures
    c.put_cells-cap.ensures c.put_cells.ensures
