-- `bring_back`: slice after slice.
use Prim.Native.Nat.{◌+◌, ◌*◌}
use Rattle.checkpoints.proofs.Calls.{brought}
use Rattle.memory.proofs.Theorems.{long}
use Rattle.memory.specs.Plan.{slices_of}
use native.Mathlib.Omega.{arith}
use Rattle.coming_back.proofs.back.bring_back.Goals as goal

pub put_part-requires : goal.put_part-requires
put_part-requires c =
    let l = long c.args.n _ c.requires.long in
    (omega (arith, l.neighbours), omega (arith, c.requires.size))

pub put_part-requires-2 : goal.put_part-requires-2
put_part-requires-2 c =
    let l = long c.args.n _ c.requires.long in
    (omega (arith, l.degrees), omega (arith, c.requires.size))

pub put_part-requires-3 : goal.put_part-requires-3
put_part-requires-3 c =
    let l = long c.args.n _ c.requires.long in
    (omega (arith, l.waves), omega (arith, c.requires.size))

pub put_part-requires-4 : goal.put_part-requires-4
put_part-requires-4 c =
    let l = long c.args.n _ c.requires.long in
    (omega (arith, l.counts), omega (arith, c.requires.size))

pub put_part-requires-5 : goal.put_part-requires-5
put_part-requires-5 c =
    let l = long c.args.n _ c.requires.long in
    (omega (arith, l.ranks), omega (arith, c.requires.size))

pub returns : goal.returns
returns c =
    let n = c.args.n in
    let wave = 1 + n * 23 + n in
    let count = wave + n in
    let s = slices_of c.args.neighbours.now c.args.degrees.now c.args.waves.now c.args.counts.now c.args.ranks.now in
    brought n c.args.place.now s (n * 23) (n * 24) (1 + n * 23) wave count (count + n * 24 + 3) _ _ _ _ _
    (omega arith) (omega arith) (omega arith) (omega arith) (omega arith) (omega arith)
    c.put_part.ensures c.put_part-2.ensures c.put_part-3.ensures c.put_part-4.ensures
    c.put_part-5.ensures
