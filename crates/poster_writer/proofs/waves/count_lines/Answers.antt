-- The loop has counted the lines of the waves below c.
use Rattle.poster_writer.proofs.Cells.{count_none, count_next}
use mathlib.Core.Path.{◌≡◌, sym}
use native.Mathlib.Omega.{arith}
use Rattle.poster_writer.proofs.waves.count_lines.Goals as goal

pub loop-c-init : goal.loop-c-init
loop-c-init c = (sym (count_none c.args.waves.now c.args.n), omega arith)

pub loop-c-preserved : goal.loop-c-preserved
loop-c-preserved c =
    let a = c.args in
    let w = c.loop-c in
    let counted = c.count_wave-lines.ensures in (
      omega (arith, count_next a.waves.now a.n w.c, w.invariant.0, counted.0),
      omega (arith, w.invariant.1, counted.1),
    )

pub returns : goal.returns
returns c =
    let w = c.loop-c in
    let e : w.c ≡ c.args.k = omega arith in
    (rw e at w.invariant.0, rw e at w.invariant.1)
