-- The loop has written the lines of the waves below c.
use Rattle.sheet_writer.proofs.Texts.{waves_none, waves_next, waves_room}
use Rattle.sheet_writer.specs.inner.Cells.{sheet_wave, sheet_waves}
use Rattle.text.proofs.Putting.{puts_none, puts_then}
use mathlib.Core.Path.{◌≡◌, refl, ◌∙◌}
use native.Mathlib.Omega.{arith}
use Rattle.sheet_writer.proofs.lines.put_lines.Goals as goal

pub loop-c-init : goal.loop-c-init
loop-c-init c =
    let a = c.args in
    (rw (waves_none a.waves.now a.n) (puts_none _ _), refl)

pub put_line-next-requires : goal.put_line-next-requires
put_line-next-requires c =
    let w = c.loop-c in
    let a = c.args in
    let room = waves_room a.waves.now a.n w.c a.k c.loop-c-test.true in
    (omega (arith, c.requires.0), c.requires.1, omega (arith, w.invariant.0.next, w.invariant.1, c.requires.2))

pub loop-c-preserved : goal.loop-c-preserved
loop-c-preserved c =
    let w = c.loop-c in
    let a = c.args in
    let ws = a.waves.now in
    let room = waves_room ws a.n w.c a.k c.loop-c-test.true in
    let fits = c.requires.2 in
    let more =
    puts_then (sheet_waves ws a.n w.c) (sheet_wave ws a.n w.c) a.at a.out.now (omega arith) _ _ _ _ w.invariant.0 c.put_line-next.ensures in
    (rw (waves_next ws a.n w.c) more, c.put_line-next.auto.out ∙ w.invariant.1)

pub returns : goal.returns
returns c =
    let w = c.loop-c in
    let e : w.c ≡ c.args.k = omega arith in
    rw e at w.invariant.0
