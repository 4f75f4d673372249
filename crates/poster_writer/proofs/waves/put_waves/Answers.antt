-- The loop has written the waves below c.
use Rattle.poster_writer.proofs.Cells.{waves_none, waves_next, waves_room}
use Rattle.poster_writer.specs.inner.Cells.{poster_wave, poster_waves}
use Rattle.text.proofs.Putting.{puts_none, puts_then}
use mathlib.Core.Path.{◌≡◌, refl, ◌∙◌}
use native.Mathlib.Omega.{arith}
use Rattle.poster_writer.proofs.waves.put_waves.Goals as goal

pub loop-c-init : goal.loop-c-init
loop-c-init c =
    let a = c.args in
    (rw (waves_none a.waves.now a.n) (puts_none _ _), refl)

pub put_wave_of-next-requires : goal.put_wave_of-next-requires
put_wave_of-next-requires c =
    let w = c.loop-c in
    let a = c.args in
    let pre = c.requires in
    let room = waves_room a.waves.now a.n w.c a.k c.loop-c-test.true in
    (omega (arith, pre.1), pre.0, pre.2, omega (arith, w.invariant.0.next, w.invariant.1, pre.3))

pub loop-c-preserved : goal.loop-c-preserved
loop-c-preserved c =
    let w = c.loop-c in
    let a = c.args in
    let ws = a.waves.now in
    let room = waves_room ws a.n w.c a.k c.loop-c-test.true in
    let fits = c.requires.3 in
    let more =
    puts_then (poster_waves ws a.n w.c) (poster_wave ws a.n w.c) 0 a.out.now (omega arith) _ _ _ _ w.invariant.0 c.put_wave_of-next.ensures in
    (rw (waves_next ws a.n w.c) more, c.put_wave_of-next.auto.out ∙ w.invariant.1)

pub returns : goal.returns
returns c =
    let w = c.loop-c in
    let e : w.c ≡ c.args.k = omega arith in
    rw e at w.invariant.0
