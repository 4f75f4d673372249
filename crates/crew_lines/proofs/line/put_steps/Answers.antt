-- The loop has written the lines of the first k steps.
use Prim.Native.Nat.{◌+◌}
use Rattle.crew_lines.proofs.Lines.{steps_none, steps_next, steps_room}
use Rattle.crew_lines.specs.inner.Cells.{step_in, steps_in}
use Rattle.text.proofs.Putting.{puts_none, puts_then}
use mathlib.Core.Path.{◌≡◌, refl, ◌∙◌}
use native.Mathlib.Omega.{arith}
use Rattle.crew_lines.proofs.line.put_steps.Goals as goal

pub loop-k-init : goal.loop-k-init
loop-k-init c =
    let a = c.args in
    (rw (steps_none a.waves.now a.steps.now a.n) (puts_none _ _), refl)

pub put_step-next-requires : goal.put_step-next-requires
put_step-next-requires c =
    let w = c.loop-k in
    let a = c.args in
    let room = steps_room a.waves.now a.steps.now a.n w.k a.total c.loop-k-test.true in
    (omega (arith, c.requires.0), c.requires.1, c.requires.2, omega (arith, w.invariant.0.next, w.invariant.1, c.requires.3), c.requires.4)

pub loop-k-preserved : goal.loop-k-preserved
loop-k-preserved c =
    let w = c.loop-k in
    let a = c.args in
    let ws = a.waves.now in
    let ss = a.steps.now in
    let room = steps_room ws ss a.n w.k a.total c.loop-k-test.true in
    let fits = c.requires.3 in
    let more =
    puts_then (steps_in ws ss a.n w.k) (step_in ws ss a.n (w.k + 1)) a.at a.out.now (omega arith) _ _ _ _ w.invariant.0 c.put_step-next.ensures in
    (rw (steps_next ws ss a.n w.k) more, c.put_step-next.auto.out ∙ w.invariant.1)

pub returns : goal.returns
returns c =
    let w = c.loop-k in
    let e : w.k ≡ c.args.total = omega arith in
    rw e at w.invariant.0
