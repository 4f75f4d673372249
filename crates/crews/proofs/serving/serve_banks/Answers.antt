-- The first b banks are served.
use Rattle.crews.proofs.Stored.{served_none, served_all, wave_small, seen_few, step_few, served_next}
use mathlib.Core.Path.{refl}
use native.Mathlib.Omega.{arith}
use Rattle.crews.proofs.serving.serve_banks.Goals as goal

pub loop-b-init : goal.loop-b-init
loop-b-init c = served_none c.requires refl

pub overflow_add-steps : goal.overflow_add-steps
overflow_add-steps c = omega (arith, step_few c.requires c.loop-b.invariant (omega arith) (wave_small c.requires c.from-w.ensures (omega arith)))

pub overflow_add-steps-in-loop-b : goal.overflow_add-steps-in-loop-b
overflow_add-steps-in-loop-b c = omega (arith, step_few c.requires c.loop-b.invariant (omega arith) (wave_small c.requires c.from-w.ensures (omega arith)))

pub overflow_add-seen : goal.overflow_add-seen
overflow_add-seen c = omega (arith, seen_few c.requires c.loop-b.invariant (omega arith) (wave_small c.requires c.from-w.ensures (omega arith)))

pub loop-b-preserved : goal.loop-b-preserved
loop-b-preserved c = served_next c.requires c.loop-b.invariant (omega arith) c.from-w.ensures

pub returns : goal.returns
returns c = served_all c.requires c.loop-b.invariant (omega arith)
