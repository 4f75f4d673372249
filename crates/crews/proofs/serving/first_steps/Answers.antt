-- The steps before the first w waves are stored, and added up.
use Rattle.crews.proofs.Starts.{starts_none, sum_fits, starts_next}
use native.Mathlib.Omega.{arith}
use Rattle.crews.proofs.serving.first_steps.Goals as goal

pub loop-w-init : goal.loop-w-init
loop-w-init c = starts_none c.requires.sizes c.requires.crew

pub overflow_add-total : goal.overflow_add-total
overflow_add-total c =
    record { fits = omega (arith, c.div_ceil-total.ensures, sum_fits c.requires.sizes c.requires.crew c.loop-w.invariant (omega arith)) }

pub loop-w-preserved : goal.loop-w-preserved
loop-w-preserved c = rw c.div_ceil-total.ensures (starts_next c.requires.sizes c.requires.crew c.loop-w.invariant (omega arith))
