-- The lines by the cells that the call left, or its refusal.
use Rattle.crew_lines.proofs.Plans.{day_refused, day_cells}
use Rattle.rule.proofs.Refusals.{refused_some}
use mathlib.Core.Path.{refl}
use native.Mathlib.Omega.{arith}
use Rattle.crew_lines.proofs.plan.put_day.Goals as goal

pub put_steps-requires : goal.put_steps-requires
put_steps-requires c =
    let day = day_cells _ _ _ _ _ c.in-Ok.ensures refl in
    (day.few, day.waves, day.room, omega (arith, c.requires, day.fits), day.low)

pub returns-in-Ok : goal.returns-in-Ok
returns-in-Ok c =
    let day = day_cells _ _ _ _ _ c.in-Ok.ensures refl in
    (rw day.text at c.put_steps.ensures, omega (arith, c.requires, day.fits, c.put_steps.ensures.next, c.put_steps.auto.out))

pub returns-in-Err : goal.returns-in-Err
returns-in-Err c =
    let is = day_refused _ _ _ _ _ c.in-Err.ensures (refused_some _) in
    (rw (c.from.ensures, is) at c.put_refused.ensures.0, c.put_refused.ensures.1)
