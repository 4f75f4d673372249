-- The crew and then its day, or the refusal.
use Rattle.crew_lines.proofs.Plans.{within_refused, within_fine}
use Rattle.rule.proofs.Refusals.{refused_some}
use Rattle.text.proofs.Putting.{puts_then}
use mathlib.Core.Path.{refl}
use native.Mathlib.Omega.{arith}
use Rattle.crew_lines.proofs.plan.put_within.Goals as goal

pub returns-in-Ok : goal.returns-in-Ok
returns-in-Ok c =
    let is = within_fine _ _ _ _ c.in-Ok.ensures refl in
    let all =
    puts_then _ _ 0 c.args.out.now
    (omega (arith, c.put_crew-next.ensures.0.next, c.put_crew-next.auto.out, c.put_day.ensures.0.next, c.put_day.auto.out, c.put_day.ensures.1)) _ _ _ _
    c.put_crew-next.ensures.0 c.put_day.ensures.0 in
    (rw is at all, c.put_day.ensures.1)

pub returns-in-Err : goal.returns-in-Err
returns-in-Err c =
    let is = within_refused _ _ _ _ c.in-Err.ensures (refused_some _) in
    (rw (c.from.ensures, is) at c.put_refused.ensures.0, c.put_refused.ensures.1)
