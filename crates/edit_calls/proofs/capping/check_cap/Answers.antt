-- `check_cap`: the plan's questions, then the cap's.
use Rattle.edit_calls.proofs.Calls.{set_cap_refused, set_cap_asked}
use Rattle.rule.proofs.Refusals.{refused_some}
use Rattle.std.proofs.lemmas.Result.{err_from_is_err_and}
use Rattle.edit_calls.proofs.capping.check_cap.Goals as goal

pub returns-in_err-check_plan : goal.returns-in_err-check_plan
returns-in_err-check_plan c =
    let p = err_from_is_err_and c.from_residual.result c.from_residual.ensures.1 in
    rw (p.1, p.2) (set_cap_refused _ _ _ _ c.in_err-check_plan.ensures.number (refused_some _))

pub returns : goal.returns
returns c = set_cap_asked _ _ _ c.in_ok-check_plan.ensures.number c.cap_number.ensures
