-- `set_cap_core`: the tally with the cap, or as it was.
use Rattle.edit_calls.proofs.Calls.{cap_not_set, cap_is_set}
use Rattle.rule.proofs.Refusals.{refused_some}
use Rattle.std.proofs.lemmas.Result.{err_from_is_err_and}
use Rattle.edit_calls.proofs.capping.set_cap_core.Goals as goal

pub returns-in_err-check_cap : goal.returns-in_err-check_cap
returns-in_err-check_cap c =
    let p = err_from_is_err_and c.from_residual.result c.from_residual.ensures.1 in
    rw (p.1, p.2) (cap_not_set _ _ _ _ c.in_err-check_cap.ensures (refused_some _))

pub returns : goal.returns
returns c = cap_is_set _ _ _ c.in_ok-check_cap.ensures
