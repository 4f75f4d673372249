-- `wave_bound` meets its contract: memory that passes the questions holds a plan, and its degrees give the bound.
use Rattle.wave_bounds.proofs.Calls.{plan_degrees, plan_bound, bound_refused, bound_found}
use Rattle.rule.proofs.Refusals.{refused_some}
use Rattle.std.proofs.lemmas.Result.{err_from_is_err_and}
use mathlib.Core.Path.{◌∙◌}
use Rattle.wave_bounds.proofs.wave_bound.Goals as goal

pub returns-in_err-check_plan-clause-bound : goal.returns-in_err-check_plan-clause-bound
returns-in_err-check_plan-clause-bound c =
    let p = err_from_is_err_and c.from_residual.result c.from_residual.ensures.1 in
    rw p.1 (bound_refused _ _ _ c.in_err-check_plan.ensures.number (refused_some _))

pub bound_by_degrees-requires : goal.bound_by_degrees-requires
bound_by_degrees-requires c = plan_degrees c.in_ok-check_plan.ensures.plan

pub returns-clause-bound : goal.returns-clause-bound
returns-clause-bound c =
    let ok = c.in_ok-check_plan.ensures in
    plan_bound ok.plan c.bound_by_degrees.ensures ∙ bound_found _ _ ok.number
