-- `least_crew` meets its contract: the sizes of the waves of the plan that memory holds give the least number.
use Rattle.crews.proofs.Answers.{plan_waves, least_is}
use Rattle.crews.proofs.Numbers.{crew_no_plan, crew_beyond, crew_late, crew_found}
use Rattle.crews.proofs.Stored.{sizes_fit}
use Rattle.rule.proofs.Refusals.{refused_some}
use Rattle.std.proofs.lemmas.Result.{err_from_is_err_and}
use mathlib.Core.Path.{sym, ◌∙◌}
use native.Mathlib.Omega.{arith}
use Rattle.crews.proofs.least_crew.Goals as goal

pub returns-in_err-check_plan : goal.returns-in_err-check_plan
returns-in_err-check_plan c =
    let p = err_from_is_err_and c.from_residual.result c.from_residual.ensures.1 in
    rw (p.1, p.2) (crew_no_plan _ _ _ _ (sym c.in_err-check_plan.ensures.number) (refused_some _))

pub returns-then-limit-gt-MOST_STEPS : goal.returns-then-limit-gt-MOST_STEPS
returns-then-limit-gt-MOST_STEPS c = crew_beyond _ _ _ (sym c.in_ok-check_plan.ensures.number) (omega (arith, c.if-limit-gt-MOST_STEPS.true))

pub count_cells-sizes-requires : goal.count_cells-sizes-requires
count_cells-sizes-requires c = plan_waves c.in_ok-check_plan.ensures.plan

pub find_crew-couriers-requires : goal.find_crew-couriers-requires
find_crew-couriers-requires c = sizes_fit (plan_waves c.in_ok-check_plan.ensures.plan) c.count_cells-sizes.ensures

pub returns-then-couriers-eq0 : goal.returns-then-couriers-eq0
returns-then-couriers-eq0 c =
    let ok = c.in_ok-check_plan.ensures in
    let is = c.find_crew-couriers.ensures ∙ least_is ok.plan c.count_cells-sizes.ensures _ in
    crew_late _ _ _ (sym ok.number) (omega (arith, c.if-limit-gt-MOST_STEPS.false)) is c.if-couriers-eq0.true

pub returns : goal.returns
returns c =
    let ok = c.in_ok-check_plan.ensures in
    let is = c.find_crew-couriers.ensures ∙ least_is ok.plan c.count_cells-sizes.ensures _ in
    crew_found _ _ _ (sym ok.number) (omega (arith, c.if-limit-gt-MOST_STEPS.false)) is c.if-couriers-eq0.false
