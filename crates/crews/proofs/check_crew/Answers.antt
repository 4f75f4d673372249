-- `check_crew` meets its contract: each return is one case of `crew_number`.
use Rattle.crews.proofs.Numbers.{crew_of, crew_many, crew_short, crew_refused, crew_out, crew_fine}
use Rattle.rule.proofs.Refusals.{refused_some}
use Rattle.std.proofs.lemmas.Result.{err_from_is_err_and}
use mathlib.Core.Path.{sym, ◌∙◌}
use native.Mathlib.Omega.{arith}
use Rattle.crews.proofs.check_crew.Goals as goal

pub returns-then-n-gt-MOST_BANKS-clause-number : goal.returns-then-n-gt-MOST_BANKS-clause-number
returns-then-n-gt-MOST_BANKS-clause-number c = sym (crew_many _ _ _ _ (omega arith))

pub returns-then-steps-n-clause-number : goal.returns-then-steps-n-clause-number
returns-then-steps-n-clause-number c = sym (crew_short _ _ _ _ (omega arith) (omega arith))

pub returns-in_err-check_plan-clause-number : goal.returns-in_err-check_plan-clause-number
returns-in_err-check_plan-clause-number c =
    let p = err_from_is_err_and c.from_residual.result c.from_residual.ensures.1 in
    rw (p.1, p.2) (sym (crew_refused _ _ _ _ (omega arith) _ (sym c.in_err-check_plan.ensures.number) (refused_some _)))

pub returns-then-not-crew_fits-clause-number : goal.returns-then-not-crew_fits-clause-number
returns-then-not-crew_fits-clause-number c =
    sym (crew_out _ _ _ _ (omega arith) (sym c.in_ok-check_plan.ensures.number) (sym c.crew_fits.ensures ∙ c.if-not-crew_fits.true))

pub returns : goal.returns
returns c =
    let fits = sym c.crew_fits.ensures ∙ c.if-not-crew_fits.false in
    record {
      number = sym (crew_fine _ _ _ _ (omega arith) (sym c.in_ok-check_plan.ensures.number) fits);
      crew = record { plan = c.in_ok-check_plan.ensures.plan; room = omega arith; crew = crew_of _ fits };
    }
