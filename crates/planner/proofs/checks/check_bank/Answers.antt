-- `check_bank` meets its contract: each return is one case of `bank_number`.
use Rattle.planner.proofs.Numbers.{bank_refused, bank_far, bank_fine}
use Rattle.rule.proofs.Refusals.{refused_some}
use Rattle.std.proofs.lemmas.Result.{err_from_is_err_and}
use mathlib.Core.Path.{sym}
use Rattle.planner.proofs.checks.check_bank.Goals as goal

pub returns-in_err-check_plan-clause-number : goal.returns-in_err-check_plan-clause-number
returns-in_err-check_plan-clause-number c =
    let p = err_from_is_err_and c.from_residual.result c.from_residual.ensures.1 in
    rw (p.1, p.2) (sym (bank_refused _ _ _ _ (sym c.in_err-check_plan.ensures.number) (refused_some _)))

pub returns-then-plan-b-clause-number : goal.returns-then-plan-b-clause-number
returns-then-plan-b-clause-number c = sym (bank_far _ _ _ (sym c.in_ok-check_plan.ensures.number) c.if-plan-b.true)

pub returns-clause-number : goal.returns-clause-number
returns-clause-number c = sym (bank_fine _ _ _ (sym c.in_ok-check_plan.ensures.number) c.if-plan-b.false)
