-- `check_small` meets its contract: each return is one case of `direct_number`.
use Rattle.direct_rule.proofs.Numbers.{direct_refused, direct_many, direct_far, direct_fine}
use Rattle.rule.proofs.Refusals.{refused_some}
use Rattle.std.proofs.lemmas.Result.{err_from_is_err_and}
use mathlib.Core.Path.{sym}
use native.Mathlib.Omega.{arith}
use Rattle.direct_rule.proofs.check_small.Goals as goal

pub returns-in_err-check_plan-clause-number : goal.returns-in_err-check_plan-clause-number
returns-in_err-check_plan-clause-number c =
    let p = err_from_is_err_and c.from_residual.result c.from_residual.ensures.1 in
    rw (p.1, p.2) (sym (direct_refused _ _ _ _ (sym c.in_err-check_plan.ensures.number) (refused_some _)))

pub returns-then-banks-gt-MOST_READ-clause-number : goal.returns-then-banks-gt-MOST_READ-clause-number
returns-then-banks-gt-MOST_READ-clause-number c = sym (direct_many _ _ _ (sym c.in_ok-check_plan.ensures.number) c.if-banks-gt-MOST_READ.true)

pub returns-then-banks-bank-clause-number : goal.returns-then-banks-bank-clause-number
returns-then-banks-bank-clause-number c =
    sym (direct_far _ _ _ (sym c.in_ok-check_plan.ensures.number) (omega arith) c.if-banks-bank.true)

pub returns : goal.returns
returns c =
    let ok = c.in_ok-check_plan.ensures in
    record {
      number = sym (direct_fine _ _ _ (sym ok.number) c.if-banks-gt-MOST_READ.false c.if-banks-bank.false);
      plan = (ok.plan, c.if-banks-bank.false);
      few = c.if-banks-gt-MOST_READ.false;
    }
