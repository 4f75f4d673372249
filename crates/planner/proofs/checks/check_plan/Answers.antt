-- `check_plan` meets its contract: each return is one case of `plan_number`.
use Rattle.planner.proofs.Numbers.{plan_many, plan_short, plan_none, plan_fine, number_plan}
use mathlib.Core.Path.{sym, ◌∙◌}
use native.Mathlib.Omega.{arith}
use Rattle.planner.proofs.checks.check_plan.Goals as goal

pub returns-then-banks-gt-MOST_BANKS-clause-number : goal.returns-then-banks-gt-MOST_BANKS-clause-number
returns-then-banks-gt-MOST_BANKS-clause-number c = sym (plan_many _ _ (omega arith))

pub returns-then-not-long_enough-clause-number : goal.returns-then-not-long_enough-clause-number
returns-then-not-long_enough-clause-number c = sym (plan_short _ _ (omega arith) (sym c.long_enough.ensures ∙ c.if-not-long_enough.true))

pub holds_plan-requires : goal.holds_plan-requires
holds_plan-requires c =
    record {
      banks_bound = omega arith;
      ranks_value = sym c.long_enough.ensures ∙ c.if-not-long_enough.false;
    }

pub returns-then-not-holds_plan-clause-number : goal.returns-then-not-holds_plan-clause-number
returns-then-not-holds_plan-clause-number c =
    sym (plan_none _ _ (omega arith) (sym c.long_enough.ensures ∙ c.if-not-long_enough.false) (sym c.holds_plan.ensures ∙ c.if-not-holds_plan.true))

pub returns : goal.returns
returns c =
    let e = plan_fine _ _ (omega arith) (sym c.long_enough.ensures ∙ c.if-not-long_enough.false) (sym c.holds_plan.ensures ∙ c.if-not-holds_plan.false) in
    record {
      number = sym e;
      plan = number_plan _ _ e;
    }
