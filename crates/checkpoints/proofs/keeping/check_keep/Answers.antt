-- `check_keep`: each return is one case of `keep_number`.
use Rattle.checkpoints.proofs.Numbers.{keep_shelf, keep_plan, shelf_passed, keep_wrong, keep_unknown, keep_fine, keep_ready}
use Rattle.rule.proofs.Refusals.{refused_some}
use Rattle.std.proofs.lemmas.Result.{err_from_is_err_and}
use mathlib.Core.Path.{sym, ◌∙◌}
use native.Mathlib.Omega.{arith}
use Rattle.checkpoints.proofs.keeping.check_keep.Goals as goal

pub returns-in_err-check_shelf-clause-number : goal.returns-in_err-check_shelf-clause-number
returns-in_err-check_shelf-clause-number c =
    let p = err_from_is_err_and c.from_residual.result c.from_residual.ensures.1 in
    rw (p.1, p.2) (sym (keep_shelf _ _ _ _ _ (sym c.in_err-check_shelf.ensures) (refused_some _)))

pub returns-in_err-check_plan-clause-number : goal.returns-in_err-check_plan-clause-number
returns-in_err-check_plan-clause-number c =
    let p = err_from_is_err_and c.from_residual-in_err-check_plan.result c.from_residual-in_err-check_plan.ensures.1 in
    rw (p.1, p.2) (sym (keep_plan _ _ _ _ _ (sym c.in_ok-check_shelf.ensures) (sym c.in_err-check_plan.ensures.number) (refused_some _)))

pub shelf_right-requires : goal.shelf_right-requires
shelf_right-requires c = shelf_passed _ _ (sym c.in_ok-check_shelf.ensures)

pub returns-then-not-shelf_right-clause-number : goal.returns-then-not-shelf_right-clause-number
returns-then-not-shelf_right-clause-number c =
    sym (keep_wrong _ _ _ _ (sym c.in_ok-check_shelf.ensures) (sym c.in_ok-check_plan.ensures.number)
    (sym c.shelf_right.ensures ∙ c.if-not-shelf_right.true))

pub returns-in-None-clause-number : goal.returns-in-None-clause-number
returns-in-None-clause-number c =
    sym (keep_unknown _ _ _ _ (sym c.in_ok-check_shelf.ensures) (sym c.in_ok-check_plan.ensures.number)
    (sym c.shelf_right.ensures ∙ c.if-not-shelf_right.false) (omega (arith, c.in-None.ensures)))

pub returns-in-Some : goal.returns-in-Some
returns-in-Some c =
    let room = sym c.in_ok-check_shelf.ensures in
    let plan = sym c.in_ok-check_plan.ensures.number in
    let right = sym c.shelf_right.ensures ∙ c.if-not-shelf_right.false in
    let near = c.in-Some.ensures in
    record {
      number = sym (keep_fine _ _ _ _ room plan right (omega (arith, near.0, near.1)));
      ready = keep_ready _ _ _ _ room plan (omega (arith, near.0, near.1));
    }
