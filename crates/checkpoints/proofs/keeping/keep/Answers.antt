-- `keep`: the place of the name is filled.
use Rattle.checkpoints.proofs.Calls.{keep_refused, keep_done}
use Rattle.checkpoints.proofs.Numbers.{place_lent}
use Rattle.rule.proofs.Refusals.{refused_some}
use Rattle.std.proofs.lemmas.Result.{err_from_is_err_and}
use mathlib.Core.Path.{refl, ◌∙◌}
use native.Mathlib.Omega.{arith}
use Rattle.checkpoints.proofs.keeping.keep.Goals as goal

pub returns-in_err-check_keep : goal.returns-in_err-check_keep
returns-in_err-check_keep c =
    let p = err_from_is_err_and c.from_residual.result c.from_residual.ensures.1 in
    rw (p.1, p.2) (keep_refused _ _ _ _ _ c.in_err-check_keep.ensures.number (refused_some _))

pub unreachable-requires : goal.unreachable-requires
unreachable-requires c = absurd (omega (arith, c.in_default.ensures {u = tt}, c.in_ok-check_keep.ensures.ready.known))

pub overflow_mul-at : goal.overflow_mul-at
overflow_mul-at c =
    let ready = c.in_ok-check_keep.ensures.ready in
    omega (arith, place_lent ready (c.from.ensures ∙ c.in-Some.ensures.0) c.place_size.ensures)

pub put_plan-requires : goal.put_plan-requires
put_plan-requires c =
    let ready = c.in_ok-check_keep.ensures.ready in
    record {
      room = omega (arith, place_lent ready (c.from.ensures ∙ c.in-Some.ensures.0) c.place_size.ensures, c.place_size.ensures);
      long = ready.long;
    }

pub returns : goal.returns
returns c =
    keep_done _ _ _ _ _ _ c.in_ok-check_keep.ensures.number
    (rw (c.from.ensures ∙ c.in-Some.ensures.0, c.place_size.ensures) refl)
    c.put_plan.ensures
