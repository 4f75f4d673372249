-- `check_back`: each return is one case of `back_number`.
use Rattle.checkpoints.proofs.Numbers.{place_lent, back_many, back_short, back_keep, back_unused, back_fine}
use Rattle.rule.proofs.Refusals.{refused_some}
use Rattle.std.proofs.lemmas.Result.{err_from_is_err_and}
use mathlib.Core.Path.{refl, sym, ◌∙◌}
use native.Mathlib.Omega.{arith}
use Rattle.coming_back.proofs.back.check_back.Goals as goal

pub returns-then-n-gt-MOST_BANKS-clause-number : goal.returns-then-n-gt-MOST_BANKS-clause-number
returns-then-n-gt-MOST_BANKS-clause-number c = sym (back_many _ _ _ _ _ (omega arith))

pub returns-then-moved-n-clause-number : goal.returns-then-moved-n-clause-number
returns-then-moved-n-clause-number c = sym (back_short _ _ _ _ _ (omega arith) (omega arith))

pub returns-in_err-check_keep-clause-number : goal.returns-in_err-check_keep-clause-number
returns-in_err-check_keep-clause-number c =
    let p = err_from_is_err_and c.from_residual.result c.from_residual.ensures.1 in
    rw (p.1, p.2) (sym (back_keep _ _ _ _ _ _ (omega arith) (sym c.in_err-check_keep.ensures.number) (refused_some _)))

pub unreachable-requires : goal.unreachable-requires
unreachable-requires c = absurd (omega (arith, c.in_default.ensures {u = tt}, c.in_ok-check_keep.ensures.ready.known))

pub overflow_mul-at : goal.overflow_mul-at
overflow_mul-at c = omega (arith, place_lent c.in_ok-check_keep.ensures.ready (c.from.ensures ∙ c.in-Some.ensures.0) c.place_size.ensures)

pub offset_bounds-shelf-at : goal.offset_bounds-shelf-at
offset_bounds-shelf-at c =
    omega (arith, c.place_size.ensures, place_lent c.in_ok-check_keep.ensures.ready (c.from.ensures ∙ c.in-Some.ensures.0) c.place_size.ensures)

pub bounds-shelf-at : goal.bounds-shelf-at
bounds-shelf-at c =
    omega (arith, c.place_size.ensures, place_lent c.in_ok-check_keep.ensures.ready (c.from.ensures ∙ c.in-Some.ensures.0) c.place_size.ensures)

pub returns-then-shelf-at-ne1-clause-number : goal.returns-then-shelf-at-ne1-clause-number
returns-then-shelf-at-ne1-clause-number c =
    sym (back_unused _ _ _ _ _ _ (omega arith) (sym c.in_ok-check_keep.ensures.number)
    (rw (c.from.ensures ∙ c.in-Some.ensures.0, c.place_size.ensures) refl) c.if-shelf-at-ne1.true)

pub returns : goal.returns
returns c =
    record {
      number = sym (back_fine _ _ _ _ _ _ (omega arith) (sym c.in_ok-check_keep.ensures.number)
          (rw (c.from.ensures ∙ c.in-Some.ensures.0, c.place_size.ensures) refl) c.if-shelf-at-ne1.false);
      ready = (c.in_ok-check_keep.ensures.ready, omega arith);
    }
