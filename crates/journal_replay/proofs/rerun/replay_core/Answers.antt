-- `replay_core` meets its contract: refused by its first bytes or by opening, or replayed from the plan that was opened.
use Rattle.journal_fields.proofs.Numbers.{size_few, size_first_field}
use Rattle.journal_replay.proofs.FirstField.{replay_refused, open_refused, open_replayed, banks_read-law, begin_fresh}
use Rattle.rule.proofs.Refusals.{refused_some}
use mathlib.Core.Path.{refl, sym}
use native.Mathlib.Omega.{arith}
use Rattle.journal_replay.proofs.rerun.replay_core.Goals as goal

pub returns-in-Err : goal.returns-in-Err
returns-in-Err c = rw (c.refuse.ensures.0, c.refuse.ensures.1) (replay_refused _ _ _ c.in-Err.ensures (refused_some _))

pub number_at-banks-requires : goal.number_at-banks-requires
number_at-banks-requires c =
    let first = size_first_field _ c.args.journal.now (sym c.in_default.ensures) in
    omega arith

pub returns-in-Err-open_all : goal.returns-in-Err-open_all
returns-in-Err-open_all c =
    rw (c.refuse-in-Err-open_all.ensures.0, c.refuse-in-Err-open_all.ensures.1)
    (open_refused _ _ (sym c.in_default.ensures) _ (banks_read-law _ _ c.number_at-banks.ensures) _ _ c.in-Err-open_all.ensures (refused_some _))

pub enter_fields-requires : goal.enter_fields-requires
enter_fields-requires c =
    let bytes = c.args.journal.now in
    let z = sym c.in_default.ensures in
    let s = c.in-Ok.ensures.opened refl in
    record {
      held = (_, s.ready, begin_fresh _ _ s.fresh);
      few = size_few _ bytes z;
      later = omega arith;
      inside = omega (arith, size_first_field _ bytes z);
    }

pub returns : goal.returns
returns c =
    open_replayed _ _ (sym c.in_default.ensures) _ (banks_read-law _ _ c.number_at-banks.ensures) _ _
    c.in-Ok.ensures refl _ c.enter_fields.ensures.of
