-- The lines by what the call answers.
use Rattle.agree_lines.proofs.Verdicts.{plan_held, sheet_read, bank_below, text_accepted, text_no_sheet, text_waves, text_refused, as_text}
use Rattle.agree_lines.proofs.Verdicts.{waves_many, waves_clash}
use Rattle.rule.proofs.Refusals.{refused_some}
use mathlib.Core.Path.{refl, sym, ◌∙◌}
use native.Mathlib.Omega.{arith}
use Rattle.agree_lines.proofs.verdict.put_verdict.Goals as goal

pub is_own-requires : goal.is_own-requires
is_own-requires c = plan_held _ _ _ (sym c.in-Ok.ensures.answered.number)

pub put_banks-requires-clause-sheet : goal.put_banks-requires-clause-sheet
put_banks-requires-clause-sheet c =
    let check = rw c.in-Err-Clash.field-0-is at c.in-Err-Clash.ensures in
    sheet_read _ _ _ (sym check.answered.number)

pub put_banks-requires-clause-first_is_bank : goal.put_banks-requires-clause-first_is_bank
put_banks-requires-clause-first_is_bank c =
    let check = rw c.in-Err-Clash.field-0-is at c.in-Err-Clash.ensures in
    bank_below _ _ _ check.answered refl check.kind

pub returns-in-Ok : goal.returns-in-Ok
returns-in-Ok c =
    let put = c.put_accepted in (
      record { verdict = _; is = c.in-Ok.ensures.answered; text = as_text (text_accepted _ _ _ _ c.is_own.ensures refl) put.ensures.0 },
      omega (arith, c.requires, put.auto.out, put.ensures.1),
    )

pub returns-in-Err-Asked : goal.returns-in-Err-Asked
returns-in-Err-Asked c =
    let put = rw c.from.ensures at c.put_refusal.ensures in
    let check = rw c.in-Err-Asked.field-0-is at c.in-Err-Asked.ensures in
    let low = check.kind in (
      record {
        verdict = _;
        is = check.answered;
        text = as_text (text_refused _ _ _ _ (refused_some _) (λ z. omega arith) (λ z. omega arith)) put.0;
      },
      omega (arith, c.requires, c.put_refusal.auto.out, put.1),
    )

pub returns-in-Err-NoSheet : goal.returns-in-Err-NoSheet
returns-in-Err-NoSheet c =
    let put = c.put_no_sheet in
    let check = rw c.in-Err-NoSheet.field-0-is at c.in-Err-NoSheet.ensures in (
      record { verdict = _; is = check.answered; text = as_text (text_no_sheet _ _ _ _ refl) put.ensures.0 },
      omega (arith, c.requires, put.auto.out, put.ensures.1),
    )

pub returns-in-Err-Clash : goal.returns-in-Err-Clash
returns-in-Err-Clash c =
    let put = c.put_banks in
    let check = rw c.in-Err-Clash.field-0-is at c.in-Err-Clash.ensures in (
      record { verdict = _; is = check.answered; text = as_text (waves_clash _ _ _ _ check.kind ∙ text_waves _ _ _ _ refl) put.ensures.0 },
      omega (arith, c.requires, put.auto.out, put.ensures.1),
    )

pub returns-in-Err-ManyWaves : goal.returns-in-Err-ManyWaves
returns-in-Err-ManyWaves c =
    let put = c.put_many in
    let check = rw c.in-Err-ManyWaves.field-0-is at c.in-Err-ManyWaves.ensures in (
      record { verdict = _; is = check.answered; text = as_text (waves_many 0 0 _ _ refl ∙ text_waves _ _ _ _ refl) put.ensures.0 },
      omega (arith, c.requires, put.auto.out, put.ensures.1),
    )
