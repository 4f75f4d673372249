-- `check_sheet` meets its contract, question by question.
use Rattle.rule.proofs.Refusals.{refused_some}
use Rattle.sheet_reader.proofs.Answers.{rows_of, cells_enough, cells_free, answer_plan, plan_low, answer_sheet, answer_judged}
use Rattle.std.proofs.lemmas.Result.{err_from_is_err_and}
use Rattle.wave_lines.proofs.Plans.{plan_most}
use mathlib.Core.Path.{refl}
use native.Mathlib.Omega.{arith}
use Rattle.sheet_reader.proofs.check_sheet.Goals as goal

pub returns-in_err-check_plan : goal.returns-in_err-check_plan
returns-in_err-check_plan c =
    let p = err_from_is_err_and c.from_residual.result c.from_residual.ensures.1 in
    rw (p.1, p.2) (record {
      answered = answer_plan _ _ _ refl refl refl refl c.in_err-check_plan.ensures.number (refused_some _) refl;
      kind = plan_low _ _ c.args.sheet.now _ c.in_err-check_plan.ensures.number (refused_some _);
    })

pub read_sheet-requires : goal.read_sheet-requires
read_sheet-requires c =
    let most = plan_most _ _ _ c.in_ok-check_plan.ensures.plan in
    record { enough = cells_enough _ most; none_named = cells_free _ most }

pub judge-requires : goal.judge-requires
judge-requires c =
    let plan = c.in_ok-check_plan.ensures.plan in
    record { rowed = rows_of _ _ plan; cells_for_all = omega (arith, plan_most _ _ _ plan) }

pub returns-in-Ok : goal.returns-in-Ok
returns-in-Ok c =
    record {
      answered = answer_judged _ _ _ c.in_ok-check_plan.ensures.number c.in-Ok.ensures c.judge.ensures.judged;
      kind = c.judge.ensures.kind;
    }

pub returns-in-Err-clause-answered : goal.returns-in-Err-clause-answered
returns-in-Err-clause-answered c =
    answer_sheet _ _ _ refl refl refl refl c.in_ok-check_plan.ensures.number refl c.in-Err.ensures.0 c.in-Err.ensures.1
