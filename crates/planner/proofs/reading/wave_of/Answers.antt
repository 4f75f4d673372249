-- `wave_of` meets its contract: a bank that passes the questions stands in the plan that memory holds, and its cell has its rule wave.
use Rattle.planner.proofs.Rows.{wave_cell, plan_wave, wave_refused, wave_found}
use Rattle.rule.proofs.Refusals.{refused_some}
use Rattle.std.proofs.lemmas.Result.{err_from_is_err_and}
use mathlib.Core.Path.{◌∙◌}
use Rattle.planner.proofs.reading.wave_of.Goals as goal

pub bounds-plan-at : goal.bounds-plan-at
bounds-plan-at c = let h = c.in_ok-check_bank.ensures.plan in wave_cell h.0 h.1

pub returns-in_err-check_bank-clause-wave : goal.returns-in_err-check_bank-clause-wave
returns-in_err-check_bank-clause-wave c =
    let p = err_from_is_err_and c.from_residual.result c.from_residual.ensures.1 in
    rw p.1 (wave_refused _ _ _ _ c.in_err-check_bank.ensures.number (refused_some _))

pub returns-clause-wave : goal.returns-clause-wave
returns-clause-wave c =
    let ok = c.in_ok-check_bank.ensures in
    plan_wave ok.plan.0 ok.plan.1 ∙ wave_found _ _ _ ok.number
