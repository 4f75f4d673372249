-- `wave_by_rule` meets its contract: memory that passes the questions holds a plan, whose rows, degrees and ranks give the rule wave.
use Rattle.direct_rule.proofs.Numbers.{wave_refused, wave_found}
use Rattle.rule.proofs.Refusals.{refused_some}
use Rattle.std.proofs.lemmas.Result.{err_from_is_err_and}
use mathlib.Core.Path.{◌∙◌}
use Rattle.direct_rule.proofs.wave_by_rule.Goals as goal

pub returns-in_err-check_small-clause-wave : goal.returns-in_err-check_small-clause-wave
returns-in_err-check_small-clause-wave c =
    let p = err_from_is_err_and c.from_residual.result c.from_residual.ensures.1 in
    rw p.1 (wave_refused _ _ _ _ c.in_err-check_small.ensures.number (refused_some _))

pub rule_wave_held-requires : goal.rule_wave_held-requires
rule_wave_held-requires c = let fine = c.in_ok-check_small.ensures in record { plan = fine.plan; few = fine.few }

pub returns-clause-wave : goal.returns-clause-wave
returns-clause-wave c = c.rule_wave_held.ensures ∙ wave_found _ _ _ c.in_ok-check_small.ensures.number
