-- `rule_wave_held` meets its contract: the rows, degrees and ranks of a plan give the rule wave.
use Rattle.direct_rule.proofs.Search.{plan_readable, read_wave}
use mathlib.Core.Path.{◌∙◌}
use Rattle.direct_rule.proofs.rule_wave_held.Goals as goal

pub wave_of_bank-requires : goal.wave_of_bank-requires
wave_of_bank-requires c = plan_readable _ _ c.requires.plan.0 c.requires.plan.1

pub returns : goal.returns
returns c = c.wave_of_bank.ensures ∙ read_wave _ _ _
