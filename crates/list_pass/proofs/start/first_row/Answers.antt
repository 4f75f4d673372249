-- The first row, or after `V 2` the second.
use Rattle.list_pass.proofs.Beginning.{starts_plain, starts_after}
use mathlib.Core.Path.{sym, ◌∙◌}
use Rattle.list_pass.proofs.start.first_row.Goals as goal

pub returns-then-not-is_v2 : goal.returns-then-not-is_v2
returns-then-not-is_v2 c = starts_plain _ _ c.find-end.ensures (sym (c.if-not-is_v2.true) ∙ c.is_v2.ensures)

pub returns : goal.returns
returns c = starts_after _ _ c.find-end.ensures (sym (c.if-not-is_v2.false) ∙ c.is_v2.ensures) _ c.min.ensures
