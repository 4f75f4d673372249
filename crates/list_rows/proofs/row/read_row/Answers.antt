-- `read_row` meets its contract: the spaces it finds part the row.
use Rattle.list_rows.proofs.Forms.{row_one, row_two, row_three, row_more}
use mathlib.Core.Path.{◌∙◌}
use Rattle.list_rows.proofs.row.read_row.Goals as goal

pub returns-then-s-end : goal.returns-then-s-end
returns-then-s-end c = row_one _ _ c.find-end.ensures c.if-s-end.true

pub returns-then-s-end2 : goal.returns-then-s-end2
returns-then-s-end2 c = c.read_two_parts.ensures ∙ row_two _ _ c.find-end.ensures c.if-s-end.false _ c.find-end2.ensures c.if-s-end2.true

pub returns-then-s-end3 : goal.returns-then-s-end3
returns-then-s-end3 c =
    c.read_three_parts.ensures
    ∙ row_three _ _ c.find-end.ensures c.if-s-end.false _ c.find-end2.ensures c.if-s-end2.false _ c.find-end3.ensures c.if-s-end3.true

pub returns : goal.returns
returns c = row_more _ _ c.find-end.ensures c.if-s-end.false _ c.find-end2.ensures c.if-s-end2.false _ c.find-end3.ensures c.if-s-end3.false
