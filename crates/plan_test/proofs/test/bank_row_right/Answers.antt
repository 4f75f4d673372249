-- The part that is lent is the row of b.
use Rattle.memory.proofs.Rows.{group_lent}
use Rattle.plan_test.proofs.test.bank_row_right.Goals as goal

pub returns : goal.returns
returns c = rw (c.from-at.ensures, group_lent 23 c.args.plan.neighbours.now c.args.b.0) at c.row_right.ensures
