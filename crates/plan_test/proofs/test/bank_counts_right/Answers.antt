-- The parts that are lent are those of b.
use Rattle.memory.proofs.Rows.{group_lent}
use Rattle.plan_test.proofs.test.bank_counts_right.Goals as goal

pub returns : goal.returns
returns c =
    let a = c.args in
    rw (c.from-at.ensures, group_lent 24 a.plan.counts.now a.b.0, group_lent 24 a.cells.now a.b.0) at c.part_right.ensures
