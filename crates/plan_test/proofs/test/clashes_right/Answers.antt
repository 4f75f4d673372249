-- The walk over all rows, by the laws of `Cursors`.
use Rattle.plan_test.proofs.Cursors.{seen_start, seen_end}
use Rattle.plan_test.proofs.test.clashes_right.Goals as goal

pub loop-b-init : goal.loop-b-init
loop-b-init c = seen_start c.requires.rows c.requires.long_ranks c.requires.waves_small

pub returns : goal.returns
returns c = seen_end c.loop-b-test.false c.loop-b.invariant c.args.plan.counts.now c.counts_right.result c.counts_right.ensures
