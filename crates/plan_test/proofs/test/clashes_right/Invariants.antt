-- The walk over all rows, by the laws of `Cursors`.
use Rattle.plan_test.specs.inner.Walk.{Seen}
use Rattle.plan_test.proofs.test.clashes_right.Given as goal

abbrev pub invariant-loop-b : goal.invariant-loop-b
invariant-loop-b l = Seen l.plan.neighbours.now l.plan.degrees.now l.plan.ranks.now l.plan.waves.now l.plan.tally.banks l.b l.cursors l.cells
