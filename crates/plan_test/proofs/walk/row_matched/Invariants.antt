-- The walk within the row of b, by the laws of `Cursors`.
use Rattle.plan_test.specs.inner.Walk.{Walk}
use Rattle.plan_test.proofs.walk.row_matched.Given as goal

abbrev pub invariant-loop-i : goal.invariant-loop-i
invariant-loop-i l = Walk l.plan.neighbours.now l.plan.degrees.now l.plan.ranks.now l.plan.waves.now l.plan.tally.banks l.b.0 l.i l.cursors l.cells
