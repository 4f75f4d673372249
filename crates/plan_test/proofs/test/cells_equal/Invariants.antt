-- The cells so far that are equal are counted.
use Rattle.plan_test.proofs.Counted.{Equals}
use Rattle.plan_test.proofs.test.cells_equal.Given as goal

abbrev pub invariant-loop-c : goal.invariant-loop-c
invariant-loop-c l = Equals l.part l.cells l.equal l.c
