-- The steps before the first w waves are stored, and added up.
use Rattle.crews.specs.inner.Serving.{StartsTo}
use Rattle.crews.proofs.serving.first_steps.Given as goal

abbrev pub invariant-loop-w : goal.invariant-loop-w
invariant-loop-w l = StartsTo l.sizes l.q l.w l.cells l.total
