-- The first b banks are served.
use Rattle.crews.specs.inner.Serving.{ServedTo}
use Rattle.crews.proofs.serving.serve_banks.Given as goal

abbrev pub invariant-loop-b : goal.invariant-loop-b
invariant-loop-b l = ServedTo l.waves l.starts l.banks l.q l.initial.steps l.b l.seen l.steps
