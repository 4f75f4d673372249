-- The banks below b are listed.
use Rattle.checkpoints.specs.inner.Steps.{Listed}
use lib.ListN.{length}
use mathlib.Core.Path.{◌≡◌}
use Rattle.coming_back.proofs.back.list_moved.Given as goal

abbrev pub invariant-loop-b : goal.invariant-loop-b
invariant-loop-b l = Listed l.b l.old l.new l.initial.moved l.count l.moved × (length l.moved ≡ length l.initial.moved)
