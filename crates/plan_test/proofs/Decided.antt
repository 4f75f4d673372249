-- The answer of the whole test, from what its parts say.
use Rattle.std.proofs.Common.{◌≡◌, ◌≤◌, Bool, true, false, IsTrue, ◌↔◌, refl}
use Rattle.memory.specs.declared.Tally.{Tally}
use Rattle.memory.specs.Plan.{Slices, long_enough, is_plan}
use Rattle.memory.specs.inner.Test.{Tested}
use Rattle.memory.proofs.Question.{accepts, refuses}
use Rattle.std.proofs.lemmas.Bool.{false≢true}

pub decided : (s : Slices) (t : Tally) → t.banks ≤ 1024 → long_enough t.banks s ≡ true → (r : Bool) → (IsTrue r ↔ Tested s t) → r ≡ is_plan s t
decided s t few room true h = accepts s t few room (h.0 refl)
decided s t few room false h = refuses s t few room (λ all. false≢true (h.1 all))
