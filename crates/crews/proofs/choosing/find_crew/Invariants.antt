-- No smaller number ends in time, so that the first from q on is the first from 1 on.
use Prim.Native.Nat.{◌-◌}
use Rattle.crews.specs.Day.{first_from}
use Rattle.crews.specs.inner.Serving.{ends_by, least_by_sizes}
use mathlib.Core.Path.{◌≡◌}
use Rattle.crews.proofs.choosing.find_crew.Given as goal

abbrev pub invariant-loop-q : goal.invariant-loop-q
invariant-loop-q l = first_from (65 - l.q) l.q (ends_by l.sizes l.limit) ≡ least_by_sizes l.sizes l.limit
