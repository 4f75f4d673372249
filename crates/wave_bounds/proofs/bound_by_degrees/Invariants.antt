-- The degrees from d on are looked at.
use Rattle.wave_bounds.specs.inner.Degrees.{cells_from, LookedFrom}
use Rattle.wave_bounds.proofs.bound_by_degrees.Given as goal

abbrev pub invariant-loop-d : goal.invariant-loop-d
invariant-loop-d l = LookedFrom (cells_from l.degrees l.banks) l.d l.high
