-- The degrees from d on are looked at.
use Rattle.wave_bounds.proofs.Degrees.{none_looked, sum_fits, found, passed}
use native.Mathlib.Omega.{arith}
use Rattle.wave_bounds.proofs.bound_by_degrees.Goals as goal

pub loop-d-init : goal.loop-d-init
loop-d-init c = none_looked _ _ c.requires

pub overflow_add-high : goal.overflow_add-high
overflow_add-high c = record { fits = sum_fits _ c.requires c.loop-d.invariant c.count_cells-cells.ensures _ (omega arith) }

pub returns-then-most-from : goal.returns-then-most-from
returns-then-most-from c =
    found _ _ c.loop-d.invariant (omega arith) (omega arith) c.count_cells-cells.ensures (omega (arith, c.from.ensures, c.if-most-from.true))

pub loop-d-preserved : goal.loop-d-preserved
loop-d-preserved c =
    passed _ _ c.loop-d.invariant (omega arith) (omega arith) c.count_cells-cells.ensures (omega (arith, c.from.ensures, c.if-most-from.false))
