-- `clashes_held` meets its contract: the part that it returns is the filled part of the bank's row.
use Rattle.planner.proofs.Rows.{few_cells, degree_cell, row_cells, row_part}
use mathlib.Core.Path.{refl}
use native.Mathlib.Omega.{arith}
use Rattle.planner.proofs.reading.clashes_held.Goals as goal

pub bounds-plan-at : goal.bounds-plan-at
bounds-plan-at c = degree_cell c.requires.0.1 c.requires.1

pub overflow_add-end : goal.overflow_add-end
overflow_add-end c = omega (arith, few_cells c.requires.0.1 c.requires.1)

pub slice_bounds-result-end : goal.slice_bounds-result-end
slice_bounds-result-end c = omega (arith, few_cells c.requires.0.1 c.requires.1, row_cells c.requires.0.1 c.requires.1)

pub returns : goal.returns
returns c = λ G p. row_part p c.requires.1 _ _ refl refl
