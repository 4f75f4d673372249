-- `by_cells` is `earlier_by` of the cells of the two banks.
use Rattle.memory.specs.inner.Counts.{by_cells}
use Rattle.memory.proofs.order.is_earlier.Goals as goal

pub returns : goal.returns
unfolding by_cells
returns c = c.earlier.ensures
