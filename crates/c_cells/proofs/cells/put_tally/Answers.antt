-- `put_tally` meets its contract: the cells that it puts are the tally's.
use Rattle.c_cells.specs.CellMemory.{tally_cells}
use borrow.Author.Rules.{rules}
use Rattle.c_cells.proofs.cells.put_tally.Goals as goal

pub returns : goal.returns
unfolding tally_cells
returns c = search rules
