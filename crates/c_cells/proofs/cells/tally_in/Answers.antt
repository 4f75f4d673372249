-- `tally_in` meets its contract: the cells that it reads are those of `tally_in`.
use Rattle.c_cells.specs.CellMemory.{tally_in}
use mathlib.Core.Path.{refl}
use Rattle.c_cells.proofs.cells.tally_in.Goals as goal

pub returns : goal.returns
unfolding tally_in
returns c = refl
