-- `put_cells`: the part from `at` on becomes those cells.
use Rattle.shelf.proofs.Putting.{part_put}
use mathlib.Core.Path.{refl}
use native.Mathlib.Omega.{arith}
use Rattle.shelf.proofs.cells.put_cells.Goals as goal

pub returns : goal.returns
returns c = record { next = refl; left = part_put c.args.cells.now c.args.size c.args.at _ _ _ c.requires.0 (omega arith) c.copy_from_slice.ensures.after }
