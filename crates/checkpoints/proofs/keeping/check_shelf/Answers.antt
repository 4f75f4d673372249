-- `check_shelf`: each return is one case of `open_shelf_number`.
use Rattle.checkpoints.proofs.Numbers.{shelf_many, shelf_short, shelf_fine}
use mathlib.Core.Path.{sym}
use native.Mathlib.Omega.{arith}
use Rattle.checkpoints.proofs.keeping.check_shelf.Goals as goal

pub returns-then-from-gt-MOST_BANKS : goal.returns-then-from-gt-MOST_BANKS
returns-then-from-gt-MOST_BANKS c = sym (shelf_many c.args.banks c.args.shelf.now (omega arith))

pub returns-then-shelf-place_size : goal.returns-then-shelf-place_size
returns-then-shelf-place_size c = sym (shelf_short c.args.banks c.args.shelf.now (omega arith) (omega arith))

pub returns : goal.returns
returns c = sym (shelf_fine c.args.banks c.args.shelf.now (omega arith) (omega arith))
