-- The cells, and what is behind them.
use Rattle.memory.specs.Cells.{over}
use lib.ListN.{length, drop}
use mathlib.Core.List.{◌++◌}
use mathlib.Core.Path.{ap}
use Rattle.memory.proofs.put.put_front.Goals as goal

pub returns : goal.returns
unfolding over
returns c = ap (λ front. front ++ drop (length c.args.cells.now) c.args.slice.now) c.copy_from_slice.ensures.after
