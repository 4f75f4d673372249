-- `tally_in`: its three cells before the ranks, and its cap after them.
use Rattle.shelf.proofs.Places.{tally_from}
use native.Mathlib.Omega.{arith}
use Rattle.shelf.proofs.shelf.tally_in.Goals as goal

pub returns : goal.returns
returns c = tally_from c.args.n _ _ c.args.place.now (omega arith) (omega arith)
