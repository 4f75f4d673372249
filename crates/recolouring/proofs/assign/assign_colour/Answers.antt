-- `assign_colour`: b has the lowest wave already, or gets it.
use Rattle.recolouring.proofs.Collecting.{assigns}
use Rattle.recolouring.proofs.assign.assign_colour.Goals as goal

pub returns : goal.returns
returns c = rw c.from-at.ensures (assigns _ _ _ c.lowest_free-new.ensures)
