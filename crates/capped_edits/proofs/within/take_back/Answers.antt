-- `take_back`: the edit of the other kind.
use Rattle.capped_edits.proofs.within.take_back.Goals as goal

pub returns : goal.returns
returns c = λ G ready. rw c.opposite.ensures at (c.edit_alone.ensures G ready)
