-- `waves_after`: by the highest wave that was kept, or counted.
use Rattle.recolouring.proofs.Tops.{top_is}
use Rattle.edits.proofs.edit.waves_after.Goals as goal

pub returns-else-top : goal.returns-else-top
returns-else-top c = top_is _ c.requires.top c.if-top.false
