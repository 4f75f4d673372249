-- `put_part`: all of the place from `start` on is lent, and its first cells are put.
use Rattle.shelf.proofs.Putting.{copied_front}
use Rattle.shelf.proofs.cells.put_part.Goals as goal

pub returns : goal.returns
returns c = copied_front c.args.place.now c.args.start c.args.size _ _ _ c.requires.1 c.put_cells.ensures
