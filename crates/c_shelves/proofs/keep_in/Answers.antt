-- `keep_in` meets its contract.
use Rattle.c_cells.proofs.Rooms.{roomed_some}
use Rattle.c_shelves.proofs.Done.{keep_done}
use Rattle.c_shelves.specs.Shelves.{keep_call}
use Rattle.c_shelves.proofs.keep_in.Goals as goal

pub returns-then-short-ne0 : goal.returns-then-short-ne0
unfolding keep_call
returns-then-short-ne0 c = roomed_some _ _ _ _ c.room-short.ensures.number _ _ c.if-short-ne0.true

pub returns-in-Ok : goal.returns-in-Ok
returns-in-Ok c = keep_done _ _ _ _ _ _ c.tally_in.ensures c.if-short-ne0.false _ c.room-short.ensures.number c.in-Ok.ensures

pub returns-in-Err : goal.returns-in-Err
returns-in-Err c = rw c.from.ensures (keep_done _ _ _ _ _ _ c.tally_in.ensures c.if-short-ne0.false _ c.room-short.ensures.number c.in-Err.ensures)
