-- `set_cap_in` meets its contract.
use Rattle.c_calls.proofs.Done.{cap_done-law}
use Rattle.c_calls.specs.Calls.{cap_call}
use Rattle.c_cells.proofs.Fronts.{tally_again}
use Rattle.c_cells.proofs.Rooms.{roomed_some, long_tally}
use mathlib.Core.Path.{sym}
use Rattle.c_calls.proofs.editing.set_cap_in.Goals as goal

pub returns-then-short-ne0 : goal.returns-then-short-ne0
unfolding cap_call
returns-then-short-ne0 c = roomed_some _ _ _ _ c.room-short.ensures.number _ _ c.if-short-ne0.true

pub returns-in-Ok : goal.returns-in-Ok
returns-in-Ok c = cap_done-law _ _ _ c.room-short.ensures.number _ _ _ _ c.if-short-ne0.false c.tally_in.ensures c.in-Ok.ensures c.put_tally.ensures

pub returns-in-Err : goal.returns-in-Err
returns-in-Err c =
    let is = c.room-short.ensures.number in
    let none = c.if-short-ne0.false in
    rw c.from.ensures
    (cap_done-law _ _ _ is _ _ _ _ none c.tally_in.ensures c.in-Err.ensures (rw c.tally_in.ensures (sym (tally_again _ (long_tally _ _ _ _ is none)))))
