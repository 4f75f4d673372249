-- `come_back_in` meets its contract: the core's return, its tally and its count put into their cells.
use Rattle.c_cells.proofs.Fronts.{tally_again}
use Rattle.c_cells.proofs.Rooms.{roomed_some, long_tally}
use mathlib.Core.Path.{sym}
use Rattle.c_shelves.proofs.Done.{back_done-law}
use Rattle.c_shelves.specs.Shelves.{come_back_call}
use native.Mathlib.Omega.{arith}
use Rattle.c_shelves.proofs.come_back_in.Goals as goal

pub returns-then-short-ne0 : goal.returns-then-short-ne0
unfolding come_back_call
returns-then-short-ne0 c = roomed_some _ _ _ _ c.room-short.ensures.number _ _ c.if-short-ne0.true

pub put_answer-requires : goal.put_answer-requires
put_answer-requires c = omega (arith, c)

pub put_front-requires : goal.put_front-requires
put_front-requires c = omega (arith, c)

pub returns-in-Ok : goal.returns-in-Ok
returns-in-Ok c =
    back_done-law _ _ _ _ _ _ c.tally_in-t.ensures c.if-short-ne0.false _ _ _ _ _ c.room-short.ensures.number c.in-Ok.ensures
    c.put_answer.ensures.tally c.put_answer.ensures.res

pub returns-in-Err : goal.returns-in-Err
returns-in-Err c =
    let is = c.room-short.ensures.number in
    let none = c.if-short-ne0.false in
    rw c.from.ensures
    (back_done-law _ _ _ _ _ _ c.tally_in-t.ensures none _ _ _ _ _ is c.in-Err.ensures
    (rw c.tally_in-t.ensures (sym (tally_again _ (long_tally _ _ _ _ is none)))) c.put_front.ensures)
