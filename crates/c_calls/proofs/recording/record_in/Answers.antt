-- `record_in` meets its contract: the core's edit on the lent cells, and its journal.
use Rattle.c_calls.proofs.Done.{record_done-law}
use Rattle.c_calls.specs.Calls.{record_call}
use Rattle.c_cells.proofs.Rooms.{roomed_some}
use native.Mathlib.Omega.{arith}
use Rattle.c_calls.proofs.recording.record_in.Goals as goal

pub returns-then-short-ne0 : goal.returns-then-short-ne0
unfolding record_call
returns-then-short-ne0 c = roomed_some _ _ _ _ c.room-short.ensures.number _ _ c.if-short-ne0.true

pub put_answer-requires : goal.put_answer-requires
put_answer-requires c = omega (arith, c)

pub returns : goal.returns
returns c =
    record_done-law _ _ _ _ _ _ _ _ _ _ _ c.room-short.ensures.number c.if-short-ne0.false c.tally_in-t.ensures c.record_core-r.ensures
    c.put_answer.ensures.tally c.put_answer.ensures.res
