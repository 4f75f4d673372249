-- `edit_in` meets its contract: the core's edit on the lent cells.
use Rattle.c_calls.specs.Calls.{edit_call}
use Rattle.c_cells.proofs.Calls.{refused, called}
use Rattle.c_cells.specs.CellMemory.{edit_outcome}
use mathlib.Core.Path.{ap}
use native.Mathlib.Omega.{arith}
use Rattle.c_calls.proofs.editing.edit_in.Goals as goal

pub returns-then-short-ne0 : goal.returns-then-short-ne0
unfolding edit_call
returns-then-short-ne0 c = refused _ 2 _ _ c.room-short.ensures.number c.if-short-ne0.true

pub put_answer-requires : goal.put_answer-requires
put_answer-requires c = omega (arith, c)

pub returns : goal.returns
unfolding edit_call
returns c =
    called _ 2 _ _ c.room-short.ensures.number _ _ _ _ c.if-short-ne0.false c.tally_in-t.ensures (ap edit_outcome c.edit_core-r.ensures)
    c.put_answer.ensures.tally c.put_answer.ensures.res
