-- `crew_steps_in` meets its contract.
use Rattle.c_cells.proofs.Rooms.{roomed_some}
use Rattle.c_reads.proofs.CrewsDone.{crew_done-law}
use Rattle.c_reads.specs.Crews.{crew_call}
use Rattle.c_reads.proofs.crew.crew_steps_in.Goals as goal

pub returns-then-short-ne0 : goal.returns-then-short-ne0
unfolding crew_call
returns-then-short-ne0 c = roomed_some _ _ _ _ c.room-short.ensures.number _ _ c.if-short-ne0.true

pub returns : goal.returns
returns c =
    rw c.put_result.ensures.number
    (crew_done-law _ _ _ _ _ c.tally_in.ensures c.if-short-ne0.false c.room-short.ensures.number _ _ _ _ _ c.crew_steps.ensures c.put_result.ensures.res)
