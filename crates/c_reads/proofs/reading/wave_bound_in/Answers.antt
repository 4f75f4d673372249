-- `wave_bound_in` meets its contract.
use Rattle.c_cells.proofs.Rooms.{roomed_some}
use Rattle.c_reads.proofs.Done.{bound_done-law}
use Rattle.c_reads.specs.Reads.{bound_call}
use Rattle.c_reads.proofs.reading.wave_bound_in.Goals as goal

pub returns-then-short-ne0 : goal.returns-then-short-ne0
unfolding bound_call
returns-then-short-ne0 c = roomed_some _ _ _ _ c.room-short.ensures.number _ _ c.if-short-ne0.true

pub returns : goal.returns
returns c =
    let answer = c.wave_bound.ensures in
    rw c.put_result.ensures.number
    (bound_done-law _ _ _ _ c.tally_in.ensures c.if-short-ne0.false _ _ _ _ c.room-short.ensures.number answer.number answer.bound c.put_result.ensures.res)
