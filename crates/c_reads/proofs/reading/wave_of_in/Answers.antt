-- `wave_of_in` meets its contract.
use borrow.Author.Rules.{rules}
use Rattle.planner.proofs.Rows.{wave_ok, wave_refused}
use Rattle.c_cells.proofs.Results.{value_is, result_of}
use Rattle.c_cells.proofs.Rooms.{roomed_some}
use Rattle.c_reads.proofs.Done.{wave_done-law}
use Rattle.c_reads.specs.Reads.{wave_call}
use Rattle.c_reads.proofs.reading.wave_of_in.Goals as goal

pub returns-then-short-ne0 : goal.returns-then-short-ne0
unfolding wave_call
returns-then-short-ne0 c = roomed_some _ _ _ _ c.room-short.ensures.number _ _ c.if-short-ne0.true

pub returns : goal.returns
returns c =
    let answer = c.wave_of.ensures in
    let made = result_of _ _ _ _ _ (wave_ok _ _ answer.wave) (wave_refused _ _ _ _ answer.number) c.map.ensures.cases (λ x q. value_is _ _ _ q (λ y p. search rules)) in
    rw (c.put_result.ensures.number, made.0)
    (wave_done-law _ _ _ _ _ _ c.tally_in.ensures c.if-short-ne0.false _ _ _ c.room-short.ensures.number answer.number made.1 c.put_result.ensures.res)
