-- `check_sheet_in` meets its contract.
use Rattle.c_reads.proofs.Done.{sheet_short, sheet_done}
use Rattle.c_reads.proofs.sheets.check_sheet_in.Goals as goal

pub returns-then-short-ne0 : goal.returns-then-short-ne0
returns-then-short-ne0 c = sheet_short _ _ _ _ _ c.room-short.ensures.number c.if-short-ne0.true

pub returns-in-Ok : goal.returns-in-Ok
returns-in-Ok c = sheet_done _ _ _ _ _ c.room-short.ensures.number _ c.tally_in.ensures c.if-short-ne0.false c.in-Ok.ensures.answered c.put_front.ensures

pub returns-in-Err-Asked : goal.returns-in-Err-Asked
returns-in-Err-Asked c =
    let check = rw c.in-Err-Asked.field-0-is at c.in-Err-Asked.ensures in
    rw c.from.ensures (sheet_done _ _ _ _ _ c.room-short.ensures.number _ c.tally_in.ensures c.if-short-ne0.false check.answered c.put_front-in-Err-Asked.ensures)

pub returns-in-Err-NoSheet : goal.returns-in-Err-NoSheet
returns-in-Err-NoSheet c =
    let check = rw c.in-Err-NoSheet.field-0-is at c.in-Err-NoSheet.ensures in
    rw c.from-in-Err-NoSheet.ensures
    (sheet_done _ _ _ _ _ c.room-short.ensures.number _ c.tally_in.ensures c.if-short-ne0.false check.answered c.put_front-in-Err-NoSheet.ensures)

pub returns-in-Err-Clash : goal.returns-in-Err-Clash
returns-in-Err-Clash c =
    let check = rw c.in-Err-Clash.field-0-is at c.in-Err-Clash.ensures in
    rw c.from-in-Err-Clash.ensures
    (sheet_done _ _ _ _ _ c.room-short.ensures.number _ c.tally_in.ensures c.if-short-ne0.false check.answered c.put_front-in-Err-Clash.ensures)

pub returns-in-Err-ManyWaves : goal.returns-in-Err-ManyWaves
returns-in-Err-ManyWaves c =
    let check = rw c.in-Err-ManyWaves.field-0-is at c.in-Err-ManyWaves.ensures in
    rw c.from-in-Err-ManyWaves.ensures
    (sheet_done _ _ _ _ _ c.room-short.ensures.number _ c.tally_in.ensures c.if-short-ne0.false check.answered c.put_front-in-Err-ManyWaves.ensures)
