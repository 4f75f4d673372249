-- `clashes_of_in` meets its contract.
use Rattle.rule.proofs.Refusals.{refused_some}
use Rattle.planner.proofs.Rows.{clashes_refused}
use Rattle.c_cells.proofs.Rooms.{roomed_some}
use Rattle.c_reads.proofs.Answers.{bank_small, few_clashes, row_end}
use Rattle.c_reads.proofs.Done.{clashes_done-law}
use Rattle.c_reads.specs.Reads.{row_start, clashes_call}
use Prim.Native.Nat.{ℕ, ◌*◌}
use mathlib.Core.Path.{sym, ap}
use native.Mathlib.Omega.{arith}
use Rattle.c_reads.proofs.reading.clashes_of_in.Goals as goal

pub returns-then-short-ne0 : goal.returns-then-short-ne0
unfolding clashes_call
returns-then-short-ne0 c = roomed_some _ _ _ _ c.room-short.ensures.number _ _ c.if-short-ne0.true

pub overflow_cast-from : goal.overflow_cast-from
overflow_cast-from c = omega (arith, c.from.ensures, bank_small _ _ _ (sym c.in-Ok.ensures.number))

pub overflow_cast-part : goal.overflow_cast-part
overflow_cast-part c = omega (arith, few_clashes _ _ _ _ c.clashes_of-part.ensures)

pub returns-in-Ok : goal.returns-in-Ok
unfolding row_start
returns-in-Ok c =
    let starts = ap (λ (k : ℕ). 23 * k) c.from.ensures in
    clashes_done-law _ _ _ _ _ _ c.tally_in.ensures c.if-short-ne0.false _ _ _ _ c.room-short.ensures.number c.in-Ok.ensures.number starts c.clashes_of-part.ensures c.put_front.ensures

pub returns-in-Err : goal.returns-in-Err
returns-in-Err c =
    let number = c.in-Err.ensures.number in
    rw c.from-in-Err.ensures
    (clashes_done-law _ _ _ _ _ _ c.tally_in.ensures c.if-short-ne0.false _ _ _ _ c.room-short.ensures.number number (row_end _ _)
    (clashes_refused _ _ _ _ number (refused_some _)) c.put_front-in-Err.ensures)
