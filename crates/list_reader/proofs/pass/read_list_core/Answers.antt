-- `read_list_core` meets its contract: questions 1 and 2, and the rest.
use Rattle.list_pass.proofs.Beginning.{too_long, found, first_other, first_banks}
use mathlib.Core.Path.{sym, ◌∙◌}
use native.Mathlib.Omega.{arith}
use Rattle.list_reader.proofs.pass.read_list_core.Goals as goal

pub returns-then-list-gt-MOST_BYTES : goal.returns-then-list-gt-MOST_BYTES
returns-then-list-gt-MOST_BYTES c = rw c.from.ensures (too_long _ _ c.if-list-gt-MOST_BYTES.true)

pub find-end-requires : goal.find-end-requires
find-end-requires c = c.first_row-first.ensures.inside

pub slice_bounds-read_row_in-count : goal.slice_bounds-read_row_in-count
slice_bounds-read_row_in-count c = omega (arith, c.find-end.ensures.low)

pub slice_bounds-read_row_in-start : goal.slice_bounds-read_row_in-start
slice_bounds-read_row_in-start c = omega (arith, c.find-end.ensures.low)

pub slice_bounds-read_row_in-end : goal.slice_bounds-read_row_in-end
slice_bounds-read_row_in-end c = omega (arith, c.find-end.ensures.high)

pub returns-in_default : goal.returns-in_default
returns-in_default c =
    rw c.from-in_default.ensures (first_other _ _ _ _ _ _ c.find-end.ensures _ c.read_row_in.ensures c.in_default.not-Banks
    ∙ sym (found _ _ _ c.first_row-first.ensures c.if-list-gt-MOST_BYTES.false))

pub overflow_add-next : goal.overflow_add-next
overflow_add-next c = omega (arith, c.find-end.ensures.high)

pub begin-requires : goal.begin-requires
begin-requires c =
    let e = c.find-end.ensures in
    record { few = c.if-list-gt-MOST_BYTES.false; later = omega (arith, e.low, c.first_row-first.ensures.later); inside = omega (arith, e.high) }

pub returns : goal.returns
returns c =
    c.begin.ensures.is
    ∙ first_banks _ _ _ _ _ _ c.find-end.ensures _ (sym c.in-Banks.is ∙ c.read_row_in.ensures)
    ∙ sym (found _ _ _ c.first_row-first.ensures c.if-list-gt-MOST_BYTES.false)
