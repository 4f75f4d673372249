-- `check_record` meets its contract: each return is one case of `Checked`.
use Rattle.journal.proofs.Recording.{later_number-law, checked_head, checked_memory, checked_fields}
use Rattle.journal_fields.proofs.Numbers.{size_inside, size_first_field}
use Rattle.rule.proofs.Refusals.{refused_some}
use Rattle.std.proofs.lemmas.Result.{err_from_is_err_and}
use mathlib.Core.Path.{sym, ◌∙◌}
use Rattle.recorded_edits.proofs.record.check_record.Goals as goal

pub returns-in_err-head_number : goal.returns-in_err-head_number
returns-in_err-head_number c =
    let p = err_from_is_err_and c.from_residual.result c.from_residual.ensures.1 in
    rw (p.1, p.2) (checked_head _ _ _ _ c.in_err-head_number.ensures (refused_some _))

pub returns-in_err-check_memory : goal.returns-in_err-check_memory
returns-in_err-check_memory c =
    let q = c.from_residual-in_err-check_memory in
    let p = err_from_is_err_and q.result q.ensures.1 in
    rw (p.1, p.2) (checked_memory _ _ _ (sym c.in_ok-head_number.ensures) _ c.in_err-check_memory.ensures.number (refused_some _))

pub slice_bounds-fields_number-count : goal.slice_bounds-fields_number-count
slice_bounds-fields_number-count c = size_first_field _ _ (sym c.in_ok-head_number.ensures)

pub slice_bounds-fields_number-start : goal.slice_bounds-fields_number-start
slice_bounds-fields_number-start c = size_first_field _ _ (sym c.in_ok-head_number.ensures)

pub slice_bounds-fields_number-end : goal.slice_bounds-fields_number-end
slice_bounds-fields_number-end c = size_inside _ _ (sym c.in_ok-head_number.ensures)

pub returns : goal.returns
returns c =
    let head = sym c.in_ok-head_number.ensures in
    let ok = c.in_ok-check_memory.ensures in
    checked_fields _ _ _ head (sym ok.number) ok.ready _ (c.fields_number.ensures ∙ later_number-law _ _ head)
