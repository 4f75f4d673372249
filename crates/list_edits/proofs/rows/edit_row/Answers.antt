-- `edit_row` meets its contract: the row that it finds is read, and its edit is made.
use Rattle.list_pass.proofs.Fits.{edit_fits}
use Rattle.list_pass.proofs.Passing.{edits_none, edits_one}
use mathlib.Core.Path.{refl, sym, ◌∙◌}
use native.Mathlib.Omega.{arith}
use Rattle.list_edits.proofs.rows.edit_row.Goals as goal

pub find-end-requires : goal.find-end-requires
find-end-requires c = omega (arith, c.requires.asks_row.inside)

pub overflow_add-next : goal.overflow_add-next
overflow_add-next c = omega (arith, c.find-end.ensures.high)

pub slice_bounds-read_row_in-count : goal.slice_bounds-read_row_in-count
slice_bounds-read_row_in-count c = omega (arith, c.find-end.ensures.low)

pub returns-in_default : goal.returns-in_default
returns-in_default c = record {
  edits_row = edits_none _ _ _ _ c.find-end.ensures _ _ _ _ refl refl _ c.read_row_in-read.ensures c.in_default.not-Edit (c.from.ensures ∙ c.not_taken.ensures);
  idle_after = c.requires.idle;
  unranked_after = c.requires.unranked;
}

pub apply-done-requires : goal.apply-done-requires
apply-done-requires c = record {
  asks = record { held = c.requires.asks_row.held; fits = edit_fits _ _ _ (sym c.in-Edit.is ∙ c.read_row_in-read.ensures) };
  idle = c.requires.idle;
  unranked = c.requires.unranked;
}

pub returns : goal.returns
returns c =
    record {
      edits_row = edits_one _ _ _ _ c.find-end.ensures _ _ _ _ refl refl _ (sym c.in-Edit.is ∙ c.read_row_in-read.ensures) _ _ c.apply-done.ensures.applies refl c.begun_after.ensures;
      idle_after = c.apply-done.ensures.idle_after;
      unranked_after = λ f. c.apply-done.ensures.unranked_after (sym c.begun_after.ensures ∙ f);
    }
