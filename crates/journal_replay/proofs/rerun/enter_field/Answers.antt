-- `enter_field` meets its contract: the field is no entry, or its entry is entered.
use Prim.Native.Nat.{ℕ, ◌+◌, ◌-◌}
use Rattle.journal_replay.proofs.Passing.{enters_none, enters_one, read_fits}
use mathlib.Core.Path.{◌≡◌, refl, sym, ap, ◌∙◌}
use native.Mathlib.Omega.{arith}
use Rattle.journal_replay.proofs.rerun.enter_field.Goals as goal

-- where the next field starts, and the entry's number
next_of : (start size w : ℕ) → size ≡ w → start + size ≡ start + w
next_of start size w e = ap (◌+◌ start) e

number_of : (n i : ℕ) → n ≡ i → n - 1 ≡ i - 1
number_of n i e = ap (λ (k : ℕ). k - 1) e

pub overflow_add-next : goal.overflow_add-next
overflow_add-next c = omega (arith, c.entry_bytes.ensures, c.requires.asks_field.inside)

pub overflow_sub-number : goal.overflow_sub-number
overflow_sub-number c = omega (arith, c.from-number.ensures, c.requires.asks_field.later)

pub slice_bounds-read_field-count : goal.slice_bounds-read_field-count
slice_bounds-read_field-count c = omega (arith, c.requires.asks_field.inside)

pub slice_bounds-read_field-start : goal.slice_bounds-read_field-start
slice_bounds-read_field-start c = omega (arith, c.requires.asks_field.inside)

pub returns-in-Err : goal.returns-in-Err
returns-in-Err c =
    record {
      enters_field = enters_none _ _ _ _ _ (number_of _ _ c.from-number.ensures) _ c.in-Err.ensures _ _ _ refl (next_of _ _ _ c.entry_bytes.ensures) _ refl (c.from.ensures ∙ c.refusal.ensures);
      idle_after = c.requires.idle;
      unranked_after = c.requires.unranked;
    }

pub enter_held-done-requires : goal.enter_held-done-requires
enter_held-done-requires c =
    record {
      enterable = record { held = c.requires.asks_field.held; fits = read_fits _ _ c.args.journal.now c.args.start _ c.in-Ok.ensures _ refl };
      idle = c.requires.idle;
      unranked = c.requires.unranked;
    }

pub returns : goal.returns
returns c =
    record {
      enters_field = enters_one _ _ _ _ _ (number_of _ _ c.from-number.ensures) _ c.in-Ok.ensures _ _ _ refl (next_of _ _ _ c.entry_bytes.ensures) _ refl
          _ _ c.enter_held-done.ensures.enters refl c.begun_by.ensures;
      idle_after = c.enter_held-done.ensures.idle_2;
      unranked_after = λ f. c.enter_held-done.ensures.unranked_2 (sym c.begun_by.ensures ∙ f);
    }
