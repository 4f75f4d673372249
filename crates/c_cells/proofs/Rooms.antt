-- Short slices: 2, or else what the call leaves.
use mathlib.Core.Path.{◌≡◌, refl, sym, ◌∙◌}
use Prim.Native.Nat.{ℕ, zero, suc, ◌≤◌}
use borrow.Author.Tests.{le-leb, leb-true}
use Rattle.planner.specs.Questions.{first_no}
use Rattle.planner.proofs.Numbers as Numbers
use Rattle.c_cells.specs.CellMemory.{tally_size, short_number, roomed}

module _ (needed tally result : ℕ) where
  pub none_short : tally_size ≤ tally → needed ≤ result → 0 ≡ short_number needed tally result
  unfolding short_number first_no
  none_short h k = rw (le-leb tally_size tally h, le-leb needed result k)

  -- of what `room` answered
  module _ (number : ℕ) (is : number ≡ short_number needed tally result) where
    pub long_tally : number ≡ 0 → tally_size ≤ tally
    unfolding short_number
    long_tally none = leb-true tally_size tally (Numbers.none _ 1 _ (sym is ∙ none)).0

    pub long_result : number ≡ 0 → needed ≤ result
    unfolding short_number
    long_result none = leb-true needed result (Numbers.none _ 1 _ (Numbers.none _ 1 _ (sym is ∙ none)).1).0

    pub roomed_none : {A : Type 0} (refusal : ℕ → A) (done : A) → number ≡ 0 → done ≡ roomed (short_number needed tally result) refusal done
    unfolding roomed
    roomed_none refusal done none = rw (← is, none)

    pub roomed_some : {A : Type 0} (refusal : ℕ → A) (done : A) → (number ≡ 0 → ⊥)
        → refusal number ≡ roomed (short_number needed tally result) refusal done
    roomed_some refusal done some = rw (← is) (refused number some)
      where
        refused : (c : ℕ) → (c ≡ 0 → ⊥) → refusal c ≡ roomed c refusal done
        refused zero h = absurd (h refl)
        refused (suc c) h = unfold roomed in refl
