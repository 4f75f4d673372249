-- The shelf after a keeping: its places, its length, and question 5.
use mathlib.Core.Bool.{Bool, true, ◌&&◌, ◌||◌}
use mathlib.Core.List.{List}
use mathlib.Core.Logic.{◌⊎◌, inl, inr}
use mathlib.Core.Path.{◌≡◌, refl, sym, ap, ◌∙◌, subst}
use Prim.Native.Nat.{ℕ, zero, suc, ◌+◌, ◌*◌, ◌≤◌, ◌<◌}
use native.Mathlib.Omega.{arith}
use lib.Dec.{T, eqb, eqb→eq}
use lib.ListN.{length, get_or}
use Rattle.rule.specs.Graph.{Graph}
use Rattle.rule.proofs.Booleans.{is_true, both_true, t_along}
use Rattle.memory.specs.declared.Tally.{Tally}
use Rattle.memory.specs.Plan.{Slices, long_enough, cap_fits, holds, PlanOf}
use Rattle.memory.specs.inner.View.{Long}
use Rattle.memory.proofs.Views.{tally_banks}
use Rattle.memory.proofs.Theorems.{long, holds_cap, plan_holds}
use Rattle.text.specs.Places.{put}
use Rattle.shelf.specs.Shelf.{place_size, place, used, slices_in, tally_in, holds_in, place_right, shelf_right, place_cells}
use Rattle.shelf.proofs.Putting.{length_put, put_here, put_before, put_after}
use Rattle.shelf.proofs.Places.{place_room, right_used, holds_here}
use Rattle.checkpoints.proofs.Kept.{kept_cell, kept_slices, kept_tally, fronts_exactly, exactly_plan}

-- a place ends where a later one starts, or before
place_order : (i j k : ℕ) → i < j → j < 3 → i * k + k ≤ j * k
place_order i zero k h l = absurd (omega arith)
place_order zero (suc zero) k h l = omega arith
place_order (suc i) (suc zero) k h l = absurd (omega arith)
place_order zero (suc (suc zero)) k h l = omega arith
place_order (suc zero) (suc (suc zero)) k h l = omega arith
place_order (suc (suc i)) (suc (suc zero)) k h l = absurd (omega arith)
place_order i (suc (suc (suc j))) k h l = absurd (omega arith)

-- two places
apart : (i j : ℕ) → (i ≡ j → ⊥) → (i < j) ⊎ (j < i)
apart zero zero d = absurd (d refl)
apart zero (suc j) d = inl (omega arith)
apart (suc i) zero d = inr (omega arith)
apart (suc i) (suc j) d = elim (apart i j (λ e. d (ap suc e))) [ inl h ↦ inl (omega arith) | inr h ↦ inr (omega arith) ]

-- cells put into place i of a shelf of n banks
module _ (n i : ℕ) (near : i < 3) (cells shelf : List ℕ) (size : length cells ≡ place_size n) (room : 3 * place_size n ≤ length shelf) where
  abbrev at : ℕ
  at = i * place_size n

  fits : at + length cells ≤ length shelf
  fits = omega (arith, place_room i (place_size n) near, size)

  pub length_after : length (put cells at shelf) ≡ length shelf
  length_after = length_put cells at shelf fits

  pub place_here : place n i (put cells at shelf) ≡ cells
  unfolding place
  place_here = rw size at (put_here cells at shelf fits)

  pub place_other : (j : ℕ) → j < 3 → (j ≡ i → ⊥) → place n j (put cells at shelf) ≡ place n j shelf
  unfolding place
  place_other j h d =
      elim (apart j i d) [
        | inl l ↦ put_before cells at shelf fits (j * place_size n) (place_size n) (place_order j i (place_size n) l near)
        | inr l ↦ put_after cells at shelf fits (j * place_size n) (place_size n) (omega (arith, size, place_order i j (place_size n) l h))
      ]

-- the place of a plan that is kept under a cap that fits it passes the test
module _ (G : Graph) (s : Slices) (t : Tally) (p : PlanOf G s t) (fits : T (cap_fits t)) where
  abbrev long_s : Long t.banks s
  long_s = long t.banks s (subst (λ (k : ℕ). long_enough k s ≡ true) (sym (tally_banks t G p.tally)) p.long)

  pub kept_right : place_right t.banks (place_cells s t) ≡ true
  kept_right =
      let cells = place_cells s t in
      let holds-it : true ≡ holds (slices_in t.banks cells) t =
      sym (is_true (holds (slices_in t.banks cells) t)
      (rw (kept_slices s t long_s ∙ fronts_exactly G s t p) (plan_holds _ t G (exactly_plan G s t p) fits))) in
      let here = holds_here t.banks cells true t (sym (kept_tally s t long_s)) refl holds-it in
      sym (right_used t.banks cells true (kept_cell s t long_s) here)

-- question 5 of the shelf, place by place
module _ (n : ℕ) (shelf : List ℕ) where
  abbrev right : ℕ → Bool
  right i = place_right n (place n i shelf)

  pub all_right : ((i : ℕ) → i < 3 → place_right n (place n i shelf) ≡ true) → shelf_right n shelf ≡ true
  unfolding shelf_right
  all_right h = rw (h 0 (omega arith), h 1 (omega arith), h 2 (omega arith)) refl

  pub each_right : shelf_right n shelf ≡ true → (i : ℕ) → i < 3 → place_right n (place n i shelf) ≡ true
  unfolding shelf_right
  each_right e zero h = (both_true (right 0) (right 1 && right 2) e).0
  each_right e (suc zero) h = (both_true (right 1) (right 2) (both_true (right 0) (right 1 && right 2) e).1).0
  each_right e (suc (suc zero)) h = (both_true (right 1) (right 2) (both_true (right 0) (right 1 && right 2) e).1).1
  each_right e (suc (suc (suc i))) h = absurd (omega arith)

  -- a used place then holds a plan, under a cap that fits it
  module _ (e : shelf_right n shelf ≡ true) (i : ℕ) (near : i < 3) (u : used (place n i shelf) ≡ true) where
    abbrev cells : List ℕ
    cells = place n i shelf

    pub used_holds : holds_in n (place n i shelf) ≡ true
    unfolding place_right used
    used_holds = go (get_or cells 0 0) u (each_right e i near)
      where
        go : (c : ℕ) → eqb c 1 ≡ true → (eqb c 0 || (eqb c 1 && holds_in n cells)) ≡ true → holds_in n cells ≡ true
        go c v r = let h : c ≡ 1 = eqb→eq c 1 (t_along (sym v) tt) in rw h at r

    pub used_plan : T (holds (slices_in n (place n i shelf)) (tally_in n (place n i shelf)))
    unfolding holds_in
    used_plan = t_along (sym (both_true (eqb (tally_in n cells).banks n) (holds (slices_in n cells) (tally_in n cells)) used_holds).1) tt

    pub used_cap : T (cap_fits (tally_in n (place n i shelf)))
    used_cap = holds_cap (slices_in n cells) (tally_in n cells) used_plan
