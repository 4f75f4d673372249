-- The steps of a day: the banks of a step by their cells, and that there are no more steps than banks.
use mathlib.Core.Bool.{Bool, true, false, ◌&&◌}
use mathlib.Core.List.{List, [], ◌∷◌, ◌++◌, map}
use mathlib.Core.Logic.{inl, inr}
use mathlib.Core.Path.{◌≡◌, refl, sym, ap, ◌∙◌}
use native.Mathlib.Decide.{ℕ_discrete}
use native.Mathlib.Omega.{arith}
use Prim.Native.Nat.{ℕ, zero, suc, ◌+◌, ◌≤◌}
use lib.Dec.{T, ltb, eqb}
use lib.ListN.{length, get_or, take, drop, length-append, take-append-drop}
use borrow.Author.Tests.{lt-ltb, le-ltb, ne_eqb}
use Rattle.rule.specs.Lists.{upto, filter, memb}
use Rattle.rule.specs.Graph.{Graph}
use Rattle.rule.specs.Wave.{wave_count, banks_of}
use Rattle.rule.proofs.Booleans.{lt_or_ge}
use Rattle.rule.proofs.Lists.{length_upto}
use Rattle.rule.proofs.Order.{ltb_strict}
use Rattle.rule.proofs.Sorting.{sorted_filter, sorted_upto, memb_filter, memb_upto}
use Rattle.rule.proofs.Theorems.{sorted_unique}
use Rattle.text.specs.Text.{joined}
use Rattle.text.proofs.Joined.{joined_append, texts_next}
use Rattle.wave_lines.proofs.Shown.{total, total_append, shown_total}
use Rattle.crews.specs.Day.{steps_in, steps_of, day_to, day, step_of}
use Rattle.crews.proofs.Theorems.{one_step, step_ascends, step_banks}

eqb_sym : (a b : ℕ) → eqb a b ≡ eqb b a
eqb_sym a b = elim (ℕ_discrete a b) [ yes e ↦ rw e | no d ↦ rw (ne_eqb a b d, ne_eqb b a (λ e. d (sym e))) ]

-- the banks whose step it is, ascending, are those that it serves
module _ (q : ℕ) (some : 1 ≤ q) (G : Graph) (i : ℕ) where
  abbrev test : ℕ → Bool
  test b = eqb (step_of b (day q G)) (suc i)

  on_step : (x : ℕ) → (ltb x G.banks && test x) ≡ memb x (get_or (day q G) i [])
  on_step x =
      elim (lt_or_ge x G.banks) [
        | inl l ↦ rw (lt-ltb x G.banks l) (eqb_sym (step_of x (day q G)) (suc i) ∙ sym (one_step G q some x l i))
        | inr g ↦ rw (le-ltb x G.banks g) (other (memb x (get_or (day q G) i [])) (λ m. omega (arith, step_banks G q some x i m)))
      ]
    where
      other : (t : Bool) → (T t → ⊥) → false ≡ t
      other true f = absurd (f tt)
      other false f = refl

  pub served_are : filter test (upto G.banks) ≡ get_or (day q G) i []
  served_are =
      let n = G.banks in
      sorted_unique ltb ltb_strict (filter test (upto n)) (get_or (day q G) i []) (sorted_filter ltb test (upto n) (sorted_upto n)) (step_ascends G q some i)
      (λ x. memb_filter test (upto n) x ∙ ap (λ (t : Bool). t && test x) (memb_upto n x) ∙ on_step x)

-- a wave has no more steps than banks
steps_few : (most q : ℕ) (bs : List ℕ) → length (steps_in most q bs) ≤ most
unfolding steps_in
steps_few zero q bs = omega arith
steps_few (suc most) q [] = omega arith
steps_few (suc most) q (b ∷ bs) = omega (arith, steps_few most q (drop q (b ∷ bs)))

-- what the steps of a wave add up to is no more than what its banks do
module _ (m : ℕ → ℕ) where
  steps_total : (most q : ℕ) (bs : List ℕ) → total m (joined (steps_in most q bs)) ≤ total m bs
  unfolding steps_in joined total
  steps_total zero q bs = omega arith
  steps_total (suc most) q [] = omega arith
  steps_total (suc most) q (b ∷ bs) =
      let all = b ∷ bs in
      let whole : total m (take q all) + total m (drop q all) ≡ total m all =
      sym (total_append m (take q all) (drop q all)) ∙ ap (total m) (take-append-drop q all) in
      omega (arith, total_append m (take q all) (joined (steps_in most q (drop q all))), steps_total most q (drop q all))

length_total : (xs : List ℕ) → length xs ≡ total (λ x. 1) xs
unfolding total
length_total [] = refl
length_total (x ∷ xs) = omega (arith, length_total xs)

module _ (q : ℕ) (G : Graph) where
  abbrev n : ℕ
  n = G.banks

  next_joined : (k : ℕ) → joined (day_to q G (suc k)) ≡ joined (day_to q G k) ++ joined (steps_of q (banks_of G k))
  unfolding day_to
  next_joined k = joined_append (day_to q G k) (steps_of q (banks_of G k))

  next_length : (k : ℕ) → length (day_to q G (suc k)) ≡ length (day_to q G k) + length (steps_of q (banks_of G k))
  unfolding day_to
  next_length k = length-append (day_to q G k) (steps_of q (banks_of G k))

  next_total : (m : ℕ → ℕ) (k : ℕ)
      → total m (joined (map (banks_of G) (upto (suc k)))) ≡ total m (joined (map (banks_of G) (upto k))) + total m (banks_of G k)
  next_total m k = ap (total m) (texts_next (banks_of G) k) ∙ total_append m (joined (map (banks_of G) (upto k))) (banks_of G k)

  total_to : (m : ℕ → ℕ) (k : ℕ) → total m (joined (day_to q G k)) ≤ total m (joined (map (banks_of G) (upto k)))
  unfolding steps_of
  total_to m zero = unfold day_to joined upto total in omega arith
  total_to m (suc k) =
      let banks = banks_of G k in
      let steps = steps_in (length banks) q banks in
      omega (
        arith,
        ap (total m) (next_joined k),
        total_append m (joined (day_to q G k)) (joined steps),
        next_total m k,
        total_to m k,
        steps_total m (length banks) q banks,
      )

  length_to : (k : ℕ) → length (day_to q G k) ≤ total (λ x. 1) (joined (map (banks_of G) (upto k)))
  unfolding steps_of
  length_to zero = unfold day_to in omega arith
  length_to (suc k) =
      let banks = banks_of G k in
      omega (arith, next_length k, next_total (λ x. 1) k, length_to k, steps_few (length banks) q banks, length_total banks)

  -- all waves have all banks
  all_waves : (m : ℕ → ℕ) → total m (joined (map (banks_of G) (upto (wave_count G)))) ≡ total m (upto n)
  all_waves m = shown_total G m

  pub day_total : (m : ℕ → ℕ) → total m (joined (day q G)) ≤ total m (upto n)
  unfolding day
  day_total m = omega (arith, total_to m (wave_count G), all_waves m)

  pub day_short : length (day q G) ≤ n
  unfolding day
  day_short = omega (arith, length_to (wave_count G), all_waves (λ x. 1), length_total (upto n), length_upto n)
