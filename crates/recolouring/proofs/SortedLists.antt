-- Sorted lists: cut, with one more put in, and how long they can be.
use mathlib.Core.Bool.{Bool, true, ◌&&◌, not}
use mathlib.Core.List.{List, [], ◌∷◌, ◌++◌}
use mathlib.Core.Logic.{inl, inr}
use mathlib.Core.Path.{refl}
use Prim.Native.Nat.{ℕ, ◌≤◌, ◌<◌}
use native.Mathlib.Omega.{arith}
use lib.Dec.{T, eqb, eqb→eq, not_T, T_not}
use lib.ListN.{length}
use Rattle.rule.specs.Lists.{filter, memb, upto, Sorted}
use Rattle.rule.proofs.Booleans.{and_l, and_r, both, eq→eqb}
use Rattle.rule.proofs.Lists.{in_head, in_tail, in_cons, in_none, in_append, in_append_l, in_append_r, in_upto, count_lt, filter_true, length_upto}

module _ (R : ℕ → ℕ → Bool) where
  pub sorted_cut : (xs ys : List ℕ) → Sorted R (xs ++ ys) → (x y : ℕ) → T (memb x xs) → T (memb y ys) → T (R x y)
  sorted_cut [] ys s x y mx my = absurd (in_none x mx)
  sorted_cut (z ∷ zs) ys s x y mx my =
      elim (in_cons x z zs mx) [
        | inl e ↦ rw e (s.0 y (in_append_r y zs ys my))
        | inr u ↦ sorted_cut zs ys s.1 x y u my
      ]

  pub sorted_put : (xs ys : List ℕ) (v : ℕ) → Sorted R (xs ++ ys) → ((x : ℕ) → T (memb x xs) → T (R x v)) → ((y : ℕ) → T (memb y ys) → T (R v y))
      → Sorted R (xs ++ (v ∷ ys))
  sorted_put [] ys v s l r = (r, s)
  sorted_put (z ∷ zs) ys v s l r = (
    λ y m. elim (in_append y zs (v ∷ ys) m) [
      | inl u ↦ s.0 y (in_append_l y zs ys u)
      | inr u ↦ elim (in_cons y v ys u) [ inl e ↦ rw e (l z (in_head z z zs refl)) | inr w ↦ s.0 y (in_append_r y zs ys w) ]
    ],
    sorted_put zs ys v s.1 (λ x m. l x (in_tail x z zs m)) r,
  )

  module _ (irrefl : (x : ℕ) → T (R x x) → ⊥) where
    pub sorted_apart : (xs ys : List ℕ) (x : ℕ) → Sorted R (xs ++ ys) → T (memb x xs) → T (memb x ys) → ⊥
    sorted_apart xs ys x s a b = irrefl x (sorted_cut xs ys s x x a b)

    -- no longer than what it is taken from
    short : (p : ℕ → Bool) (zs xs : List ℕ) → Sorted R xs → ((x : ℕ) → T (memb x xs) → T (memb x zs)) → ((x : ℕ) → T (memb x xs) → T (p x)) → length xs ≤ length (filter p zs)
    short p zs [] s a b = omega arith
    short p zs (x ∷ xs) s a b =
        let q : ℕ → Bool = λ y. p y && not (eqb y x) in
        let apart : (y : ℕ) → T (memb y xs) → T (not (eqb y x)) =
        λ y m. not_T (eqb y x) (λ t. irrefl x (rw (eqb→eq y x t) at (s.0 y m))) in
        omega (
          arith,
          short q zs xs s.1 (λ y m. a y (in_tail y x xs m)) (λ y m. both (p y) (not (eqb y x)) (b y (in_tail y x xs m)) (apart y m)),
          count_lt q p zs (λ y m t. and_l (p y) (not (eqb y x)) t) x (a x (in_head x x xs refl))
              (λ t. T_not (eqb x x) (and_r (p x) (not (eqb x x)) t) (eq→eqb x x refl))
              (b x (in_head x x xs refl)),
        )

    pub sorted_short : (n : ℕ) (xs : List ℕ) → Sorted R xs → ((x : ℕ) → T (memb x xs) → x < n) → length xs ≤ n
    sorted_short n xs s h =
        omega (arith, rw filter_true at (short (λ x. true) (upto n) xs s (λ x m. in_upto n x (h x m)) (λ x m. tt)), length_upto n)
