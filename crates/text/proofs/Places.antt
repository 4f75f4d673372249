-- How many bytes stand before the first c, as the library's search for a place in the rest of the bytes answers it.
use mathlib.Core.Bool.{cond, not}
use mathlib.Core.List.{List}
use mathlib.Core.Logic.{inl, inr}
use mathlib.Core.Path.{◌≡◌, refl, sym, ap, ◌∙◌}
use Prim.Native.Nat.{ℕ, ◌+◌, ◌≤◌}
use native.Mathlib.Omega.{arith}
use lib.Dec.{eqb, ltb}
use lib.ListN.{length, drop, length-drop}
use borrow.Author.Tests.{lt-ltb, le-ltb}
use Rattle.std.specs.List.{position_or_len}
use Rattle.std.proofs.Common.{Option, Some, None}
use Rattle.std.proofs.lemmas.Bool.{cases_lt}
use Rattle.std.proofs.lemmas.List.Recursion.{is_position_or_len}
use Rattle.std.proofs.lemmas.List.Sums.{prefix_len-le-length}
use Rattle.text.specs.Places.{before, Finds}

before_is : (c : ℕ) (s : List ℕ) → before c s ≡ position_or_len (λ x. eqb x c) s
unfolding before
before_is c s = is_position_or_len (before c) (λ x. eqb x c) refl (λ x xs. ap (λ (n : ℕ). cond (eqb x c) 0 n) (omega arith)) s

module _ (s : List ℕ) (from c : ℕ) (low : from ≤ length s) (r : Option ℕ) where
  -- what the search in the rest of the bytes answers
  abbrev pub Answers : Type 0
  Answers = r ≡ cond (ltb (position_or_len (λ x. eqb x c) (drop from s)) (length (drop from s))) (Some (position_or_len (λ x. eqb x c) (drop from s))) None

  pub found : (i : ℕ) → Answers → r ≡ Some i → Finds s from c (from + i)
  found i e f =
      let k : ℕ = position_or_len (λ x. eqb x c) (drop from s) in
      let b : before c (drop from s) ≡ k = before_is c (drop from s) in
      elim (cases_lt k (length (drop from s))) [
        | inl l ↦
            let g : Some k ≡ Some i = sym (e ∙ rw (lt-ltb k (length (drop from s)) l) refl) ∙ f in
            let same : k ≡ i = cc in
            let long = length-drop from s in
            record { is = omega arith; low = omega arith; high = omega arith }
        | inr m ↦
            let g : None ≡ Some i = sym (e ∙ rw (le-ltb k (length (drop from s)) m) refl) ∙ f in
            cc
      ]

  pub absent : Answers → r ≡ None → Finds s from c (length s)
  absent e f =
      let k : ℕ = position_or_len (λ x. eqb x c) (drop from s) in
      let b : before c (drop from s) ≡ k = before_is c (drop from s) in
      elim (cases_lt k (length (drop from s))) [
        | inl l ↦
            let g : Some k ≡ None = sym (e ∙ rw (lt-ltb k (length (drop from s)) l) refl) ∙ f in
            cc
        | inr m ↦
            let long = length-drop from s in
            let top = prefix_len-le-length (λ x. not (eqb x c)) (drop from s) in
            record { is = omega arith; low = low; high = omega arith }
      ]
