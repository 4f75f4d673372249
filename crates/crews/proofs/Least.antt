-- The first number that passes a test, from q on.
use mathlib.Core.Bool.{Bool}
use mathlib.Core.List.{List}
use mathlib.Core.Logic.{inl, inr}
use mathlib.Core.Path.{◌≡◌, refl, sym, ◌∙◌}
use native.Mathlib.Decide.{ℕ_discrete}
use native.Mathlib.Numerals.{add-one}
use native.Mathlib.Omega.{arith}
use Prim.Native.Nat.{ℕ, zero, suc, ◌+◌, ◌-◌, ◌≤◌, ◌<◌}
use lib.Dec.{T, leb→le, le→leb}
use Rattle.rule.proofs.Booleans.{passes?, cond_yes, cond_no}
use Rattle.crews.specs.Day.{first_from}
use Rattle.crews.specs.inner.Serving.{steps_to, ends_by}

module _ (test : ℕ → Bool) where
  first_yes : (count q : ℕ) → T (test q) → first_from (suc count) q test ≡ q
  unfolding first_from
  first_yes count q t = cond_yes (test q) q (first_from count (suc q) test) t

  first_no-law : (count q : ℕ) → (T (test q) → ⊥) → first_from (suc count) q test ≡ first_from count (suc q) test
  unfolding first_from
  first_no-law count q n = cond_no (test q) q (first_from count (suc q) test) n

  -- it is one of the numbers that were asked for, it passes, and no smaller one does; 0 stands for none
  pub record First (count q r : ℕ) : Type 0 where
    pub within : (r ≡ 0 → ⊥) → (q ≤ r) × (r < q + count)
    pub passes : (r ≡ 0 → ⊥) → T (test r)
    pub least : (x : ℕ) → q ≤ x → x < q + count → T (test x) → (r ≡ 0 → ⊥) × (r ≤ x)

  pub first_is : (count q : ℕ) → 1 ≤ q → First count q (first_from count q test)
  first_is zero q l = unfold first_from in record { within = λ n. absurd (n refl); passes = λ n. absurd (n refl); least = λ x g s t. absurd (omega arith) }
  first_is (suc count) q l =
      elim (passes? (test q)) [
        | inl t ↦ rw (first_yes count q t) (record { within = λ n. (omega arith, omega arith); passes = λ n. t; least = λ x g s u. (λ e. omega arith, g) })
        | inr n ↦
            let more = first_is count (suc q) (omega arith) in
            rw (first_no-law count q n) (record {
              within = λ k. let w = more.within k in (omega arith, omega arith);
              passes = more.passes;
              least = λ x g s u. elim (ℕ_discrete x q) [ yes e ↦ absurd (n (rw e at u)) | no d ↦ more.least x (omega arith) (omega arith) u ];
            })
      ]

-- the numbers up to 64, in turn: q is next, and its steps are worked out
module _ (sizes : List ℕ) (limit : ℕ) {q r : ℕ} (so_far : first_from (65 - q) q (ends_by sizes limit) ≡ r) where
  module _ {sum : ℕ} (is : sum ≡ steps_to sizes q 24) (l : q ≤ 64) where
    next : 65 - q ≡ suc (64 - q)
    next = omega arith

    pub tried_yes : sum ≤ limit → q ≡ r
    tried_yes k = sym (first_yes (ends_by sizes limit) (64 - q) q (le→leb (steps_to sizes q 24) limit (omega (arith, is)))) ∙ rw next at so_far

    pub tried_no : limit < sum → first_from (65 - (q + 1)) (q + 1) (ends_by sizes limit) ≡ r
    tried_no k =
        let left : 65 - (q + 1) ≡ 64 - q = omega arith in
        rw (left, add-one q)
        (sym (first_no-law (ends_by sizes limit) (64 - q) q (λ t. omega (arith, is, leb→le (steps_to sizes q 24) limit t))) ∙ rw next at so_far)

  pub tried_all : 64 < q → 0 ≡ r
  unfolding first_from
  tried_all l = let none : 65 - q ≡ 0 = omega arith in rw none at so_far
