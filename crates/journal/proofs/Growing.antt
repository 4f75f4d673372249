-- Entries that are listed bank by bank: `all k` are those of the banks below k, `of a` those of bank a.
use mathlib.Core.List.{List, ◌++◌}
use mathlib.Core.Path.{◌≡◌, sym, ap, ◌∙◌, subst}
use Prim.Native.Nat.{ℕ, zero, suc, ◌+◌, ◌-◌, ◌≤◌, ◌<◌}
use native.Mathlib.Numerals.{add-one}
use native.Mathlib.Omega.{arith}
use lib.ListN.{length, length-append}
use Rattle.rule.specs.declared.Entry.{Entry}
use Rattle.journal.specs.inner.Adds.{PutsEntries, Fit}
use Rattle.journal.proofs.Writing.{entries_then, fit_fewer, fit_after}

module _ (all of : ℕ → List Entry) (step : (a : ℕ) → all (suc a) ≡ all a ++ of a) where
  pub grow_next : (a : ℕ) → all (a + 1) ≡ all a ++ of a
  grow_next a = ap all (add-one a) ∙ step a

  pub grow_count : (a : ℕ) → length (all (a + 1)) ≡ length (all a) + length (of a)
  grow_count a = ap length (grow_next a) ∙ length-append (all a) (of a)

  -- they grow
  grow_more : (a d : ℕ) → length (all a) ≤ length (all (d + a))
  grow_more a zero = let e : 0 + a ≡ a = omega arith in omega (arith, ap (λ (k : ℕ). length (all k)) e)
  grow_more a (suc d) =
      let e : suc d + a ≡ suc (d + a) = omega arith in
      omega (arith, grow_more a d, ap (λ (k : ℕ). length (all k)) e, ap length (step (d + a)), length-append (all (d + a)) (of (d + a)))

  pub grow_room : (a n : ℕ) → a < n → length (all a) + length (of a) ≤ length (all n)
  grow_room a n h =
      let e : n - (a + 1) + (a + 1) ≡ n = omega arith in
      omega (arith, grow_count a, grow_more (a + 1) (n - (a + 1)), ap (λ (k : ℕ). length (all k)) e)

  -- room for the entries of bank a after those below it, and all of them written
  module _ (a n k : ℕ) (h : a < n) (out : List ℕ) (fit : Fit (all n) k out) (r₁ : ℕ) (out₁ : List ℕ) (p : PutsEntries (all a) k out r₁ out₁) where
    pub grow_fit : length out₁ ≡ length out → Fit (of a) r₁ out₁
    grow_fit l = fit_after (all a) (of a) (all n) k r₁ out out₁ (grow_room a n h) fit p l

    pub grow_put : (r₂ : ℕ) (out₂ : List ℕ) → PutsEntries (of a) r₁ out₁ r₂ out₂ → PutsEntries (all (a + 1)) k out r₂ out₂
    grow_put r₂ out₂ q =
        let fewer = fit_fewer (all a ++ of a) (all n) k out (omega (arith, length-append (all a) (of a), grow_room a n h)) fit in
        subst (λ (l : List Entry). PutsEntries l k out r₂ out₂) (sym (grow_next a)) (entries_then (all a) (of a) k out fewer r₁ r₂ out₁ out₂ p q)
