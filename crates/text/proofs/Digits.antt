-- The digits from place i on, and their value.
use mathlib.Core.Bool.{true, false, ◌&&◌}
use mathlib.Core.List.{List, [], ◌∷◌}
use mathlib.Core.Logic.{inl, inr}
use mathlib.Core.Path.{◌≡◌, ap, ◌∙◌}
use Prim.Native.Nat.{ℕ, zero, suc, ◌+◌, ◌*◌, ◌-◌, ◌^◌, ◌≤◌, ◌<◌}
use native.Mathlib.Numerals.{add-one}
use native.Mathlib.Nat.{pow-succ'}
use native.Mathlib.Omega.{arith}
use lib.Dec.{T, leb}
use lib.ListN.{length, get_or, drop, drop_of_length-le}
use lib.Seq.{drop-cons}
use borrow.Author.Tests.{le-leb, lt-leb, leb-true}
use Rattle.rule.specs.Lists.{memb}
use Rattle.rule.proofs.Booleans.{both_true}
use Rattle.rule.proofs.Lists.{in_cons, in_none}
use Rattle.std.proofs.Common.{Some, None}
use Rattle.text.specs.Numbers.{digits, value_from}
use Rattle.text.specs.inner.Digits.{digits_value}

pub digits_yes : (s : List ℕ) (v : ℕ) → digits s ≡ true → value_from 0 s ≡ v → Some v ≡ digits_value s
unfolding digits_value
digits_yes s v d e = rw (d, e)

pub digits_no : (s : List ℕ) → digits s ≡ false → None ≡ digits_value s
unfolding digits_value
digits_no s d = rw d

-- a digit is no character below `0`
pub digit_high : (p : List ℕ) → digits p ≡ true → (y : ℕ) → T (memb y p) → 48 ≤ y
unfolding digits
digit_high [] d y m = absurd (in_none y m)
digit_high (c ∷ cs) d y m =
    let p = both_true (leb 48 c) (leb c 57 && digits cs) d in
    elim (in_cons y c cs m) [
      | inl e ↦ omega (arith, leb-true 48 c p.0)
      | inr t ↦ digit_high cs (both_true (leb c 57) (digits cs) p.1).1 y t
    ]

module _ (s : List ℕ) (i : ℕ) where
  pub digits_low : i < length s → get_or s i 0 < 48 → digits (drop i s) ≡ false
  unfolding digits
  digits_low h l = rw (drop-cons s i 0 h, lt-leb 48 (get_or s i 0) l)

  pub digits_high : i < length s → 48 ≤ get_or s i 0 → 57 < get_or s i 0 → digits (drop i s) ≡ false
  unfolding digits
  digits_high h l u = rw (drop-cons s i 0 h, le-leb 48 (get_or s i 0) l, lt-leb (get_or s i 0) 57 u)

  pub digits_next : i < length s → 48 ≤ get_or s i 0 → get_or s i 0 ≤ 57 → digits (drop i s) ≡ digits (drop (i + 1) s)
  unfolding digits
  digits_next h l u = rw (add-one, drop-cons s i 0 h, le-leb 48 (get_or s i 0) l, le-leb (get_or s i 0) 57 u)

  pub value_next : (v : ℕ) → i < length s → value_from v (drop i s) ≡ value_from (10 * v + (get_or s i 0 - 48)) (drop (i + 1) s)
  unfolding value_from
  value_next v h = rw (add-one, drop-cons s i 0 h)

  pub digits_end : length s ≤ i → digits (drop i s) ≡ true
  unfolding digits
  digits_end h = rw (drop_of_length-le s h)

  pub value_end : (v : ℕ) → length s ≤ i → value_from v (drop i s) ≡ v
  unfolding value_from
  value_end v h = rw (drop_of_length-le s h)

-- a further digit
pub more : (v d i : ℕ) → v < 10 ^ i → d ≤ 9 → 10 * v + d < 10 ^ (i + 1)
more v d i h k =
    let p : 10 ^ (i + 1) ≡ 10 * 10 ^ i = ap (λ (n : ℕ). 10 ^ n) (add-one i) ∙ pow-succ' 10 i in
    omega arith

-- digits keep a value below a power of ten
pub value_below : (v i : ℕ) (s : List ℕ) → digits s ≡ true → v < 10 ^ i → value_from v s < 10 ^ (i + length s)
unfolding digits value_from
value_below v i [] d h = let e : i + 0 ≡ i = omega arith in rw e h
value_below v i (c ∷ cs) d h =
    let p = both_true (leb 48 c) (leb c 57 && digits cs) d in
    let q = both_true (leb c 57) (digits cs) p.1 in
    let one : c - 48 ≤ 9 = omega (arith, leb-true 48 c p.0, leb-true c 57 q.0) in
    let e : i + length (c ∷ cs) ≡ (i + 1) + length cs = omega arith in
    rw e (value_below (10 * v + (c - 48)) (i + 1) cs q.1 (more v (c - 48) i h one))

pub tens : (v i : ℕ) → v < 10 ^ (0 + i) → i ≤ 4 → v < 10000
tens v zero h k = omega arith
tens v (suc zero) h k = omega arith
tens v (suc (suc zero)) h k = omega arith
tens v (suc (suc (suc zero))) h k = omega arith
tens v (suc (suc (suc (suc zero)))) h k = h
tens v (suc (suc (suc (suc (suc i))))) h k = absurd (omega arith)
