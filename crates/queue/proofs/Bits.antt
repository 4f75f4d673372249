-- Bits of numbers: set, cleared, and the lowest that is set.
use mathlib.Core.Bool.{Bool, true, false, ◌&&◌, ◌||◌, not}
use mathlib.Core.Logic.{◌≢◌}
use mathlib.Core.Path.{◌≡◌, refl, sym, ap, ap₂, ◌∙◌, subst}
use Prim.Native.Nat.{ℕ, zero, suc, ◌+◌, ◌*◌, ◌-◌, ◌/◌, ◌%◌, ◌^◌, ◌<◌, ◌≤◌, min, max}
use native.Mathlib.Nat.{add-zero, mod-lt, div-one, zero-div, pow-suc, div-add-mod', mul-mod_left, mul-div_cancel, div-eq_of_lt, lt_of_lt_of_le}
use native.Mathlib.Numerals.{one-add}
use native.Mathlib.Omega.{arith}
use lib.Arith.{digits_mod, lt-one}
use lib.Bits.{bit_and, bit_or, bit_xor, differ, and_step, or_step, xor_step, and_self, or_shr, xor_shr}
use lib.Count.{count_trailing_zeros, under}
use lib.Dec.{T, eqb, eqb→eq, eqb-zero-suc, eqb-suc-zero, eqb-suc-suc}
use lib.Pow.{pow_mono, shr-shr, field, mod-mod-pow}
use Rattle.rule.proofs.Booleans.{and_true, and_false, eq→eqb, t_along}
use Rattle.queue.specs.Queue.{test_bit}

bit_first : (a : ℕ) → test_bit a 0 ≡ eqb (a % 2) 1
unfolding test_bit
bit_first a = ap (λ (x : ℕ). eqb (x % 2) 1) (div-one a)

bit_next : (a k : ℕ) → test_bit a (suc k) ≡ test_bit (a / 2) k
unfolding test_bit
bit_next a k = ap (λ (x : ℕ). eqb (x % 2) 1) (ap (λ (x : ℕ). a / 2 ^ x) (sym (one-add k)) ∙ sym (shr-shr a 1 k))

-- 0 has no bit
pub bit_none : (k : ℕ) → test_bit 0 k ≡ false
unfolding test_bit
bit_none k = ap (λ (x : ℕ). eqb (x % 2) 1) (zero-div (2 ^ k))

bit_double_first : (a : ℕ) → test_bit (a * 2) 0 ≡ false
bit_double_first a = bit_first (a * 2) ∙ ap (λ (x : ℕ). eqb x 1) (mul-mod_left a 2)

bit_double_next : (a k : ℕ) → test_bit (a * 2) (suc k) ≡ test_bit a k
bit_double_next a k = bit_next (a * 2) k ∙ ap (λ (x : ℕ). test_bit x k) (mul-div_cancel a (omega arith))

-- a power of 2 has one
bit_power : (j k : ℕ) → test_bit (2 ^ j) k ≡ eqb k j
bit_power zero zero = bit_first 1
bit_power zero (suc k) = bit_next 1 k ∙ bit_none k ∙ sym (eqb-suc-zero k)
bit_power (suc j) zero = ap (λ (x : ℕ). test_bit x 0) (pow-suc 2 j) ∙ bit_double_first (2 ^ j) ∙ sym (eqb-zero-suc j)
bit_power (suc j) (suc k) = ap (λ (x : ℕ). test_bit x (suc k)) (pow-suc 2 j) ∙ bit_double_next (2 ^ j) k ∙ bit_power j k ∙ sym (eqb-suc-suc k j)

max_digit : (p q : ℕ) → p < 2 → q < 2 → (max p q < 2) × (eqb (max p q) 1 ≡ (eqb p 1 || eqb q 1))
max_digit zero zero l m = (omega arith, refl)
max_digit zero (suc zero) l m = (omega arith, refl)
max_digit zero (suc (suc q)) l m = absurd (omega arith)
max_digit (suc zero) zero l m = (omega arith, refl)
max_digit (suc zero) (suc zero) l m = (omega arith, refl)
max_digit (suc zero) (suc (suc q)) l m = absurd (omega arith)
max_digit (suc (suc p)) q l m = absurd (omega arith)

differ_digit : (p q : ℕ) → p < 2 → q < 2 → (differ p q < 2) × (eqb (differ p q) 1 ≡ (eqb p 1 && not (eqb q 1) || not (eqb p 1) && eqb q 1))
differ_digit zero zero l m = (omega arith, refl)
differ_digit zero (suc zero) l m = (omega arith, refl)
differ_digit zero (suc (suc q)) l m = absurd (omega arith)
differ_digit (suc zero) zero l m = (omega arith, refl)
differ_digit (suc zero) (suc zero) l m = (omega arith, refl)
differ_digit (suc zero) (suc (suc q)) l m = absurd (omega arith)
differ_digit (suc (suc p)) q l m = absurd (omega arith)

bits_or : (a b k : ℕ) → test_bit (bit_or a b) k ≡ (test_bit a k || test_bit b k)
unfolding test_bit
bits_or a b k =
    let p = a / 2 ^ k in
    let q = b / 2 ^ k in
    let d = max_digit (p % 2) (q % 2) (mod-lt p (omega arith)) (mod-lt q (omega arith)) in
    ap (λ (x : ℕ). eqb (x % 2) 1) (or_shr a b k ∙ or_step p q) ∙ ap (λ (x : ℕ). eqb x 1) (digits_mod (bit_or (p / 2) (q / 2)) d.0) ∙ d.1

bits_xor : (a b k : ℕ) → test_bit (bit_xor a b) k ≡ (test_bit a k && not (test_bit b k) || not (test_bit a k) && test_bit b k)
unfolding test_bit
bits_xor a b k =
    let p = a / 2 ^ k in
    let q = b / 2 ^ k in
    let d = differ_digit (p % 2) (q % 2) (mod-lt p (omega arith)) (mod-lt q (omega arith)) in
    ap (λ (x : ℕ). eqb (x % 2) 1) (xor_shr a b k ∙ xor_step p q) ∙ ap (λ (x : ℕ). eqb x 1) (digits_mod (bit_xor (p / 2) (q / 2)) d.0) ∙ d.1

-- bit j is set
pub bit_or-law : (a j k : ℕ) → test_bit (bit_or a (2 ^ j)) k ≡ (test_bit a k || eqb k j)
bit_or-law a j k = bits_or a (2 ^ j) k ∙ ap (λ (x : Bool). test_bit a k || x) (bit_power j k)

cleared : (p q : Bool) → (T q → T p) → (p && not q || not p && q) ≡ (p && not q)
cleared true true f = refl
cleared true false f = refl
cleared false true f = absurd (f tt)
cleared false false f = refl

-- bit j, which was set, is cleared
pub bit_xor-law : (a j k : ℕ) → T (test_bit a j) → test_bit (bit_xor a (2 ^ j)) k ≡ (test_bit a k && not (eqb k j))
bit_xor-law a j k t =
    bits_xor a (2 ^ j) k ∙ ap (λ (x : Bool). test_bit a k && not x || not (test_bit a k) && x) (bit_power j k)
    ∙ cleared (test_bit a k) (eqb k j) (λ u. subst (λ (i : ℕ). T (test_bit a i)) (sym (eqb→eq k j u)) t)

-- t is the lowest of w bits that is set
pub record LowestBit (w a t : ℕ) : Type 0 where
  pub inside : t < w
  pub set : T (test_bit a t)
  pub below : (i : ℕ) → i < t → T (test_bit a i) → ⊥

lowest_under : (w a d t : ℕ) → a % 2 ≡ d → a ≢ 0 → (a / 2 ≢ 0 → LowestBit w (a / 2) t) → LowestBit (suc w) a (under d t)
lowest_under w a zero t e n rest =
    let r = rest (λ z. n (omega (arith, div-add-mod' a 2))) in
    record {
      inside = omega (arith, r.inside);
      set = t_along (sym (bit_next a t)) r.set;
      below = λ i. elim i as (λ k. k < suc t → T (test_bit a k) → ⊥) [
        | zero ↦ λ l u. omega (arith, eqb→eq (a % 2) 1 (t_along (bit_first a) u))
        | suc j ↦ λ l u. r.below j (omega arith) (t_along (bit_next a j) u)
      ];
    }
lowest_under w a (suc d) t e n rest = record {
  inside = omega arith;
  set = t_along (sym (bit_first a)) (eq→eqb (a % 2) 1 (omega (arith, mod-lt a {m = 2} (omega arith))));
  below = λ i l. absurd (omega arith);
}

-- the trailing zeros of a number lead to it
pub trailing : (w a : ℕ) → a ≢ 0 → a < 2 ^ w → LowestBit w a (count_trailing_zeros w a)
unfolding count_trailing_zeros
trailing zero a n l = absurd (n (lt-one l))
trailing (suc w) a n l = lowest_under w a (a % 2) (count_trailing_zeros w (a / 2)) refl n (λ m. trailing w (a / 2) m (omega (arith, pow-suc 2 w)))

-- a number and the one before it have the bits above the lowest in common
and_even : (a : ℕ) → a % 2 ≡ 0 → a ≢ 0 → bit_and a (a - 1) ≡ bit_and (a / 2) (a / 2 - 1) * 2
and_even a e n =
    let f : (a - 1) / 2 ≡ a / 2 - 1 = omega arith in
    let g : min (a % 2) ((a - 1) % 2) ≡ 0 = omega arith in
    and_step a (a - 1) ∙ ap₂ (λ (x y : ℕ). bit_and (a / 2) x * 2 + y) f g ∙ add-zero (bit_and (a / 2) (a / 2 - 1) * 2)

and_odd : (a : ℕ) → a % 2 ≡ 1 → bit_and a (a - 1) ≡ a / 2 * 2
and_odd a e =
    let f : (a - 1) / 2 ≡ a / 2 = omega arith in
    let g : min (a % 2) ((a - 1) % 2) ≡ 0 = omega arith in
    and_step a (a - 1) ∙ ap₂ (λ (x y : ℕ). bit_and (a / 2) x * 2 + y) f g ∙ add-zero (bit_and (a / 2) (a / 2) * 2) ∙ ap (λ (x : ℕ). x * 2) (and_self (a / 2))

without_under : (a d t : ℕ) → a % 2 ≡ d → a ≢ 0 → (a / 2 ≢ 0 → (k : ℕ) → test_bit (bit_and (a / 2) (a / 2 - 1)) k ≡ (test_bit (a / 2) k && not (eqb k t)))
    → (k : ℕ) → test_bit (bit_and a (a - 1)) k ≡ (test_bit a k && not (eqb k (under d t)))
without_under a zero t e n rest zero =
    ap (λ (x : ℕ). test_bit x 0) (and_even a e n) ∙ bit_double_first (bit_and (a / 2) (a / 2 - 1))
    ∙ sym (ap (λ (x : Bool). x && not (eqb 0 (suc t))) (bit_first a ∙ ap (λ (x : ℕ). eqb x 1) e))
without_under a zero t e n rest (suc k) =
    ap (λ (x : ℕ). test_bit x (suc k)) (and_even a e n) ∙ bit_double_next (bit_and (a / 2) (a / 2 - 1)) k ∙ rest (λ z. n (omega (arith, div-add-mod' a 2))) k
    ∙ ap₂ (λ (x y : Bool). x && not y) (sym (bit_next a k)) (sym (eqb-suc-suc k t))
without_under a (suc d) t e n rest k =
    let one : a % 2 ≡ 1 = omega (arith, mod-lt a {m = 2} (omega arith)) in
    ap (λ (x : ℕ). test_bit x k) (and_odd a one) ∙ go k
  where
    go : (k : ℕ) → test_bit (a / 2 * 2) k ≡ (test_bit a k && not (eqb k 0))
    go zero = bit_double_first (a / 2) ∙ sym (and_false (test_bit a 0))
    go (suc k) = bit_double_next (a / 2) k ∙ sym (bit_next a k) ∙ sym (ap (λ (x : Bool). test_bit a (suc k) && not x) (eqb-suc-zero k) ∙ and_true (test_bit a (suc k)))

-- the bits that a number and the one before it have in common are all but the lowest
pub bit_without : (w a : ℕ) → a ≢ 0 → a < 2 ^ w → (k : ℕ) → test_bit (bit_and a (a - 1)) k ≡ (test_bit a k && not (eqb k (count_trailing_zeros w a)))
unfolding count_trailing_zeros
bit_without zero a n l = absurd (n (lt-one l))
bit_without (suc w) a n l = without_under a (a % 2) (count_trailing_zeros w (a / 2)) refl n (λ m. bit_without w (a / 2) m (omega (arith, pow-suc 2 w)))

-- a number below 2 ^ w has no bit from w on
pub no_high_bit : {w a : ℕ} (k : ℕ) → a < 2 ^ w → w ≤ k → T (test_bit a k) → ⊥
unfolding test_bit
no_high_bit {w} {a} k l m t =
    let e : a / 2 ^ k ≡ 0 = div-eq_of_lt (lt_of_lt_of_le l (pow_mono m)) in
    t_along (ap (λ (x : ℕ). eqb (x % 2) 1) e) t

-- the bits of a number shifted to the right
pub bit_shifted : (a s k : ℕ) → test_bit (a / 2 ^ s) k ≡ test_bit a (s + k)
unfolding test_bit
bit_shifted a s k = ap (λ (x : ℕ). eqb (x % 2) 1) (shr-shr a s k)

-- the lower bits of a number, kept
pub bit_kept : (a w k : ℕ) → k < w → test_bit (a % 2 ^ w) k ≡ test_bit a k
unfolding test_bit
bit_kept a w k l =
    let j = w - k - 1 in
    let e : j + 1 + k ≡ w = omega arith in
    let f : a % 2 ^ w / 2 ^ k ≡ a / 2 ^ k % 2 ^ (j + 1) = subst (λ (x : ℕ). a % 2 ^ x / 2 ^ k ≡ a / 2 ^ k % 2 ^ (j + 1)) e (field a (j + 1) k) in
    ap (λ (x : ℕ). eqb (x % 2) 1) f ∙ ap (λ (x : ℕ). eqb x 1) (mod-mod-pow (a / 2 ^ k) j 1)
