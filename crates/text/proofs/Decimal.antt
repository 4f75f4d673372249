-- Numbers in decimal: digit by digit, how many digits they have, and that they read back.
use mathlib.Core.Bool.{true, cond, ◌&&◌, ◌||◌, not}
use mathlib.Core.List.{List, [], ◌∷◌, ◌++◌}
use mathlib.Core.Logic.{inl, inr}
use mathlib.Core.Path.{◌≡◌, refl, ap, ◌∙◌}
use Prim.Native.Nat.{ℕ, zero, suc, ◌+◌, ◌*◌, ◌-◌, ◌/◌, ◌%◌, ◌^◌, ◌≤◌, ◌<◌}
use native.Mathlib.Nat.{pow-succ', one-le-pow}
use native.Mathlib.Omega.{arith}
use lib.Dec.{leb, ltb, eqb}
use lib.ListN.{length, get_or, length-append, get_or-append}
use borrow.Author.Tests.{lt-ltb, le-ltb, le-leb, lt-leb, ne_eqb}
use Rattle.rule.proofs.Booleans.{lt_or_ge, both_true}
use Rattle.std.proofs.Common.{Some, None}
use Rattle.text.specs.Numbers.{digits, is_number, value_from, number, decimal_in, decimal}
use Rattle.text.specs.Unpadded.{is_unpadded, unpadded_number}
use Rattle.text.proofs.Numbers.{number_kept}

-- a depth above x is enough for x
depth_enough : (d e x : ℕ) → x < d → x < e → decimal_in d x ≡ decimal_in e x
unfolding decimal_in
depth_enough zero e x h k = absurd (omega arith)
depth_enough (suc d) zero x h k = absurd (omega arith)
depth_enough (suc d) (suc e) x h k =
    elim (lt_or_ge x 10) [
      | inl l ↦ rw (lt-ltb x 10 l)
      | inr g ↦
          ap (λ (t : List ℕ). cond (ltb x 10) ((48 + x) ∷ []) (t ++ ((48 + x % 10) ∷ [])))
          (depth_enough d e (x / 10) (omega arith) (omega arith))
    ]

module _ (x : ℕ) where
  pub decimal_low : x < 10 → decimal x ≡ (48 + x) ∷ []
  unfolding decimal decimal_in
  decimal_low h = rw (lt-ltb x 10 h)

  pub decimal_high : 10 ≤ x → decimal x ≡ decimal (x / 10) ++ ((48 + x % 10) ∷ [])
  unfolding decimal decimal_in
  decimal_high h =
      let enough = depth_enough x (suc (x / 10)) (x / 10) (omega arith) (omega arith) in
      rw (le-ltb x 10 h) (ap (λ (t : List ℕ). t ++ ((48 + x % 10) ∷ [])) enough)

  pub length_low : x < 10 → length (decimal x) ≡ 1
  length_low h = ap length (decimal_low h)

  pub length_high : 10 ≤ x → length (decimal x) ≡ length (decimal (x / 10)) + 1
  length_high h = ap length (decimal_high h) ∙ length-append (decimal (x / 10)) ((48 + x % 10) ∷ [])

-- what holds of one digit, and of x if of x / 10, holds of all numbers
by_digits : (P : ℕ → Type 0) → ((x : ℕ) → x < 10 → P x) → ((x : ℕ) → 10 ≤ x → P (x / 10) → P x) → (x : ℕ) → P x
by_digits P low high x = go (suc x) x (omega arith)
  where
    go : (d x : ℕ) → x < d → P x
    go zero x h = absurd (omega arith)
    go (suc d) x h = elim (lt_or_ge x 10) [ inl l ↦ low x l | inr g ↦ high x g (go d (x / 10) (omega arith)) ]

-- how many digits: at least one; below 10 to the k + 1 at most k + 1; from 10 to the k on more than k
pub some_digit : (x : ℕ) → 1 ≤ length (decimal x)
some_digit = by_digits (λ x. 1 ≤ length (decimal x)) (λ x h. omega (arith, length_low x h)) (λ x g e. omega (arith, length_high x g))

pub few_digits : (k x : ℕ) → x < 10 ^ suc k → length (decimal x) ≤ suc k
few_digits zero x h = omega (arith, length_low x h)
few_digits (suc k) x h =
    let p : 10 ^ suc (suc k) ≡ 10 * 10 ^ suc k = pow-succ' 10 (suc k) in
    elim (lt_or_ge x 10) [
      | inl l ↦ omega (arith, length_low x l)
      | inr g ↦ omega (arith, length_high x g, few_digits k (x / 10) (omega arith))
    ]

pub many_digits : (k x : ℕ) → 10 ^ k ≤ x → k < length (decimal x)
many_digits zero x h = some_digit x
many_digits (suc k) x h =
    let p : 10 ^ suc k ≡ 10 * 10 ^ k = pow-succ' 10 k in
    let q = one-le-pow k 10 (omega arith) in
    omega (arith, length_high x (omega arith), many_digits k (x / 10) (omega arith))

pub length_decimal : (k x : ℕ) → 10 ^ k ≤ x → x < 10 ^ suc k → length (decimal x) ≡ suc k
length_decimal k x low high = omega (arith, few_digits k x high, many_digits k x low)

-- one digit more
digits_snoc : (p : List ℕ) (d : ℕ) → digits p ≡ true → d < 10 → digits (p ++ ((48 + d) ∷ [])) ≡ true
unfolding digits
digits_snoc [] d e h = rw (le-leb 48 (48 + d) (omega arith), le-leb (48 + d) 57 (omega arith))
digits_snoc (c ∷ cs) d e h =
    let p = both_true (leb 48 c) (leb c 57 && digits cs) e in
    let q = both_true (leb c 57) (digits cs) p.1 in
    rw (p.0, q.0, digits_snoc cs d q.1 h)

value_snoc : (v : ℕ) (p : List ℕ) (d : ℕ) → value_from v (p ++ ((48 + d) ∷ [])) ≡ 10 * value_from v p + d
unfolding value_from
value_snoc v [] d = omega arith
value_snoc v (c ∷ cs) d = value_snoc (10 * v + (c - 48)) cs d

pub decimal_digits : (x : ℕ) → digits (decimal x) ≡ true
decimal_digits = by_digits (λ x. digits (decimal x) ≡ true)
    (λ x h. ap digits (decimal_low x h) ∙ unfold digits in digits_snoc [] x refl h)
    (λ x g e. ap digits (decimal_high x g) ∙ digits_snoc (decimal (x / 10)) (x % 10) e (omega arith))

one : (x : ℕ) → value_from 0 ((48 + x) ∷ []) ≡ x
unfolding value_from
one x = omega arith

pub decimal_value : (x : ℕ) → value_from 0 (decimal x) ≡ x
decimal_value = by_digits (λ x. value_from 0 (decimal x) ≡ x)
    (λ x h. ap (value_from 0) (decimal_low x h) ∙ one x)
    (λ x g e. omega (arith, ap (value_from 0) (decimal_high x g), value_snoc 0 (decimal (x / 10)) (x % 10), e))

-- the first digit of a number from 1 on is no zero
pub first_digit : (x : ℕ) → 1 ≤ x → 49 ≤ get_or (decimal x) 0 0
first_digit = by_digits (λ x. 1 ≤ x → 49 ≤ get_or (decimal x) 0 0)
    (λ x h some. rw (decimal_low x h) (omega arith))
    (λ x g first some.
    let same = get_or-append (decimal (x / 10)) ((48 + x % 10) ∷ []) 0 0 (some_digit (x / 10)) in
    omega (arith, ap (λ (l : List ℕ). get_or l 0 0) (decimal_high x g), same, first (omega arith)))

-- one digit, or no zero in front
no_padding : (x : ℕ) → (leb (length (decimal x)) 1 || not (eqb (get_or (decimal x) 0 0) 48)) ≡ true
no_padding x =
    elim (lt_or_ge x 10) [
      | inl l ↦ rw (length_low x l)
      | inr g ↦
          let high : get_or (decimal x) 0 0 ≡ 48 → ⊥ = λ e. omega (arith, first_digit x (omega arith)) in
          rw (lt-leb (length (decimal x)) 1 (many_digits 1 x g), ne_eqb (get_or (decimal x) 0 0) 48 high)
    ]

-- numbers below 10,000 read back, in the unpadded form too; the others have too many digits
pub reads_unpadded : (x : ℕ) → x < 10000 → unpadded_number (decimal x) ≡ Some x
unfolding unpadded_number is_unpadded
reads_unpadded x h =
    rw (le-leb 1 (length (decimal x)) (some_digit x), le-leb (length (decimal x)) 4 (few_digits 3 x h), no_padding x, decimal_digits x, decimal_value x)

pub reads_back : (x : ℕ) → x < 10000 → number (decimal x) ≡ Some x
reads_back x h = number_kept (decimal x) x (reads_unpadded x h)

pub reads_not : (x : ℕ) → 10000 ≤ x → number (decimal x) ≡ None
unfolding number is_number
reads_not x h = rw (le-leb 1 (length (decimal x)) (some_digit x), lt-leb (length (decimal x)) 4 (many_digits 4 x h))
