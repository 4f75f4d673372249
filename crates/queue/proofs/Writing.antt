-- One bit of one word, written.
use mathlib.Core.Bool.{Bool, true, false, ◌&&◌, ◌||◌, not}
use mathlib.Core.List.{List}
use mathlib.Core.Logic.{◌≢◌}
use mathlib.Core.Path.{◌≡◌, refl, sym, ap, ◌∙◌}
use Prim.Native.Nat.{ℕ, ◌*◌, ◌%◌, ◌^◌, ◌<◌}
use native.Mathlib.Decide.{ℕ_discrete}
use native.Mathlib.Nat.{one-mul, zero-mul}
use native.Mathlib.Omega.{arith}
use lib.Bits.{bit_or, bit_xor, or_lt, xor_lt, or_zero_r, xor_zero_r}
use lib.Dec.{T, eqb, eqb→eq}
use lib.ListN.{get_or, set, length-set}
use lib.Pow.{pow-lt, shl_exact}
use lib.Seq.{get_or-set_same, get_or-set_other}
use mir.Val.{bool_byte}
use Rattle.rule.proofs.Booleans.{is_true, is_false, or_false, and_true, and_false, eq→eqb}
use Rattle.queue.specs.Queue.{test_bit}
use Rattle.queue.specs.inner.Words.{HasBit, Written}
use Rattle.queue.proofs.Bits.{bit_or-law, bit_xor-law}

-- a bit shifted within a word
one_shifted : (k : ℕ) → k < 64 → 1 * 2 ^ k % 18446744073709551616 ≡ 2 ^ k
one_shifted k l = shl_exact {a = 1} 1 k 64 (omega arith) (omega arith) ∙ one-mul (2 ^ k)

zero_shifted : (k : ℕ) → 0 * 2 ^ k % 18446744073709551616 ≡ 0
zero_shifted k = rw zero-mul

pub or_true : (b : Bool) → (b || true) ≡ true
or_true true = refl
or_true false = refl

-- a place against itself and against another
pub own_place : (k : ℕ) → eqb k k ≡ true
own_place k = is_true (eqb k k) (eq→eqb k k refl)

pub other_place : {m k : ℕ} → m ≢ k → eqb m k ≡ false
other_place {m} {k} n = is_false (eqb m k) (λ t. n (eqb→eq m k t))

module _ {words : List ℕ} {w k : ℕ} (at : HasBit words w k) where
  abbrev a : ℕ
  a = get_or words w 0

  wrote : (b : ℕ) (value : Bool) → b < 2 ^ 64 → test_bit b k ≡ value → ((m : ℕ) → m ≢ k → test_bit b m ≡ test_bit a m) → Written words (set words w b) w k value
  wrote b value small own others =
      let here : get_or (set words w b) w 0 ≡ b = get_or-set_same words w b 0 (omega (arith, at.word, at.long)) in
      record {
        long = length-set words w b ∙ at.long;
        fits = λ i. elim (ℕ_discrete i w) [ yes e ↦ rw (e, here) small | no n ↦ rw (get_or-set_other words w i b 0 n) (at.fits i) ];
        own = rw here own;
        others = λ m n. rw here (others m n);
        elsewhere = λ i n. get_or-set_other words w i b 0 n;
      }

  -- what `set_bit` writes
  pub set_written : (put : Bool) → Written words (set words w (bit_or a (bool_byte put * 2 ^ k % 18446744073709551616))) w k (test_bit a k || put)
  set_written true =
      rw (one_shifted k at.place) (wrote (bit_or a (2 ^ k)) (test_bit a k || true) (or_lt 64 a (2 ^ k) (at.fits w) (pow-lt at.place))
      (bit_or-law a k k ∙ ap (λ (t : Bool). test_bit a k || t) (own_place k))
      (λ m n. bit_or-law a k m ∙ ap (λ (t : Bool). test_bit a m || t) (other_place n) ∙ or_false (test_bit a m)))
  set_written false = rw (zero_shifted k, or_zero_r) (wrote a (test_bit a k || false) (at.fits w) (sym (or_false (test_bit a k))) (λ m n. refl))

  -- what `clear_bit` writes
  pub clear_written : (out : Bool) → T (test_bit a k) → Written words (set words w (bit_xor a (bool_byte out * 2 ^ k % 18446744073709551616))) w k (not out)
  clear_written true t =
      rw (one_shifted k at.place) (wrote (bit_xor a (2 ^ k)) false (xor_lt 64 a (2 ^ k) (at.fits w) (pow-lt at.place))
      (bit_xor-law a k k t ∙ ap (λ (p : Bool). test_bit a k && not p) (own_place k) ∙ and_false (test_bit a k))
      (λ m n. bit_xor-law a k m t ∙ ap (λ (p : Bool). test_bit a m && not p) (other_place n) ∙ and_true (test_bit a m)))
  clear_written false t = rw (zero_shifted k, xor_zero_r) (wrote a true (at.fits w) (is_true (test_bit a k) t) (λ m n. refl))
