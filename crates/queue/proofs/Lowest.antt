-- Bits taken one after the other, the lowest first: a number of w bits, and what is left of it once its lowest bit is cleared.
use mathlib.Core.Bool.{Bool, ◌&&◌, not}
use mathlib.Core.Logic.{inl, inr, ◌≢◌}
use mathlib.Core.Path.{◌≡◌, sym, ap, ◌∙◌}
use Prim.Native.Nat.{ℕ, ◌-◌, ◌^◌, ◌<◌, ◌≤◌}
use native.Mathlib.Decide.{ℕ_discrete}
use native.Mathlib.Nat.{lt_of_lt_of_le, lt_trans}
use native.Mathlib.Omega.{arith}
use lib.Bits.{bit_and, and_le_r}
use lib.Count.{count_trailing_zeros}
use lib.Dec.{T, eqb, T_not}
use lib.Pow.{pow_mono}
use Rattle.rule.proofs.Booleans.{and_l, and_r, and_true, eq→eqb, t_along, lt_or_ge}
use Rattle.queue.specs.Queue.{test_bit}
use Rattle.queue.proofs.Bits.{LowestBit, trailing, bit_without, no_high_bit}
use Rattle.queue.proofs.Writing.{other_place}

-- a number without its lowest bit
abbrev pub without_lowest : ℕ → ℕ
without_lowest a = bit_and a (a - 1)

module _ (w : ℕ) {a : ℕ} (narrow : w ≤ 64) (some : a ≢ 0) (fits : a < 2 ^ w) where
  abbrev low : ℕ
  low = count_trailing_zeros 64 a

  fits_word : a < 2 ^ 64
  fits_word = lt_of_lt_of_le fits (pow_mono narrow)

  lowest_word : LowestBit 64 a (count_trailing_zeros 64 a)
  lowest_word = trailing 64 a some fits_word

  pub lowest : LowestBit w a (count_trailing_zeros 64 a)
  lowest = record {
    inside = elim (lt_or_ge low w) [ inl l ↦ l | inr l ↦ absurd (no_high_bit low fits l lowest_word.set) ];
    set = lowest_word.set;
    below = lowest_word.below;
  }

  cut : (k : ℕ) → test_bit (without_lowest a) k ≡ (test_bit a k && not (eqb k low))
  cut = bit_without 64 a some fits_word

  pub rest_part : (k : ℕ) → T (test_bit (without_lowest a) k) → T (test_bit a k)
  rest_part k t = and_l (test_bit a k) (not (eqb k low)) (t_along (cut k) t)

  -- what is left stands above it
  pub rest_above : (k : ℕ) → T (test_bit (without_lowest a) k) → count_trailing_zeros 64 a < k
  rest_above k t =
      elim (lt_or_ge low k) [
        | inl l ↦ l
        | inr l ↦ elim (ℕ_discrete k low) [
          | yes e ↦ absurd (T_not (eqb k low) (and_r (test_bit a k) (not (eqb k low)) (t_along (cut k) t)) (eq→eqb k low e))
          | no d ↦ absurd (lowest.below k (omega arith) (rest_part k t))
        ]
      ]

  -- a bit that is not left was that one, or was not there
  pub rest_gone : (k : ℕ) → k ≢ count_trailing_zeros 64 a → (T (test_bit (without_lowest a) k) → ⊥) → T (test_bit a k) → ⊥
  rest_gone k d n t = n (t_along (sym (cut k ∙ ap (λ (x : Bool). test_bit a k && not x) (other_place d) ∙ and_true (test_bit a k))) t)

  pub rest_less : without_lowest a < a
  rest_less = omega (arith, and_le_r a (a - 1))

  pub rest_fits : without_lowest a < 2 ^ w
  rest_fits = lt_trans rest_less fits
