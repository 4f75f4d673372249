-- The waves that are not in a set, as the bits of one number: one bit more, and the lowest.
use mathlib.Core.Bool.{Bool, true, false, ◌||◌}
use mathlib.Core.List.{List}
use mathlib.Core.Logic.{inl, inr, ◌≢◌}
use mathlib.Core.Path.{◌≡◌, refl, sym, ap, ◌∙◌, subst}
use Prim.Native.Nat.{ℕ, ◌+◌, ◌*◌, ◌%◌, ◌^◌, ◌≤◌, ◌<◌}
use native.Mathlib.Nat.{one-mul, zero-mul, lt_of_lt_of_le}
use native.Mathlib.Omega.{arith}
use borrow.Author.Count.{below_more}
use lib.Bits.{bit_or, or_lt, or_zero_r}
use lib.Count.{count_trailing_zeros}
use lib.Dec.{eqb, eqb→eq}
use lib.ListN.{get_or}
use lib.Pow.{pow-lt, pow_mono, shl_exact}
use mir.Val.{bool_byte}
use Rattle.rule.specs.Wave.{lowest_free}
use Rattle.rule.proofs.Booleans.{t_along, is_false, eq→eqb, or_false, lt_or_ge}
use Rattle.rule.proofs.Theorems.{lowest_free_free, lowest_free_only}
use Rattle.memory.proofs.Fronts.{pos}
use Rattle.queue.specs.Queue.{test_bit}
use Rattle.queue.proofs.Bits.{LowestBit, bit_or-law, trailing, no_high_bit}
use Rattle.queue.proofs.Banks.{zero_bit}
use Rattle.queue.proofs.Writing.{or_true, own_place, other_place}
use Rattle.recolouring.specs.Recolouring.{waves_in}
use Rattle.recolouring.proofs.Collecting.{in_waves-law, waves_in-law}

-- the bits of a number say which of the first c cells are 0
pub record FreeBits (cells : List ℕ) (free c : ℕ) : Type 0 where
  pub fits : free < 2 ^ c
  pub bits : (i : ℕ) → i < c → test_bit free i ≡ eqb (get_or cells i 0) 0

module _ {cells : List ℕ} {free c : ℕ} (so_far : FreeBits cells free c) (narrow : c < 24) where
  -- the bit of cell c
  abbrev more : Bool → ℕ
  more put = bit_or free (bool_byte put * 2 ^ c % 4294967296)

  more_set : more true ≡ bit_or free (2 ^ c)
  more_set = rw (shl_exact {a = 1} 1 c 32 (omega arith) (omega arith), one-mul)

  more_kept : more false ≡ free
  more_kept = rw (zero-mul, or_zero_r)

  wider : 2 ^ c ≤ 2 ^ (c + 1)
  wider = pow_mono (omega arith)

  more_fits : (put : Bool) → more put < 2 ^ (c + 1)
  more_fits true = rw more_set (or_lt (c + 1) free (2 ^ c) (lt_of_lt_of_le so_far.fits wider) (pow-lt (omega arith)))
  more_fits false = rw more_kept (lt_of_lt_of_le so_far.fits wider)

  more_below : (put : Bool) (i : ℕ) → i < c → test_bit (more put) i ≡ test_bit free i
  more_below true i l =
      ap (λ (a : ℕ). test_bit a i) more_set ∙ bit_or-law free c i ∙ ap (λ (t : Bool). test_bit free i || t) (other_place {m = i} {k = c} (λ e. omega arith)) ∙ or_false (test_bit free i)
  more_below false i l = ap (λ (a : ℕ). test_bit a i) more_kept

  more_own : (put : Bool) → test_bit (more put) c ≡ put
  more_own true = ap (λ (a : ℕ). test_bit a c) more_set ∙ bit_or-law free c c ∙ ap (λ (t : Bool). test_bit free c || t) (own_place c) ∙ or_true (test_bit free c)
  more_own false = ap (λ (a : ℕ). test_bit a c) more_kept ∙ is_false (test_bit free c) (no_high_bit c so_far.fits (omega arith))

  pub one_more : FreeBits cells (bit_or free (bool_byte (eqb (get_or cells c 0) 0) * 2 ^ c % 4294967296)) (c + 1)
  one_more =
      let put = eqb (get_or cells c 0) 0 in
      record { fits = more_fits put; bits = below_more _ _ (λ i l. more_below put i l ∙ so_far.bits i l) (more_own put) }

-- a walk that has ended has passed all
pub all_cells : {cells : List ℕ} {free c : ℕ} → FreeBits cells free c → c ≡ 24 → FreeBits cells free 24
all_cells {cells} {free} {c} so_far e = subst (FreeBits cells free) e so_far

-- the lowest of the 24 bits is the lowest free wave
module _ {cells : List ℕ} {free : ℕ} (all : FreeBits cells free 24) (small : lowest_free (waves_in cells) < 24) where
  abbrev lowest : ℕ
  lowest = lowest_free (waves_in cells)

  lowest_zero : (n : ℕ) → get_or cells lowest 0 ≡ n → n ≡ 0
  lowest_zero n e = elim (lt_or_ge 0 n) [
    | inl l ↦ absurd (lowest_free_free (waves_in cells) (in_waves-law cells lowest small (omega arith)))
    | inr l ↦ omega arith
  ]

  some : free ≢ 0
  some none = zero_bit lowest none (t_along (sym (all.bits lowest small)) (eq→eqb (get_or cells lowest 0) 0 (lowest_zero _ refl)))

  first : LowestBit 32 free (count_trailing_zeros 32 free)
  first = trailing 32 free some (lt_of_lt_of_le all.fits (omega arith))

  abbrev at : ℕ
  at = count_trailing_zeros 32 free

  pub first_small : count_trailing_zeros 32 free < 24
  first_small = elim (lt_or_ge at 24) [ inl l ↦ l | inr l ↦ absurd (no_high_bit at all.fits l first.set) ]

  pub first_lowest : count_trailing_zeros 32 free ≡ lowest_free (waves_in cells)
  first_lowest =
      lowest_free_only (waves_in cells) at
      (λ m. let none = eqb→eq (get_or cells at 0) 0 (t_along (all.bits at first_small) first.set) in let z : ⊥ = omega (arith, (waves_in-law cells at m).1, none) in absurd z)
      (λ c l. let inside : c < 24 = omega (arith, first_small) in
      in_waves-law cells c inside (pos (get_or cells c 0) (λ e. first.below c l (t_along (sym (all.bits c inside)) (eq→eqb (get_or cells c 0) 0 e)))))
