-- A bank put into the queue.
use mathlib.Core.Bool.{Bool, true, false, ◌||◌, not}
use mathlib.Core.List.{List}
use mathlib.Core.Path.{◌≡◌, refl, sym, ap, ◌∙◌}
use Prim.Native.Nat.{ℕ, ◌+◌, ◌*◌, ◌-◌, ◌/◌, ◌%◌, ◌^◌, ◌<◌}
use native.Mathlib.Decide.{ℕ_discrete}
use native.Mathlib.Omega.{arith}
use lib.Count.{count_trailing_zeros}
use lib.Dec.{T, eqb, eqb→eq}
use lib.ListN.{get_or}
use Rattle.rule.specs.Graph.{Graph}
use Rattle.rule.proofs.Booleans.{test_ext, t_along, or_false, and_true, eq→eqb, and_false}
use Rattle.queue.specs.Queue.{test_bit, place_of, word_of, waits, Enqueuable, Enqueued}
use Rattle.queue.specs.inner.Words.{HasBit, Written}
use Rattle.queue.proofs.Bits.{trailing}
use Rattle.queue.proofs.Writing.{or_true, own_place, other_place}
use Rattle.queue.proofs.Banks.{zero_bit, not_zero, word_inside, word_bits, written_queue, written_own, written_other}

-- numbers with the same bits are 0 together
same_zero : {a b : ℕ} → a < 2 ^ 64 → b < 2 ^ 64 → ((m : ℕ) → test_bit a m ≡ test_bit b m) → eqb a 0 ≡ eqb b 0
same_zero {a} {b} la lb same =
    test_ext (eqb a 0) (eqb b 0)
    (λ t. none_set (eqb→eq a 0 t) lb same)
    (λ t. none_set (eqb→eq b 0 t) la (λ m. sym (same m)))
  where
    none_set : {c d : ℕ} → c ≡ 0 → d < 2 ^ 64 → ((m : ℕ) → test_bit c m ≡ test_bit d m) → T (eqb d 0)
    none_set {c} {d} z l e =
        elim (ℕ_discrete d 0) [
          | yes f ↦ eq→eqb d 0 f
          | no n ↦ absurd (zero_bit (count_trailing_zeros 64 d) z (t_along (sym (e (count_trailing_zeros 64 d))) (trailing 64 d n l).set))
        ]

module _ {G : Graph} {q : List ℕ} {v d : ℕ} (line : Enqueuable G q v d) where
  abbrev place : ℕ
  place = place_of q v

  abbrev w : ℕ
  w = (23 - d) * 16 + place / 64

  own_word : w ≡ word_of G q v
  own_word = rw line.own_degree

  pub place_small : place_of q v < 1024
  place_small = line.queue.places.inside v line.bank

  pub inside : (23 - d) * 16 + place_of q v / 64 < 384
  inside = omega (arith, own_word, word_inside G line.queue.places v line.bank)

  pub own_bits : HasBit q ((23 - d) * 16 + place_of q v / 64) (place_of q v % 64)
  own_bits = word_bits line.queue inside (omega arith)

  module _ {q₁ q₂ : List ℕ} (put : Bool) (one : Written q q₁ w (place % 64) (test_bit (get_or q w 0) (place % 64) || put))
      (two : Written q₁ q₂ (384 + w / 64) (w % 64) (test_bit (get_or q₁ (384 + w / 64) 0) (w % 64) || put)) where
    abbrev mark : Bool
    mark = test_bit (get_or q₁ (384 + w / 64) 0) (w % 64)

    -- the word's bit in the summary, before
    old_mark : mark ≡ not (eqb (get_or q w 0) 0)
    old_mark = ap (λ (a : ℕ). test_bit a (w % 64)) (one.elsewhere (384 + w / 64) (λ e. omega (arith, inside))) ∙ line.queue.summary w inside

    mark_right : (p : Bool) → test_bit (get_or q₁ w 0) (place % 64) ≡ (test_bit (get_or q w 0) (place % 64) || p) → (mark || p) ≡ not (eqb (get_or q₁ w 0) 0)
    mark_right true own = or_true mark ∙ sym (not_zero (get_or q₁ w 0) (place % 64) (t_along (sym (own ∙ or_true (test_bit (get_or q w 0) (place % 64)))) tt))
    mark_right false own =
        or_false mark ∙ old_mark
        ∙ ap not (same_zero (line.queue.fits w) (one.fits w) (λ m. elim (ℕ_discrete m (place % 64)) [
          | yes e ↦ rw e (sym (own ∙ or_false (test_bit (get_or q w 0) (place % 64))))
          | no n ↦ sym (one.others m n)
        ]))

    own_after : waits G q₂ v ≡ (waits G q v || put)
    unfolding waits
    own_after = written_own line.queue line.bank own_word refl one two ∙ ap (λ (i : ℕ). test_bit (get_or q i 0) (place % 64) || put) own_word

    -- what `enqueue` does
    pub enqueued : Enqueued G q q₂ v put
    enqueued = record {
      queue = written_queue line.queue line.bank own_word refl one two (mark_right put one.own);
      members = λ x l. elim (ℕ_discrete x v) [
        | yes e ↦ rw (e, own_place v) (own_after ∙ ap (λ (t : Bool). waits G q v || t) (sym (and_true put)))
        | no n ↦ rw (other_place n, and_false) (written_other line.queue line.bank own_word refl one two x l n ∙ sym (or_false (waits G q x)))
      ];
    }
