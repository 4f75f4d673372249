-- Laws of queues, for those who use them.
use mathlib.Core.Bool.{Bool, true, false, not}
use mathlib.Core.List.{List}
use mathlib.Core.Logic.{inl, inr}
use mathlib.Core.Path.{◌≡◌, sym, ap, ap₂, ◌∙◌}
use Prim.Native.Nat.{ℕ, ◌+◌, ◌*◌, ◌-◌, ◌/◌, ◌%◌, ◌^◌, ◌<◌, ◌≤◌}
use native.Mathlib.Decide.{ℕ_discrete}
use native.Mathlib.Omega.{arith}
use lib.Count.{count_trailing_zeros}
use lib.Dec.{T, eqb}
use lib.ListN.{length, get_or}
use Rattle.rule.specs.Graph.{Graph}
use Rattle.rule.proofs.Booleans.{lt_or_ge, t_along}
use Rattle.queue.specs.Queue.{test_bit, place_of, bank_at, Unranked, Places, word_of, waits, Queue, Keyed, Empty, TellsEmpty, Waiting, Idle}
use Rattle.queue.proofs.Bits.{bit_none, trailing}
use Rattle.queue.proofs.Banks.{zero_bit, word_inside}

-- a number without bits is 0
no_bits : (w a : ℕ) → a < 2 ^ w → ((k : ℕ) → k < w → T (test_bit a k) → ⊥) → a ≡ 0
no_bits w a l none = elim (ℕ_discrete a 0) [ yes e ↦ e | no n ↦ let low = trailing w a n l in absurd (none (count_trailing_zeros w a) low.inside low.set) ]

-- places for other ranks that are equal
pub places_along : {banks : ℕ} {rank rank' : ℕ → ℕ} {words : List ℕ} → ((x : ℕ) → x < banks → rank x ≡ rank' x) → Places banks rank words → Places banks rank' words
places_along same places = record {
  inside = places.inside;
  back = places.back;
  numbered = places.numbered;
  ranked = λ by x y lx ly t. places.ranked by x y lx ly (rw (same x lx, same y ly) t);
}

module _ {banks : ℕ} {rs words : List ℕ} (idle : Idle banks rs words) (G : Graph) (same : banks ≡ G.banks) (ranks : (b : ℕ) → b < G.banks → get_or rs b 0 ≡ G.rank b) where
  no_bit : (i k : ℕ) → i < 390 → test_bit (get_or words i 0) k ≡ false
  no_bit i k l = ap (λ (a : ℕ). test_bit a k) (idle.zeros i l) ∙ bit_none k

  idle_places : Places G.banks G.rank words
  idle_places = places_along ranks (rw same at idle.places)

  -- an idle queue is one
  pub idle_queue : Queue G words
  idle_queue = record {
    long = idle.long;
    fits = idle.fits;
    places = idle_places;
    names = λ i k l m t. absurd (zero_bit k (idle.zeros i (omega arith)) t);
    summary = λ i l. no_bit (384 + i / 64) (i % 64) (omega arith) ∙ ap (λ (a : ℕ). not (eqb a 0)) (sym (idle.zeros i (omega arith)));
  }

  -- and no bank is in it
  pub idle_empty : (x : ℕ) → x < G.banks → waits G words x ≡ false
  unfolding waits
  idle_empty x l = no_bit (word_of G words x) (place_of words x % 64) (omega (arith, word_inside G idle_places x l))

-- a queue in which no bank waits is idle
module _ {G : Graph} {words : List ℕ} (queue : Queue G words) (none : Empty G words) where
  no_bit_here : (i k : ℕ) → i < 384 → k < 64 → T (test_bit (get_or words i 0) k) → ⊥
  unfolding waits
  no_bit_here i k l m t =
      let x = bank_at words (i % 16 * 64 + k) in
      let n = queue.names i k l m t in
      let e : place_of words x % 64 ≡ k = omega (arith, n.place) in
      none x n.bank (rw (← n.word, e) t)

  word_empty : (i : ℕ) → i < 384 → get_or words i 0 ≡ 0
  word_empty i l = no_bits 64 (get_or words i 0) (queue.fits i) (λ k. no_bit_here i k l)

  summary_empty : (i : ℕ) → 384 ≤ i → i < 390 → get_or words i 0 ≡ 0
  summary_empty i l m = no_bits 64 (get_or words i 0) (queue.fits i) (λ k h t.
      let j = (i - 384) * 64 + k in
      let a : 384 + j / 64 ≡ i = omega arith in
      let b : j % 64 ≡ k = omega arith in
      let s : test_bit (get_or words (384 + j / 64) 0) (j % 64) ≡ not (eqb (get_or words j 0) 0) = queue.summary j (omega arith) in
      absurd (t_along (sym (ap₂ (λ (x y : ℕ). test_bit (get_or words x 0) y) a b) ∙ s ∙ ap (λ (x : ℕ). not (eqb x 0)) (word_empty j (omega arith))) t))

  pub queue_idle : Keyed G → (rs : List ℕ) → ((b : ℕ) → b < G.banks → get_or rs b 0 ≡ G.rank b) → Idle G.banks rs words
  queue_idle keyed rs ranks = record {
    few = keyed.few;
    long = queue.long;
    fits = queue.fits;
    places = places_along (λ x l. sym (ranks x l)) queue.places;
    zeros = λ i l. elim (lt_or_ge i 384) [ inl m ↦ word_empty i m | inr m ↦ summary_empty i m l ];
  }

-- as long as no rank was read, an idle queue can serve others
pub reranked : {banks : ℕ} {rs words : List ℕ} → Idle banks rs words → Unranked words → (others : List ℕ) → Idle banks others words
reranked idle plain others = record {
  few = idle.few;
  long = idle.long;
  fits = idle.fits;
  places = record {
    inside = idle.places.inside;
    back = idle.places.back;
    numbered = idle.places.numbered;
    ranked = λ by. absurd (by plain);
  };
  zeros = idle.zeros;
}

-- what `is_empty` said, as the code tests it
module _ {G : Graph} {words : List ℕ} {r : Bool} (tells : TellsEmpty G words r) where
  pub none_waits : r ≡ true → Empty G words
  none_waits e = tells.none e

  pub some_waits : {rs : List ℕ} → Keyed G → Queue G words → G.banks ≤ length rs → ((b : ℕ) → b < G.banks → get_or rs b 0 ≡ G.rank b) → r ≡ false → Waiting G rs words
  some_waits keyed queue wide ranks e = record { keyed = keyed; queue = queue; some = tells.some e; wide_ranks = wide; ranks = ranks }
