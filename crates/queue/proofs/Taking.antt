-- The earliest bank taken out of the queue.
use mathlib.Core.Bool.{Bool, false, not}
use mathlib.Core.List.{List}
use mathlib.Core.Logic.{inl, inr}
use mathlib.Core.Path.{◌≡◌, refl, sym, ap, subst}
use Prim.Native.Nat.{ℕ, ◌+◌, ◌*◌, ◌-◌, ◌/◌, ◌%◌, ◌<◌}
use native.Mathlib.Decide.{ℕ_discrete}
use native.Mathlib.Omega.{arith}
use lib.Count.{count_trailing_zeros}
use lib.Dec.{T, eqb, eqb→eq, T_not, not_T}
use lib.ListN.{get_or}
use Rattle.rule.specs.Graph.{Graph, degree, earlier}
use Rattle.rule.proofs.Booleans.{t_along, and_true, eq→eqb, lt_or_ge, and_false}
use Rattle.rule.proofs.Degrees.{earlier_degree, earlier_tie}
use Rattle.queue.specs.Queue.{test_bit, place_of, bank_at, Unranked, word_of, waits, IsBit, Queue, Empty, TellsEmpty, Waiting, Dequeued}
use Rattle.queue.specs.inner.Words.{HasBit, Written, First, Head}
use Rattle.queue.specs.inner.Ties.{tied, in_degree, FirstOfDegree, FirstPlace}
use Rattle.queue.proofs.Bits.{LowestBit, trailing}
use Rattle.queue.proofs.Writing.{own_place, other_place}
use Rattle.queue.proofs.Banks.{zero_bit, word_marked, word_inside, word_bits, written_queue, written_own, written_other}

module _ {G : Graph} {q : List ℕ} (queue : Queue G q) where
  -- a word whose bit in the summary is not set is 0
  unmarked : (i : ℕ) → i < 384 → (T (test_bit (get_or q (384 + i / 64) 0) (i % 64)) → ⊥) → get_or q i 0 ≡ 0
  unmarked i l n =
      elim (ℕ_discrete (get_or q i 0) 0) [
        | yes e ↦ e
        | no d ↦ absurd (n (t_along (sym (queue.summary i l)) (not_T (eqb (get_or q i 0) 0) (λ t. d (eqb→eq (get_or q i 0) 0 t)))))
      ]

  -- the first bit of the first word of the summary leads to the first word that is not 0
  module _ {s : ℕ} (first : First q s) (inside : s < 390) where
    abbrev mark : ℕ
    mark = count_trailing_zeros 64 (get_or q s 0)

    pub lowest_mark : LowestBit 64 (get_or q s 0) mark
    lowest_mark = trailing 64 (get_or q s 0) (first.some inside) (queue.fits s)

    abbrev word : ℕ
    word = (s - 384) * 64 + mark

    word_less : word < 384
    word_less = omega (arith, lowest_mark.inside, first.low)

    marked : T (not (eqb (get_or q word 0) 0))
    marked =
        let e : 384 + word / 64 ≡ s = omega (arith, lowest_mark.inside, first.low) in
        let f : word % 64 ≡ mark = omega (arith, lowest_mark.inside) in
        t_along (queue.summary word word_less) (rw (e, f) lowest_mark.set)

    pub head_word : Head q ((s - 384) * 64 + count_trailing_zeros 64 (get_or q s 0))
    head_word = record {
      inside = word_less;
      some = λ e. T_not (eqb (get_or q word 0) 0) marked (eq→eqb (get_or q word 0) 0 e);
      none = λ i l. unmarked i (omega (arith, word_less)) (λ t. elim (lt_or_ge (384 + i / 64) s) [
        | inl k ↦ zero_bit (i % 64) (first.none (384 + i / 64) (omega arith) k) t
        | inr k ↦
            let e : 384 + i / 64 ≡ s = omega (arith, lowest_mark.inside, first.low) in
            lowest_mark.below (i % 64) (omega (arith, lowest_mark.inside, first.low)) (rw e at t)
      ]);
    }

  -- no bank waits if the summary is 0
  pub none_wait : First q 390 → Empty G q
  unfolding waits
  none_wait first x lx t =
      let i = word_of G q x in
      let l = word_inside G queue.places x lx in
      zero_bit (place_of q x % 64) (unmarked i l (zero_bit (i % 64) (first.none (384 + i / 64) (omega arith) (omega arith)))) t

  -- the lowest bit of the first word that is not 0
  module _ {w : ℕ} (head : Head q w) where
    abbrev low : ℕ
    low = count_trailing_zeros 64 (get_or q w 0)

    abbrev bank : ℕ
    bank = bank_at q (w % 16 * 64 + low)

    lowest : LowestBit 64 (get_or q w 0) (count_trailing_zeros 64 (get_or q w 0))
    lowest = trailing 64 (get_or q w 0) head.some (queue.fits w)

    named : IsBit G q w low bank
    named = queue.names w low head.inside lowest.inside lowest.set

    own_bit : low ≡ place_of q bank % 64
    own_bit = omega (arith, lowest.inside, named.place)

    head_waits : T (waits G q bank)
    unfolding waits
    head_waits = rw (← named.word, ← own_bit) lowest.set

    -- a bank waits
    pub one_waits : Empty G q → ⊥
    one_waits none = none bank named.bank head_waits

-- the place of the first bank of a degree
module _ {G : Graph} {rs q : List ℕ} (wait : Waiting G rs q) {w : ℕ} (head : Head q w) where
  -- the bank of a place that waits in the degree
  pub place_named : {r : ℕ} → r < 1024 → T (in_degree q w r) → IsBit G q (w / 16 * 16 + r / 64) (r % 64) (bank_at q r)
  unfolding in_degree
  place_named {r = r} l t =
      let e : (w / 16 * 16 + r / 64) % 16 * 64 + r % 64 ≡ r = omega arith in
      subst (λ (p : ℕ). IsBit G q (w / 16 * 16 + r / 64) (r % 64) (bank_at q p)) e (wait.queue.names (w / 16 * 16 + r / 64) (r % 64) (omega (arith, head.inside)) (omega arith) t)

  -- by number: ranks are looked through
  pub by_number : Unranked q → {r : ℕ} → FirstOfDegree rs q w r → FirstPlace G q w r
  unfolding tied
  by_number plain {r} found =
      let n = place_named found.inside found.waits in
      let own : bank_at q r ≡ r = omega (arith, n.place, wait.queue.places.numbered plain (bank_at q r) n.bank) in
      record {
        inside = found.inside;
        waits = found.waits;
        first = λ x l t u.
            let place = wait.queue.places.numbered plain x l in
            found.first x (omega (arith, wait.keyed.few)) (rw place at t)
            (rw (wait.ranks x l, wait.ranks r (omega (arith, n.bank))) (rw own at u));
      }

  pub head_bit : LowestBit 64 (get_or q w 0) (count_trailing_zeros 64 (get_or q w 0))
  head_bit = trailing 64 (get_or q w 0) head.some (wait.queue.fits w)

  -- by rank: the lowest place
  pub by_rank : (Unranked q → ⊥) → FirstPlace G q w (w % 16 * 64 + count_trailing_zeros 64 (get_or q w 0))
  unfolding in_degree
  by_rank by =
      let r = w % 16 * 64 + count_trailing_zeros 64 (get_or q w 0) in
      let word : w / 16 * 16 + r / 64 ≡ w = omega (arith, head_bit.inside) in
      let bit : r % 64 ≡ count_trailing_zeros 64 (get_or q w 0) = omega (arith, head_bit.inside) in
      let small : r < 1024 = omega (arith, head_bit.inside) in
      let here : T (in_degree q w r) = rw (word, bit) head_bit.set in
      let n = place_named small here in
      record {
        inside = small;
        waits = here;
        first = λ x l t u. lowest_place x l t
            (omega (arith, n.place, word, bit, wait.queue.places.ranked by x (bank_at q r) l n.bank u));
      }
    where
      lowest_place : (x : ℕ) → x < G.banks → T (test_bit (get_or q (w / 16 * 16 + place_of q x / 64) 0) (place_of q x % 64)) → place_of q x < w % 16 * 64 + count_trailing_zeros 64 (get_or q w 0) → ⊥
      lowest_place x l t k =
          elim (lt_or_ge (w / 16 * 16 + place_of q x / 64) w) [
            | inl m ↦ zero_bit (place_of q x % 64) (head.none (w / 16 * 16 + place_of q x / 64) m) t
            | inr m ↦
                let e : w / 16 * 16 + place_of q x / 64 ≡ w = omega (arith, head_bit.inside) in
                head_bit.below (place_of q x % 64) (omega (arith, head_bit.inside)) (rw e at t)
          ]

-- the first bank of the first degree that has one
module _ {G : Graph} {rs q : List ℕ} (wait : Waiting G rs q) {w r : ℕ} (head : Head q w) (found : FirstPlace G q w r) where
  abbrev spot : ℕ
  spot = w / 16 * 16 + r / 64

  abbrev h : ℕ
  h = bank_at q r

  pub spot_less : w / 16 * 16 + r / 64 < 384
  spot_less = omega (arith, head.inside, found.inside)

  pub has_bit : HasBit q (w / 16 * 16 + r / 64) (r % 64)
  has_bit = word_bits wait.queue spot_less (omega arith)

  pub bit_set : T (test_bit (get_or q (w / 16 * 16 + r / 64) 0) (r % 64))
  unfolding in_degree
  bit_set = found.waits

  found_named : IsBit G q (w / 16 * 16 + r / 64) (r % 64) (bank_at q r)
  found_named = place_named wait head found.inside found.waits

  found_place : place_of q h ≡ r
  found_place = omega (arith, found_named.place, found.inside)

  pub found_bank : bank_at q r < 1024
  found_bank = omega (arith, found_named.bank, wait.keyed.few)

  found_waits : T (waits G q h)
  unfolding waits
  found_waits = rw (← found_named.word, found_place) bit_set

  -- a bank of a higher degree would stand in a word before the first; in the same degree rank and number decide
  found_first : (x : ℕ) → x < G.banks → T (waits G q x) → T (earlier G x h) → ⊥
  unfolding waits in_degree
  found_first x lx t e =
      let px = wait.queue.places.inside x lx in
      let sx = wait.keyed.small x lx in
      let sh = wait.keyed.small h found_named.bank in
      elim (lt_or_ge (degree G h) (degree G x)) [
        | inl l ↦ zero_bit (place_of q x % 64) (head.none (word_of G q x) (omega (arith, found_named.word, found_place, found.inside))) t
        | inr l ↦
            let d : degree G x ≡ degree G h = omega (arith, earlier_degree G x h e) in
            let i : word_of G q x ≡ w / 16 * 16 + place_of q x / 64 = omega (arith, found_named.word, found_place, found.inside) in
            found.first x lx (rw i at t) (t_along (earlier_tie G x h d) e)
      ]

  -- its word has its bit in the summary, also once it is written
  pub still_marked : {q₁ : List ℕ} {value : Bool} → Written q q₁ (w / 16 * 16 + r / 64) (r % 64) value
      → T (test_bit (get_or q₁ (384 + (w / 16 * 16 + r / 64) / 64) 0) ((w / 16 * 16 + r / 64) % 64))
  still_marked one =
      t_along (sym (ap (λ (a : ℕ). test_bit a (spot % 64)) (one.elsewhere (384 + spot / 64) (λ e. omega (arith, spot_less))))) (word_marked wait.queue spot (r % 64) spot_less bit_set)

  own_bit' : r % 64 ≡ place_of q h % 64
  own_bit' = ap (λ (p : ℕ). p % 64) (sym found_place)

  -- what `dequeue` does
  pub dequeued : {q₁ q₂ : List ℕ} → Written q q₁ (w / 16 * 16 + r / 64) (r % 64) false
      → Written q₁ q₂ (384 + (w / 16 * 16 + r / 64) / 64) ((w / 16 * 16 + r / 64) % 64) (not (eqb (get_or q₁ (w / 16 * 16 + r / 64) 0) 0)) → Dequeued G q q₂ (bank_at q r)
  dequeued one two = record {
    queue = written_queue wait.queue found_named.bank found_named.word own_bit' one two refl;
    next = record { bank = found_named.bank; waits = found_waits; first = found_first };
    members = λ x l. elim (ℕ_discrete x h) [
      | yes e ↦ rw (e, own_place h, and_false) (written_own wait.queue found_named.bank found_named.word own_bit' one two)
      | no n ↦ rw (other_place n, and_true) (written_other wait.queue found_named.bank found_named.word own_bit' one two x l n)
    ];
  }

-- some bank waits, so the summary is not 0
pub summary_inside : {G : Graph} {rs q : List ℕ} {s : ℕ} → Waiting G rs q → First q s → s < 390
summary_inside {s = s} wait first =
    elim (lt_or_ge s 390) [
      | inl l ↦ l
      | inr l ↦ absurd (wait.some (none_wait wait.queue (let e : s ≡ 390 = omega (arith, first.high) in rw e at first)))
    ]

-- what `is_empty` answers
pub tells_empty : {G : Graph} {q : List ℕ} {s : ℕ} → Queue G q → First q s → TellsEmpty G q (eqb s 390)
tells_empty {s = s} queue first = record {
  none = λ e. none_wait queue (let f : s ≡ 390 = eqb→eq s 390 (t_along (sym e) tt) in rw f at first);
  some = λ e. one_waits queue (head_word queue first (elim (lt_or_ge s 390) [
    | inl l ↦ l
    | inr l ↦ absurd (t_along e (eq→eqb s 390 (omega (arith, first.high))))
  ]));
}
