-- The bits of a queue against the banks that wait.
use mathlib.Core.Bool.{Bool, true, not}
use mathlib.Core.List.{List}
use mathlib.Core.Logic.{◌≢◌}
use mathlib.Core.Path.{◌≡◌, sym, ap, ◌∙◌}
use Prim.Native.Nat.{ℕ, ◌+◌, ◌*◌, ◌-◌, ◌/◌, ◌%◌, ◌<◌, ◌≤◌}
use native.Mathlib.Decide.{ℕ_discrete}
use native.Mathlib.Omega.{arith}
use lib.Dec.{T, eqb, eqb→eq, not_T}
use lib.ListN.{get_or}
use Rattle.rule.specs.Graph.{Graph, degree}
use Rattle.rule.proofs.Booleans.{is_true, t_along}
use Rattle.queue.specs.Queue.{test_bit, place_of, bank_at, Unranked, Places, word_of, waits, IsBit, Queue}
use Rattle.queue.specs.inner.Words.{HasBit, Written}
use Rattle.queue.proofs.Bits.{bit_none}

-- 0 has no bit
pub zero_bit : {a : ℕ} (k : ℕ) → a ≡ 0 → T (test_bit a k) → ⊥
zero_bit k e t = t_along (ap (λ (x : ℕ). test_bit x k) e ∙ bit_none k) t

-- a number with a bit is not 0
pub not_zero : (a k : ℕ) → T (test_bit a k) → not (eqb a 0) ≡ true
not_zero a k t = is_true (not (eqb a 0)) (not_T (eqb a 0) (λ z. zero_bit k (eqb→eq a 0 z) t))

-- a word in which a bank waits has its bit in the summary
pub word_marked : {G : Graph} {q : List ℕ} → Queue G q → (i k : ℕ) → i < 384 → T (test_bit (get_or q i 0) k) → T (test_bit (get_or q (384 + i / 64) 0) (i % 64))
word_marked {q = q} queue i k l t = t_along (sym (queue.summary i l ∙ not_zero (get_or q i 0) k t)) tt

-- ---- the words

module _ (G : Graph) {q : List ℕ} (places : Places G.banks G.rank q) where
  -- distinct banks have distinct bits
  same_bank : (x y : ℕ) → x < G.banks → y < G.banks → word_of G q x ≡ word_of G q y → place_of q x % 64 ≡ place_of q y % 64 → x ≡ y
  same_bank x y lx ly e d =
      let same : place_of q x ≡ place_of q y = omega (arith, places.inside x lx, places.inside y ly) in
      sym (places.back x lx) ∙ ap (bank_at q) same ∙ places.back y ly

  -- the word of a bank is one of the first 384
  pub word_inside : (x : ℕ) → x < G.banks → word_of G q x < 384
  word_inside x lx = omega (arith, places.inside x lx)

-- where the places are numbers, a bit's bank is its place
pub number_named : {G : Graph} {q : List ℕ} → Queue G q → Unranked q → (i k : ℕ) → i < 384 → k < 64 → T (test_bit (get_or q i 0) k)
    → (bank_at q (i % 16 * 64 + k) ≡ i % 16 * 64 + k) × (i % 16 * 64 + k < G.banks)
number_named {q = q} queue plain i k l m t =
    let n = queue.names i k l m t in
    let e : bank_at q (i % 16 * 64 + k) ≡ i % 16 * 64 + k = sym (queue.places.numbered plain (bank_at q (i % 16 * 64 + k)) n.bank) ∙ n.place in
    (e, omega (arith, n.bank))

-- words of which only bits changed keep their places
pub places_kept : {banks : ℕ} {rank : ℕ → ℕ} {q q' : List ℕ} → ((i : ℕ) → 390 ≤ i → get_or q' i 0 ≡ get_or q i 0) → Places banks rank q → Places banks rank q'
places_kept {q = q} {q' = q'} same places = record {
  inside = λ x l. rw (place x) (places.inside x l);
  back = λ x l. ap (bank_at q') (place x) ∙ same (1414 + place_of q x) (omega arith) ∙ places.back x l;
  numbered = λ plain x l. place x ∙ places.numbered (sym flag ∙ plain) x l;
  ranked = λ by x y lx ly t. rw (place x, place y) (places.ranked (λ plain. by (flag ∙ plain)) x y lx ly t);
}
  where
    place : (x : ℕ) → place_of q' x ≡ place_of q x
    place x = same (390 + x) (omega arith)

    flag : get_or q' 2438 0 ≡ get_or q 2438 0
    flag = same 2438 (omega arith)

-- ---- the bit of v, and that of its word in the summary, written

module _ {G : Graph} {q q₁ q₂ : List ℕ} {v w k : ℕ} {value mark : Bool} (queue : Queue G q) (bank : v < G.banks) (own_word : w ≡ word_of G q v) (own_bit : k ≡ place_of q v % 64)
    (one : Written q q₁ w k value) (two : Written q₁ q₂ (384 + w / 64) (w % 64) mark) where
  inside : w < 384
  inside = omega (arith, word_inside G queue.places v bank)

  -- the first 384 words are as the first step left them
  after_one : (i : ℕ) → i < 384 → get_or q₂ i 0 ≡ get_or q₁ i 0
  after_one i l = two.elsewhere i (λ e. omega arith)

  -- the words after those of bits stay
  same_places : (i : ℕ) → 390 ≤ i → get_or q₂ i 0 ≡ get_or q i 0
  same_places i l = two.elsewhere i (λ e. omega (arith, inside)) ∙ one.elsewhere i (λ e. omega (arith, inside))

  place_kept : (x : ℕ) → place_of q₂ x ≡ place_of q x
  place_kept x = same_places (390 + x) (omega arith)

  word_kept : (x : ℕ) → word_of G q₂ x ≡ word_of G q x
  word_kept x = ap (λ (p : ℕ). (23 - degree G x) * 16 + p / 64) (place_kept x)

  -- no bit changed but that of v
  kept : (i m : ℕ) → i < 384 → (i ≡ w → m ≡ k → ⊥) → test_bit (get_or q₂ i 0) m ≡ test_bit (get_or q i 0) m
  kept i m l n =
      ap (λ (a : ℕ). test_bit a m) (after_one i l)
      ∙ elim (ℕ_discrete i w) [ yes e ↦ rw e (one.others m (n e)) | no d ↦ ap (λ (a : ℕ). test_bit a m) (one.elsewhere i d) ]

  is_kept : (i m : ℕ) → IsBit G q i m (bank_at q (i % 16 * 64 + m)) → IsBit G q₂ i m (bank_at q₂ (i % 16 * 64 + m))
  is_kept i m n =
      rw (same_places (1414 + (i % 16 * 64 + m)) (omega arith))
      (record { bank = n.bank; place = place_kept (bank_at q (i % 16 * 64 + m)) ∙ n.place; word = n.word ∙ sym (word_kept (bank_at q (i % 16 * 64 + m))) })

  written_names : (i m : ℕ) → i < 384 → m < 64 → T (test_bit (get_or q₂ i 0) m) → IsBit G q₂ i m (bank_at q₂ (i % 16 * 64 + m))
  written_names i m l s t = is_kept i m (go (ℕ_discrete i w) (ℕ_discrete m k))
    where
      go : Dec (i ≡ w) → Dec (m ≡ k) → IsBit G q i m (bank_at q (i % 16 * 64 + m))
      go (yes e) (yes f) =
          let own : i % 16 * 64 + m ≡ place_of q v = omega (arith, queue.places.inside v bank) in
          let same : bank_at q (i % 16 * 64 + m) ≡ v = ap (bank_at q) own ∙ queue.places.back v bank in
          rw same (record { bank = bank; place = sym own; word = e ∙ own_word })
      go (no n) d = queue.names i m l s (t_along (kept i m l (λ e f. n e)) t)
      go (yes e) (no n) = queue.names i m l s (t_along (kept i m l (λ e f. n f)) t)

  -- of the summary no bit changed but that of w
  kept_summary : (i : ℕ) → i < 384 → i ≢ w → test_bit (get_or q₂ (384 + i / 64) 0) (i % 64) ≡ test_bit (get_or q (384 + i / 64) 0) (i % 64)
  kept_summary i l n =
      elim (ℕ_discrete (i / 64) (w / 64)) [
        | yes e ↦ rw e (two.others (i % 64) (λ f. n (omega arith)))
        | no d ↦ ap (λ (a : ℕ). test_bit a (i % 64)) (two.elsewhere (384 + i / 64) (λ e. d (omega arith)))
      ]
      ∙ ap (λ (a : ℕ). test_bit a (i % 64)) (one.elsewhere (384 + i / 64) (λ e. omega (arith, inside)))

  -- it is a queue if the summary is right
  pub written_queue : mark ≡ not (eqb (get_or q₁ w 0) 0) → Queue G q₂
  written_queue right = record {
    long = two.long;
    fits = two.fits;
    places = places_kept same_places queue.places;
    names = written_names;
    summary = λ i l. rw (after_one i l) (elim (ℕ_discrete i w) [
      | yes e ↦ rw e (two.own ∙ right)
      | no n ↦ kept_summary i l n ∙ queue.summary i l ∙ ap (λ (a : ℕ). not (eqb a 0)) (sym (one.elsewhere i n))
    ]);
  }

  -- of the members only v can have changed
  pub written_own : waits G q₂ v ≡ value
  unfolding waits
  written_own = rw (place_kept v, ← own_word, ← own_bit, after_one w inside) one.own

  pub written_other : (x : ℕ) → x < G.banks → x ≢ v → waits G q₂ x ≡ waits G q x
  unfolding waits
  written_other x lx n =
      rw (place_kept x) (kept (word_of G q x) (place_of q x % 64) (word_inside G queue.places x lx)
      (λ e f. n (same_bank G queue.places x v lx bank (e ∙ own_word) (f ∙ own_bit))))

-- what the two steps ask of the words
pub word_bits : {G : Graph} {q : List ℕ} {w k : ℕ} → Queue G q → w < 384 → k < 64 → HasBit q w k
word_bits queue l m = record { word = omega arith; place = m; long = queue.long; fits = queue.fits }

pub summary_bits : {q q₁ : List ℕ} {w k : ℕ} {value : Bool} → w < 384 → Written q q₁ w k value → HasBit q₁ (384 + w / 64) (w % 64)
summary_bits l one = record { word = omega arith; place = omega arith; long = one.long; fits = one.fits }
