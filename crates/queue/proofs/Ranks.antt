-- The first bank of a degree, by rank and number: the one of the least key, found bit by bit and word by word.
use mathlib.Core.List.{List}
use mathlib.Core.Logic.{◌⊎◌, inl, inr, ◌≢◌}
use mathlib.Core.Path.{◌≡◌, refl, sym, ◌∙◌}
use Prim.Native.Nat.{ℕ, ◌+◌, ◌*◌, ◌/◌, ◌%◌, ◌^◌, ◌<◌, ◌≤◌, min}
use native.Mathlib.Decide.{ℕ_discrete}
use native.Mathlib.Nat.{mod-lt}
use native.Mathlib.Omega.{arith}
use lib.Count.{count_trailing_zeros}
use lib.Dec.{T, ltb→lt}
use lib.ListN.{length, get_or}
use Rattle.rule.specs.Graph.{Graph}
use Rattle.rule.proofs.Booleans.{passes?, t_along, lt_or_ge}
use Rattle.rule.proofs.Degrees.{two_digits}
use Rattle.queue.specs.Queue.{test_bit, Unranked, Waiting}
use Rattle.queue.specs.inner.Words.{Head}
use Rattle.queue.specs.inner.Ties.{tied, in_degree, key_of, Candidates, KeyOfOne, Least, FirstOfDegree}
use Rattle.queue.proofs.Bits.{LowestBit, trailing, bit_shifted, bit_kept}
use Rattle.queue.proofs.Lowest.{without_lowest, lowest, rest_part, rest_above, rest_gone, rest_fits, rest_less}
use Rattle.queue.proofs.Banks.{zero_bit, word_marked, number_named}

-- a bank that comes before another has the smaller key
pub tied_key : (rs : List ℕ) (x y : ℕ) → x < 1024 → y < 1024 → T (tied rs x y) → key_of rs x < key_of rs y
unfolding tied
tied_key rs x y lx ly t = ltb→lt (key_of rs x) (key_of rs y) (t_along (sym (two_digits (get_or rs x 0) x (get_or rs y 0) y lx ly)) t)

-- ---- a word: `rest` are the bits still to be looked at, `now` is the least of p and the other keys

pub record Scan (rs : List ℕ) (bits base p rest now : ℕ) : Type 0 where
  pub fits : rest < 2 ^ 64
  pub one : (now ≡ p) ⊎ KeyOfOne rs bits base now
  pub low : now ≤ p
  pub part : (k : ℕ) → T (test_bit rest k) → T (test_bit bits k)
  pub passed : (k : ℕ) → k < 64 → T (test_bit bits k) → (T (test_bit rest k) → ⊥) → now ≤ key_of rs (base + k)

pub scan_start : {rs : List ℕ} {bits base p : ℕ} → Candidates rs bits base → Scan rs bits base p bits p
scan_start given = record { fits = given.fits; one = inl refl; low = omega arith; part = λ k t. t; passed = λ k l t n. absurd (n t) }

pub scan_end : {rs : List ℕ} {bits base p now : ℕ} → Scan rs bits base p 0 now → Least rs bits base p now
scan_end scan = record { one = scan.one; low = scan.low; first = λ k l t. scan.passed k l t (zero_bit k refl) }

module _ {rs : List ℕ} {bits base p rest now : ℕ} (scan : Scan rs bits base p rest now) (some : rest ≢ 0) where
  pub scan_lowest : LowestBit 64 rest (count_trailing_zeros 64 rest)
  scan_lowest = lowest 64 (omega arith) some scan.fits

  -- its bank has a rank
  pub scan_cell : Candidates rs bits base → base + count_trailing_zeros 64 rest < length rs
  scan_cell given = given.cells (count_trailing_zeros 64 rest) scan_lowest.inside (scan.part (count_trailing_zeros 64 rest) scan_lowest.set)

  -- a turn of the loop
  pub scan_step : {r : ℕ} → r ≡ min now (key_of rs (base + count_trailing_zeros 64 rest))
      → Scan rs bits base p (without_lowest rest) r
  scan_step {r = r} e = record {
    fits = rest_fits 64 (omega arith) some scan.fits;
    one = elim (lt_or_ge now (key_of rs (base + count_trailing_zeros 64 rest))) [
      | inl l ↦ let f : r ≡ now = omega arith in rw f scan.one
      | inr l ↦ inr (count_trailing_zeros 64 rest, scan_lowest.inside, scan.part (count_trailing_zeros 64 rest) scan_lowest.set, omega arith)
    ];
    low = omega (arith, scan.low);
    part = λ k t. scan.part k (rest_part 64 (omega arith) some scan.fits k t);
    passed = λ k l t n. elim (ℕ_discrete k (count_trailing_zeros 64 rest)) [
      | yes d ↦ rw d (omega arith)
      | no d ↦ omega (arith, scan.passed k l t (rest_gone 64 (omega arith) some scan.fits k d n))
    ];
  }

  pub scan_less : without_lowest rest < rest
  scan_less = rest_less 64 (omega arith) some scan.fits

-- ---- a degree: `marks` are the words still to be looked at, `now` is the least key of the banks in the others and of `bank`

pub record Search (rs words : List ℕ) (w marks now : ℕ) : Type 0 where
  pub fits : marks < 2 ^ 16
  pub bank : ℕ
  pub inside : bank < 1024
  pub waits : T (in_degree words w bank)
  pub own : now ≡ key_of rs bank
  pub ahead : (x : ℕ) → x < 1024 → T (in_degree words w x) → T (test_bit marks (x / 64)) → bank ≤ x
  pub passed : (x : ℕ) → x < 1024 → T (in_degree words w x) → (T (test_bit marks (x / 64)) → ⊥) → now ≤ key_of rs x

module _ {rs words : List ℕ} {w marks now : ℕ} (search : Search rs words w marks now) (some : marks ≢ 0) where
  pub search_lowest : LowestBit 16 marks (count_trailing_zeros 64 marks)
  search_lowest = lowest 16 (omega arith) some search.fits

  pub search_less : without_lowest marks < marks
  search_less = rest_less 16 (omega arith) some search.fits

-- bit k of word i of the degree is bank i * 64 + k
place : (words : List ℕ) (w i k : ℕ) → k < 64 → in_degree words w (i * 64 + k) ≡ test_bit (get_or words (w / 16 * 16 + i) 0) k
unfolding in_degree
place words w i k l =
    let word : (i * 64 + k) / 64 ≡ i = omega arith in
    let bit : (i * 64 + k) % 64 ≡ k = omega arith in
    rw (word, bit)

module _ {G : Graph} {rs words : List ℕ} {w : ℕ} (wait : Waiting G rs words) (head : Head words w) (plain : Unranked words) where
  -- the banks of the degree have ranks
  cells : (x : ℕ) → x < 1024 → T (in_degree words w x) → x < length rs
  unfolding in_degree
  cells x l t =
      let i = w / 16 * 16 + x / 64 in
      let named = number_named wait.queue plain i (x % 64) (omega (arith, head.inside)) (omega arith) t in
      let e : i % 16 * 64 + x % 64 ≡ x = omega arith in
      omega (arith, named.1, e, wait.wide_ranks)

  pub head_lowest : LowestBit 64 (get_or words w 0) (count_trailing_zeros 64 (get_or words w 0))
  head_lowest = trailing 64 (get_or words w 0) head.some (wait.queue.fits w)

  abbrev first_bank : ℕ
  first_bank = w % 16 * 64 + count_trailing_zeros 64 (get_or words w 0)

  first_waits : T (in_degree words w first_bank)
  first_waits =
      let e : w / 16 * 16 + w % 16 ≡ w = omega arith in
      t_along (sym (place words w (w % 16) (count_trailing_zeros 64 (get_or words w 0)) head_lowest.inside)) (rw e head_lowest.set)

  pub first_key : (w % 16 * 64 + count_trailing_zeros 64 (get_or words w 0) < 1024) × (w % 16 * 64 + count_trailing_zeros 64 (get_or words w 0) < length rs)
  first_key =
      let l : first_bank < 1024 = omega (arith, head_lowest.inside) in
      (l, cells first_bank l first_waits)

  -- no bank of the degree has a smaller number
  first_number : (x : ℕ) → x < 1024 → T (in_degree words w x) → first_bank ≤ x
  unfolding in_degree
  first_number x l t =
      elim (lt_or_ge x first_bank) [
        | inr k ↦ k
        | inl k ↦ elim (lt_or_ge (w / 16 * 16 + x / 64) w) [
          | inl m ↦ absurd (zero_bit (x % 64) (head.none (w / 16 * 16 + x / 64) m) t)
          | inr m ↦
              let e : w / 16 * 16 + x / 64 ≡ w = omega (arith, head_lowest.inside) in
              absurd (head_lowest.below (x % 64) (omega (arith, head_lowest.inside)) (rw e at t))
        ]
      ]

  -- the summary marks the words in which banks of the degree wait
  marked : (x : ℕ) → x < 1024 → T (in_degree words w x) → T (test_bit (get_or words (384 + w / 64) 0 / 2 ^ (w / 16 * 16 % 64) % 65536) (x / 64))
  unfolding in_degree
  marked x l t =
      let i = w / 16 * 16 + x / 64 in
      let s = get_or words (384 + w / 64) 0 in
      let e : 384 + i / 64 ≡ 384 + w / 64 = omega arith in
      let f : i % 64 ≡ w / 16 * 16 % 64 + x / 64 = omega arith in
      t_along (sym (bit_kept (s / 2 ^ (w / 16 * 16 % 64)) 16 (x / 64) (omega arith) ∙ bit_shifted s (w / 16 * 16 % 64) (x / 64)))
      (rw (e, f) at (word_marked wait.queue i (x % 64) (omega (arith, head.inside)) t))

  pub search_start : {now : ℕ} → now ≡ key_of rs (w % 16 * 64 + count_trailing_zeros 64 (get_or words w 0))
      → Search rs words w (get_or words (384 + w / 64) 0 / 2 ^ (w / 16 * 16 % 64) % 65536) now
  search_start e = record {
    fits = mod-lt (get_or words (384 + w / 64) 0 / 2 ^ (w / 16 * 16 % 64)) (omega arith);
    bank = first_bank;
    inside = first_key.0;
    waits = first_waits;
    own = e;
    ahead = λ x l t m. first_number x l t;
    passed = λ x l t n. absurd (n (marked x l t));
  }

  module _ {marks now : ℕ} (search : Search rs words w marks now) where
    found : ((x : ℕ) → x < 1024 → T (in_degree words w x) → now ≤ key_of rs x) → FirstOfDegree rs words w search.bank
    found least = record {
      inside = search.inside;
      waits = search.waits;
      first = λ x l t u. omega (arith, least x l t, tied_key rs x search.bank l search.inside u, search.own);
    }

    -- a bank of rank 0 comes before those still to be looked at, whose numbers are larger
    pub search_zero : now < 1024 → FirstOfDegree rs words w now
    search_zero z =
        let e : now ≡ search.bank = omega (arith, search.own) in
        rw e (found (λ x l t. elim (passes? (test_bit marks (x / 64))) [
          | inl m ↦ omega (arith, search.ahead x l t m)
          | inr n ↦ search.passed x l t n
        ]))

    pub search_end : marks ≡ 0 → FirstOfDegree rs words w (now % 1024)
    search_end z =
        let e : now % 1024 ≡ search.bank = omega (arith, search.own, search.inside) in
        rw e (found (λ x l t. search.passed x l t (zero_bit (x / 64) z)))

    module _ (some : marks ≢ 0) where
      abbrev i : ℕ
      i = count_trailing_zeros 64 marks

      low_inside : i < 16
      low_inside = (search_lowest search some).inside

      pub search_word : Candidates rs (get_or words (w / 16 * 16 + count_trailing_zeros 64 marks) 0) (count_trailing_zeros 64 marks * 64)
      search_word = record {
        fits = wait.queue.fits (w / 16 * 16 + i);
        small = omega (arith, low_inside);
        cells = λ k l t. cells (i * 64 + k) (omega (arith, low_inside)) (t_along (sym (place words w i k l)) t);
      }

      module _ {r : ℕ} (step : Least rs (get_or words (w / 16 * 16 + count_trailing_zeros 64 marks) 0) (count_trailing_zeros 64 marks * 64) now r) where
        abbrev marks' : ℕ
        marks' = without_lowest marks

        passed' : (x : ℕ) → x < 1024 → T (in_degree words w x) → (T (test_bit marks' (x / 64)) → ⊥) → r ≤ key_of rs x
        passed' x l t n =
            elim (ℕ_discrete (x / 64) i) [
              | yes e ↦
                  let f : x ≡ i * 64 + x % 64 = omega arith in
                  rw f (step.first (x % 64) (omega arith) (t_along (place words w i (x % 64) (omega arith)) (rw f at t)))
              | no d ↦ omega (arith, step.low, search.passed x l t (rest_gone 16 (omega arith) some search.fits (x / 64) d n))
            ]

        -- a turn of the loop
        pub search_step : Search rs words w (without_lowest marks) r
        search_step =
            elim step.one [
              | inl e ↦ record {
                fits = rest_fits 16 (omega arith) some search.fits;
                bank = search.bank;
                inside = search.inside;
                waits = search.waits;
                own = e ∙ search.own;
                ahead = λ x l t m. search.ahead x l t (rest_part 16 (omega arith) some search.fits (x / 64) m);
                passed = passed';
              }
              | inr (k, l, t, e) ↦ record {
                fits = rest_fits 16 (omega arith) some search.fits;
                bank = i * 64 + k;
                inside = omega (arith, low_inside);
                waits = t_along (sym (place words w i k l)) t;
                own = e;
                ahead = λ x h u m. omega (arith, rest_above 16 (omega arith) some search.fits (x / 64) m);
                passed = passed';
              }
            ]
