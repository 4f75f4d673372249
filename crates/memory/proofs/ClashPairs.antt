-- The tally's clashes are the pairs that clash, each counted at both of its banks; and one clash more makes them one more.
use mathlib.Core.Bool.{Bool}
use mathlib.Core.List.{List, [], ◌∷◌, map, flat_map, foldr}
use mathlib.Core.Logic.{inl, inr, ◌≢◌}
use mathlib.Core.Path.{◌≡◌, refl, ap, ◌∙◌}
use native.Mathlib.Decide.{ℕ_discrete}
use native.Mathlib.Omega.{arith}
use Prim.Native.Nat.{ℕ, zero, suc, ◌+◌, ◌*◌, ◌≤◌, ◌<◌}
use lib.Dec.{eqb}
use lib.ListN.{length, length-append, length-map}
use Rattle.rule.specs.Lists.{upto, filter}
use Rattle.rule.specs.Graph.{Graph, neighbours, degree}
use Rattle.rule.proofs.Booleans.{lt_or_ge}
use Rattle.rule.proofs.Lists.{upto_below, filter_cong, filter_append}
use Rattle.memory.specs.Plan.{clash_count, Clashes}
use Rattle.memory.specs.Pairs.{clashes_below, pairs}
use Rattle.memory.proofs.Agree.{fold_cong}
use Rattle.memory.proofs.Standing.{bit, bit_none, bit_yes, bit_no, kept}
use Rattle.memory.proofs.Sums.{sum_upto}

-- the sum of f over the list
abbrev sum : (ℕ → ℕ) → List ℕ → ℕ
sum f xs = foldr (λ b m. f b + m) 0 xs

-- one more for each that passes a test
sum_bits : (f : ℕ → ℕ) (p : ℕ → Bool) (xs : List ℕ) → sum (λ b. f b + bit (p b)) xs ≡ sum f xs + length (filter p xs)
unfolding filter
sum_bits f p [] = refl
sum_bits f p (x ∷ xs) = omega (arith, kept (p x) x (filter p xs), sum_bits f p xs)

count_next : (p : ℕ → Bool) (n : ℕ) → length (filter p (upto (suc n))) ≡ length (filter p (upto n)) + bit (p n)
unfolding upto filter
count_next p n =
    ap length (filter_append p (upto n) (n ∷ []))
    ∙ length-append (filter p (upto n)) (filter p (n ∷ []))
    ∙ (unfold filter in omega (arith, kept (p n) n []))

length_pairs : (f : ℕ → List ℕ) (bs : List ℕ) → length {A = ℕ × ℕ} (flat_map (λ b. map (λ a. (a, b)) (f b)) bs) ≡ sum (λ b. length (f b)) bs
unfolding flat_map
length_pairs f [] = refl
length_pairs f (b ∷ bs) =
    let at : ℕ → ℕ → ℕ × ℕ = λ b a. (a, b) in
    omega (arith, length-append (map (at b) (f b)) (flat_map (λ b. map (at b) (f b)) bs), length-map (f b) (at b), length_pairs f bs)

-- among the first n banks: a bank's clashes, and twice the pairs
module _ (G : Graph) (good : Clashes G) where
  abbrev among : ℕ → ℕ → ℕ
  among n b = length (filter (G.clash b) (upto n))

  abbrev below : ℕ → ℕ
  below b = length (clashes_below G b)

  below_is : (n : ℕ) → n < G.banks → among n n ≡ below n
  below_is n h =
      ap length (filter_cong (G.clash n) (λ a. G.clash a n) (upto n) (λ a m.
      let l = upto_below n a m in good.symmetric n a h (omega arith)))

  twice : (n : ℕ) → n ≤ G.banks → sum (among n) (upto n) ≡ 2 * sum below (upto n)
  twice zero h = unfold upto in refl
  twice (suc n) h =
      let more : sum (among (suc n)) (upto n) ≡ sum (λ b. among n b + bit (G.clash b n)) (upto n) =
      fold_cong ◌+◌ (among (suc n)) (λ b. among n b + bit (G.clash b n)) (upto n) (λ b m. count_next (G.clash b) n) in
      omega (
        arith,
        sum_upto (among (suc n)) n,
        more,
        sum_bits (among n) (λ b. G.clash b n) (upto n),
        count_next (G.clash n) n,
        bit_none (G.clash n n) (good.apart n (omega arith)),
        below_is n (omega arith),
        twice n (omega arith),
        sum_upto below n,
      )

  pub degrees_pairs : foldr (λ b m. degree G b + m) 0 (upto G.banks) ≡ 2 * length (pairs G)
  unfolding degree neighbours pairs
  degrees_pairs = omega (arith, twice G.banks (omega arith), length_pairs (clashes_below G) (upto G.banks))

  pub clash_count_pairs : clash_count G ≡ length (pairs G)
  unfolding clash_count
  clash_count_pairs = omega (arith, degrees_pairs)

-- how often a stands among the numbers below n
none_above : (a n : ℕ) → n ≤ a → length (filter (λ x. eqb x a) (upto n)) ≡ 0
none_above a zero h = unfold upto filter in refl
none_above a (suc n) h = omega (arith, count_next (λ x. eqb x a) n, none_above a n (omega arith), bit_no n a (λ e. omega arith))

one_below : (a n : ℕ) → a < n → length (filter (λ x. eqb x a) (upto n)) ≡ 1
one_below a zero h = absurd (omega arith)
one_below a (suc n) h =
    elim (lt_or_ge a n) [
      | inl l ↦ omega (arith, count_next (λ x. eqb x a) n, one_below a n l, bit_no n a (λ e. omega arith))
      | inr g ↦ omega (arith, count_next (λ x. eqb x a) n, none_above a n g, bit_yes n a (omega arith))
    ]

-- the degrees of two banks are one higher in H, all others the same: there is one clash more
module _ (G H : Graph) (a b : ℕ) (banks : H.banks ≡ G.banks) (la : a < G.banks) (lb : b < G.banks) (d : a ≢ b)
    (at_a : degree H a ≡ degree G a + 1) (at_b : degree H b ≡ degree G b + 1) (others : (x : ℕ) → x ≢ a → x ≢ b → degree H x ≡ degree G x) where
  higher : (x : ℕ) → degree H x ≡ degree G x + bit (eqb x a) + bit (eqb x b)
  higher x = go (ℕ_discrete x a) (ℕ_discrete x b)
    where
      go : Dec (x ≡ a) → Dec (x ≡ b) → degree H x ≡ degree G x + bit (eqb x a) + bit (eqb x b)
      go (yes e) q = rw e (omega (arith, at_a, bit_yes a a refl, bit_no a b d))
      go (no n) (yes e) = rw e (omega (arith, at_b, bit_no b a (λ f. n (e ∙ f)), bit_yes b b refl))
      go (no n) (no m) = omega (arith, others x n m, bit_no x a n, bit_no x b m)

  pub clash_count_more : clash_count H ≡ clash_count G + 1
  unfolding clash_count
  clash_count_more =
      let N : ℕ = G.banks in
      let same : sum (degree H) (upto H.banks) ≡ sum (degree H) (upto N) = ap (λ (n : ℕ). sum (degree H) (upto n)) banks in
      let each : sum (degree H) (upto N) ≡ sum (λ x. degree G x + bit (eqb x a) + bit (eqb x b)) (upto N) =
      fold_cong ◌+◌ (degree H) (λ x. degree G x + bit (eqb x a) + bit (eqb x b)) (upto N) (λ x m. higher x) in
      omega (
        arith,
        sum_bits (λ x. degree G x + bit (eqb x a)) (λ x. eqb x b) (upto N),
        sum_bits (degree G) (λ x. eqb x a) (upto N),
        one_below a N la,
        one_below b N lb,
      )
