-- A plan has as many adds as its tally counts clashes: each stands at the smaller of its two banks.
use mathlib.Core.Bool.{Bool, true, false, cond}
use mathlib.Core.List.{List, [], ◌∷◌, map, flat_map, foldr}
use mathlib.Core.Logic.{◌⊎◌, inl, inr}
use mathlib.Core.Path.{◌≡◌, refl, sym, ap, ◌∙◌}
use Prim.Native.Nat.{ℕ, zero, suc, ◌+◌, ◌≤◌, ◌<◌}
use native.Mathlib.Omega.{arith}
use lib.Dec.{ltb}
use lib.ListN.{length, length-append, length-map}
use borrow.Author.Tests.{lt-ltb, le-ltb}
use Rattle.rule.specs.Lists.{upto, filter}
use Rattle.rule.specs.Graph.{Graph, neighbours, degree}
use Rattle.rule.proofs.Booleans.{lt_or_ge, is_false}
use Rattle.rule.proofs.Lists.{upto_below, filter_cong, filter_append}
use Rattle.rule.specs.declared.Kind.TheVariants.{Adding}
use Rattle.memory.specs.declared.Tally.{Tally}
use Rattle.memory.specs.Plan.{clash_count, tally_of, Clashes, Slices, PlanOf}
use Rattle.memory.specs.Pairs.{clashes_below, pairs}
use Rattle.memory.proofs.Agree.{fold_cong}
use Rattle.memory.proofs.Sums.{sum_upto}
use Rattle.memory.proofs.ClashPairs.{degrees_pairs, clash_count_pairs}
use Rattle.journal.specs.Calls.{entry_for, adds_of, adds_below}

-- the sum of f over the list
abbrev sum : (ℕ → ℕ) → List ℕ → ℕ
sum f xs = foldr (λ b m. f b + m) 0 xs

length_pairs : (f : ℕ → List ℕ) (bs : List ℕ) → length {A = ℕ × ℕ} (flat_map (λ b. map (λ a. (a, b)) (f b)) bs) ≡ sum (λ b. length (f b)) bs
unfolding flat_map
length_pairs f [] = refl
length_pairs f (b ∷ bs) =
    let at : ℕ → ℕ → ℕ × ℕ = λ b a. (a, b) in
    omega (arith, length-append (map (at b) (f b)) (flat_map (λ b. map (at b) (f b)) bs), length-map (f b) (at b), length_pairs f bs)

module _ (p : ℕ → Bool) (a : ℕ) where
  abbrev among : ℕ → ℕ
  among n = length (filter p (upto n))

  abbrev above : ℕ → ℕ
  above n = length (filter (ltb a) (filter p (upto n)))

  -- one bank more
  among_next : (n : ℕ) → among (suc n) ≡ among n + length (filter p (n ∷ []))
  unfolding upto
  among_next n = ap length (filter_append p (upto n) (n ∷ [])) ∙ length-append (filter p (upto n)) (filter p (n ∷ []))

  above_next : (n : ℕ) → above (suc n) ≡ above n + length (filter (ltb a) (filter p (n ∷ [])))
  unfolding upto
  above_next n =
      ap (λ (l : List ℕ). length (filter (ltb a) l)) (filter_append p (upto n) (n ∷ []))
      ∙ ap length (filter_append (ltb a) (filter p (upto n)) (filter p (n ∷ [])))
      ∙ length-append (filter (ltb a) (filter p (upto n))) (filter (ltb a) (filter p (n ∷ [])))

  larger : (n : ℕ) → a < n → length (filter (ltb a) (filter p (n ∷ []))) ≡ length (filter p (n ∷ []))
  unfolding filter
  larger n h = by (p n)
    where
      by : (t : Bool) → length (filter (ltb a) (cond t (n ∷ []) [])) ≡ length {A = ℕ} (cond t (n ∷ []) [])
      by true = rw (lt-ltb a n h)
      by false = refl

  smaller : (n : ℕ) → n ≤ a → length (filter (ltb a) (filter p (n ∷ []))) ≡ 0
  unfolding filter
  smaller n h = by (p n)
    where
      by : (t : Bool) → length (filter (ltb a) (cond t (n ∷ []) [])) ≡ 0
      by true = rw (le-ltb a n h)
      by false = refl

  none_above : (n : ℕ) → n ≤ suc a → above n ≡ 0
  none_above zero h = unfold upto filter in refl
  none_above (suc n) h = omega (arith, above_next n, none_above n (omega arith), smaller n (omega arith))

  -- a bank's clashes are those with smaller banks and those with larger ones
  split : p a ≡ false → (n : ℕ) → a < n → among n ≡ among a + above n
  split z zero h = absurd (omega arith)
  split z (suc n) h = by (lt_or_ge a n) (split z n)
    where
      alone : filter p (a ∷ []) ≡ []
      alone = unfold filter in rw z

      by : (a < n) ⊎ (n ≤ a) → (a < n → among n ≡ among a + above n) → among (suc n) ≡ among a + above (suc n)
      by (inl l) before = omega (arith, among_next n, above_next n, larger n l, before l)
      by (inr g) before =
          let e : n ≡ a = omega arith in
          rw e (omega (arith, among_next a, ap length alone, none_above (suc a) (omega arith)))

module _ (G : Graph) (c : Clashes G) where
  -- the clashes of the banks below k, at both of their banks
  both_ways : (k : ℕ) → k ≤ G.banks → sum (degree G) (upto k) ≡ sum (λ b. among (G.clash b) b b) (upto k) + length (adds_below G k)
  unfolding adds_below adds_of degree neighbours
  both_ways zero h = unfold upto in refl
  both_ways (suc a) h =
      omega (
        arith,
        sum_upto (degree G) a,
        sum_upto (λ b. among (G.clash b) b b) a,
        both_ways a (omega arith),
        split (G.clash a) a (is_false (G.clash a a) (c.apart a h)) G.banks h,
        length-append (adds_below G a) (map (entry_for Adding a) (filter (ltb a) (filter (G.clash a) (upto G.banks)))),
        length-map (filter (ltb a) (filter (G.clash a) (upto G.banks))) (entry_for Adding a),
      )

  below_is : (b : ℕ) → b < G.banks → length (clashes_below G b) ≡ among (G.clash b) b b
  below_is b h =
      ap length (filter_cong (λ a. G.clash a b) (G.clash b) (upto b) (λ a m. let l = upto_below b a m in c.symmetric a b (omega arith) h))

  adds_counted : length (adds_below G G.banks) ≡ clash_count G
  unfolding pairs
  adds_counted =
      let same : sum (λ b. length (clashes_below G b)) (upto G.banks) ≡ sum (λ b. among (G.clash b) b b) (upto G.banks) =
      fold_cong ◌+◌ (λ b. length (clashes_below G b)) (λ b. among (G.clash b) b b) (upto G.banks) (λ b m. below_is b (upto_below G.banks b m)) in
      omega (
        arith,
        degrees_pairs G c,
        both_ways G.banks (omega arith),
        length_pairs (clashes_below G) (upto G.banks),
        same,
        clash_count_pairs G c,
      )

pub tally_adds : (G : Graph) (s : Slices) (t : Tally) → PlanOf G s t → t.clashes ≡ length (adds_below G G.banks)
unfolding tally_of
tally_adds G s t p = ap (λ (u : Tally). u.clashes) p.tally ∙ sym (adds_counted G p.clashes)
