-- How many waves a plan has at most. A bank of the highest wave w has w earlier neighbours, whose degrees are as large as its own: w + 1 banks
-- have degree w or more. The bounds on the number of waves follow from that alone.
use mathlib.Core.Bool.{Bool, ◌&&◌}
use mathlib.Core.List.{List, [], ◌∷◌, foldr}
use mathlib.Core.Logic.{◌↔◌, inl, inr}
use mathlib.Core.Path.{◌≡◌, refl, ap, ◌∙◌}
use native.Mathlib.Nat.{mul-suc, mul_comm, mul-le-mul_left}
use native.Mathlib.Omega.{arith}
use Prim.Native.Nat.{ℕ, zero, suc, ◌+◌, ◌*◌, ◌-◌, ◌≤◌, ◌<◌, max, min}
use lib.Dec.{T, leb, leb→le, le→leb}
use lib.ListN.{length}
use Rattle.rule.specs.Lists.{upto, filter, memb, Sorted}
use Rattle.rule.specs.Graph.{Graph, degree, earlier, earlier_neighbours, Same}
use Rattle.rule.specs.Wave.{wave_count}
use Rattle.rule.specs.Bounds.{largest_from, wave_bound, largest_degree, banks_from}
use Rattle.rule.proofs.Booleans.{and_r, passes?, is_true, is_false, lt_or_ge}
use Rattle.rule.proofs.Lists.{in_head, in_tail, in_upto, upto_below, length_upto, filter_in, filter_cong, count_lt, filter_short, most_above}
use Rattle.rule.proofs.Degrees.{earlier_degree}
use Rattle.rule.proofs.Order.{earlier_irrefl}
use Rattle.rule.proofs.Sorting.{sorted_order}
use Rattle.rule.proofs.Neighbours.{fewer_earlier}
use Rattle.rule.proofs.Reaches.{count_order}
use Rattle.rule.proofs.Waves.{wave_le}
use Rattle.rule.proofs.Agree.{degree_agree}

-- how many pass a test, the first looked at
module _ (p : ℕ → Bool) (x : ℕ) (xs : List ℕ) where
  count_yes : T (p x) → length (filter p (x ∷ xs)) ≡ suc (length (filter p xs))
  unfolding filter
  count_yes t = rw (is_true (p x) t)

  count_no : (T (p x) → ⊥) → length (filter p (x ∷ xs)) ≡ length (filter p xs)
  unfolding filter
  count_no n = rw (is_false (p x) n)

one_passes : (p : ℕ → Bool) (xs : List ℕ) → 0 < length (filter p xs) → (y : ℕ) × T (memb y xs) × T (p y)
one_passes p xs h = go (filter p xs) refl h
  where
    go : (ys : List ℕ) → filter p xs ≡ ys → 0 < length ys → (y : ℕ) × T (memb y xs) × T (p y)
    go [] e l = absurd (omega arith)
    go (y ∷ ys) e l = let r = filter_in p xs y (rw e (in_head y y ys refl)) in (y, r.0, r.1)

-- a list whose degrees f never rise, and a degree d: those of degree d or more come first
module _ (before : ℕ → ℕ → Bool) (f : ℕ → ℕ) (falls : (x y : ℕ) → T (before x y) → f y ≤ f x) (d : ℕ) where
  abbrev high : ℕ → Bool
  high x = leb d (f x)

  first_high : (x : ℕ) (xs : List ℕ) → Sorted before (x ∷ xs) → 0 < length (filter high xs) → T (high x)
  first_high x xs s h =
      let r = one_passes high xs h in
      let l : d ≤ f r.0 = leb→le d (f r.0) r.2 in
      le→leb d (f x) (omega (arith, falls x r.0 (s.0 r.0 r.1)))

  -- more than d of them, with those before the list counted in: the largest is above d; and the other way
  reaches : (i : ℕ) (xs : List ℕ) → Sorted before xs → 0 < length (filter high xs) → d + 1 < i + length (filter high xs) → d < largest_from i f xs
  unfolding largest_from filter
  reaches i [] s h l = absurd (omega arith)
  reaches i (x ∷ xs) s h l =
      elim (passes? (high x)) [
        | inl t ↦
            let c = count_yes high x xs t in
            let here : d ≤ f x = leb→le d (f x) t in
            elim (lt_or_ge 0 (length (filter high xs))) [ inl m ↦ omega (arith, reaches (suc i) xs s.1 m (omega arith)) | inr z ↦ omega arith ]
        | inr n ↦
            let c = count_no high x xs n in
            absurd (n (first_high x xs s (omega arith)))
      ]

  reached : (i : ℕ) (xs : List ℕ) → Sorted before xs → d < largest_from i f xs → (0 < length (filter high xs)) × (d + 1 < i + length (filter high xs))
  unfolding largest_from
  reached i [] s l = absurd (omega arith)
  reached i (x ∷ xs) s l =
      elim (lt_or_ge d (min i (suc (f x)))) [
        | inl m ↦ let c = count_yes high x xs (le→leb d (f x) (omega arith)) in (omega arith, omega arith)
        | inr m ↦
            let r = reached (suc i) xs s.1 (omega arith) in
            let c = count_yes high x xs (first_high x xs s r.0) in
            (omega arith, omega arith)
      ]

-- d or more for each of degree d or more
sum_high : (f : ℕ → ℕ) (d : ℕ) (xs : List ℕ) → d * length (filter (λ b. leb d (f b)) xs) ≤ foldr (λ b m. f b + m) 0 xs
sum_high f d [] = unfold filter in omega arith
sum_high f d (x ∷ xs) =
    let high : ℕ → Bool = λ b. leb d (f b) in
    let rest = sum_high f d xs in
    elim (passes? (high x)) [
      | inl t ↦
          let here : d ≤ f x = leb→le d (f x) t in
          rw (count_yes high x xs t) (omega (arith, mul-suc d (length (filter high xs))))
      | inr n ↦ rw (count_no high x xs n) (omega arith)
    ]

-- a largest number is one of them
most_met : (f : ℕ → ℕ) (xs : List ℕ) → 0 < foldr (λ b k. max (f b) k) 0 xs → (b : ℕ) × T (memb b xs) × (f b ≡ foldr (λ b k. max (f b) k) 0 xs)
most_met f [] h = absurd (omega arith)
most_met f (x ∷ xs) h =
    elim (lt_or_ge (f x) (foldr (λ b k. max (f b) k) 0 xs)) [
      | inl l ↦ let r = most_met f xs (omega arith) in (r.0, in_tail r.0 x xs r.1, omega (arith, r.2))
      | inr l ↦ (x, in_head x x xs refl, omega arith)
    ]

module _ (G : Graph) where
  -- the bound is above d exactly if more than d banks have degree d or more
  pub bound_counts : (d : ℕ) → (d < wave_bound G) ↔ (d < banks_from G d)
  unfolding wave_bound banks_from
  bound_counts d =
      let same = count_order G (λ b. leb d (degree G b)) in (
        λ l. omega (arith, (reached (earlier G) (degree G) (earlier_degree G) d _ _ (sorted_order G) l).1),
        λ l. reaches (earlier G) (degree G) (earlier_degree G) d _ _ (sorted_order G) (omega arith) (omega arith),
      )

  -- a bank of degree w or more has, with its earlier neighbours, so many banks of degree w or more
  and_itself : (w b : ℕ) → b < G.banks → w ≤ degree G b → length (earlier_neighbours G b) < banks_from G w
  unfolding earlier_neighbours banks_from
  and_itself w b lb deg =
      count_lt (λ v. G.clash b v && earlier G v b) (λ v. leb w (degree G v)) (upto G.banks)
      (λ v m t. le→leb w (degree G v) (omega (arith, earlier_degree G v b (and_r (G.clash b v) (earlier G v b) t))))
      b (in_upto G.banks b lb) (λ t. earlier_irrefl G b (and_r (G.clash b b) (earlier G b b) t)) (le→leb w (degree G b) deg)

  -- more than w banks have degree w or more, w being the highest wave
  pub high_degrees : (w : ℕ) → wave_count G ≡ suc w → w < banks_from G w
  unfolding wave_count
  high_degrees w e =
      let some : 0 < wave_count G = omega arith in
      let r = most_met _ (upto G.banks) some in
      let lb : r.0 < G.banks = upto_below G.banks r.0 r.1 in
      let many = wave_le G r.0 lb in
      omega (arith, r.2, and_itself w r.0 lb (omega (arith, r.2, fewer_earlier G r.0)))

  -- Welsh and Powell
  pub count_bound : wave_count G ≤ wave_bound G
  count_bound = go (wave_count G) refl
    where
      go : (k : ℕ) → wave_count G ≡ k → k ≤ wave_bound G
      go zero e = omega arith
      go (suc w) e = omega (arith, (bound_counts w).1 (high_degrees w e))

  -- k banks of degree k - 1 at least
  pub count_degrees : wave_count G * (wave_count G - 1) ≤ foldr (λ b m. degree G b + m) 0 (upto G.banks)
  unfolding banks_from
  count_degrees = go (wave_count G) refl
    where
      go : (k : ℕ) → wave_count G ≡ k → k * (k - 1) ≤ foldr (λ b m. degree G b + m) 0 (upto G.banks)
      go zero e = omega arith
      go (suc w) e =
          let many : w * suc w ≤ w * banks_from G w = mul-le-mul_left w (high_degrees w e) in
          let less : suc w - 1 ≡ w = omega arith in
          let turn : suc w * (suc w - 1) ≡ w * suc w = rw less (mul_comm (suc w) w) in
          omega (arith, sum_high (degree G) w (upto G.banks))

  -- the bound itself is at most one plus the largest degree, and at most the number of banks
  pub bound_small : (m : ℕ) → ((x : ℕ) → x < G.banks → degree G x ≤ m) → wave_bound G ≤ suc m
  unfolding banks_from
  bound_small m few =
      elim (lt_or_ge (suc m) (wave_bound G)) [
        | inl l ↦
            let more = (bound_counts (suc m)).0 l in
            let r = one_passes (λ b. leb (suc m) (degree G b)) (upto G.banks) (omega arith) in
            absurd (omega (arith, leb→le (suc m) (degree G r.0) r.2, few r.0 (upto_below G.banks r.0 r.1)))
        | inr l ↦ l
      ]

  pub degree_largest : (x : ℕ) → x < G.banks → degree G x ≤ largest_degree G
  unfolding largest_degree
  degree_largest x h = most_above (degree G) (upto G.banks) x (in_upto G.banks x h)

  pub bound_banks : wave_bound G ≤ G.banks
  unfolding banks_from
  bound_banks =
      elim (lt_or_ge G.banks (wave_bound G)) [
        | inl l ↦ absurd (omega (arith, (bound_counts G.banks).0 l, filter_short (λ b. leb G.banks (degree G b)) (upto G.banks), length_upto G.banks))
        | inr l ↦ l
      ]

-- only the clashes between banks count
module _ {G H : Graph} (same : Same G H) where
  pub banks_from_agree : (d : ℕ) → banks_from G d ≡ banks_from H d
  unfolding banks_from
  banks_from_agree d =
      ap (λ (n : ℕ). length (filter (λ b. leb d (degree G b)) (upto n))) same.banks
      ∙ ap length (filter_cong (λ b. leb d (degree G b)) (λ b. leb d (degree H b)) (upto H.banks) (λ b m.
      ap (leb d) (degree_agree same b (upto_below H.banks b m))))

  pub bound_agree : wave_bound G ≡ wave_bound H
  bound_agree =
      let low : wave_bound G ≤ wave_bound H =
      elim (lt_or_ge (wave_bound H) (wave_bound G)) [
        | inl l ↦ absurd (omega (arith, (bound_counts H (wave_bound H)).1 (rw (← banks_from_agree (wave_bound H)) ((bound_counts G (wave_bound H)).0 l))))
        | inr l ↦ l
      ] in
      let high : wave_bound H ≤ wave_bound G =
      elim (lt_or_ge (wave_bound G) (wave_bound H)) [
        | inl l ↦ absurd (omega (arith, (bound_counts G (wave_bound G)).1 (rw (banks_from_agree (wave_bound G)) ((bound_counts H (wave_bound G)).0 l))))
        | inr l ↦ l
      ] in
      omega arith
