-- The bound by counting: how many banks have degree d or more, from how many have each degree; and that the number found is the bound.
use mathlib.Core.Bool.{Bool, true, false}
use mathlib.Core.List.{List, [], ◌∷◌}
use mathlib.Core.Logic.{inl, inr}
use mathlib.Core.Path.{◌≡◌, refl, ap, ◌∙◌}
use native.Mathlib.Decide.{ℕ_discrete}
use native.Mathlib.Omega.{arith}
use Prim.Native.Nat.{ℕ, suc, ◌+◌, ◌-◌, ◌≤◌, ◌<◌}
use lib.Dec.{T, eqb, leb, leb→le, le→leb}
use lib.ListN.{length, get_or}
use Rattle.rule.specs.Lists.{upto, filter}
use Rattle.rule.specs.Graph.{Graph, degree}
use Rattle.rule.specs.Bounds.{wave_bound, banks_from}
use Rattle.rule.proofs.Booleans.{lt_or_ge}
use Rattle.rule.proofs.Lists.{upto_below, length_upto, filter_cong, filter_none, filter_short, count_le}
use Rattle.rule.proofs.Theorems.{bound_counts}
use Rattle.memory.specs.inner.Counts.{standing, Tallied}
use Rattle.memory.proofs.Standing.{bit, bit_none, bit_yes, bit_no, kept, standing_cons}
use Rattle.cell_counts.specs.inner.Cells.{cells_at, FewEach}
use Rattle.cell_counts.proofs.Counting.{count_small}
use Rattle.wave_bounds.specs.inner.Degrees.{cells_from, LookedFrom, Above}

-- d or more: suc d or more, or d
bit_some : (t : Bool) → T t → bit t ≡ 1
bit_some true h = omega (arith, kept true 0 [])
bit_some false h = absurd h

one_bit : (d m : ℕ) → bit (leb d m) ≡ bit (leb (suc d) m) + bit (eqb m d)
one_bit d m = go (ℕ_discrete m d)
  where
    yes_bit : (k : ℕ) → k ≤ m → bit (leb k m) ≡ 1
    yes_bit k l = bit_some (leb k m) (le→leb k m l)

    no_bit : (k : ℕ) → m < k → bit (leb k m) ≡ 0
    no_bit k l = bit_none (leb k m) (λ t. omega (arith, leb→le k m t))

    go : Dec (m ≡ d) → bit (leb d m) ≡ bit (leb (suc d) m) + bit (eqb m d)
    go (yes e) = omega (arith, yes_bit d (omega arith), no_bit (suc d) (omega arith), bit_yes m d e)
    go (no n) =
        elim (lt_or_ge d m) [
          | inl l ↦ omega (arith, yes_bit d (omega arith), yes_bit (suc d) (omega arith), bit_no m d n)
          | inr l ↦ let k : m < d = omega (arith, n) in omega (arith, no_bit d k, no_bit (suc d) (omega arith), bit_no m d n)
        ]

module _ (f : ℕ → ℕ) where
  abbrev from : ℕ → List ℕ → ℕ
  from d xs = length (filter (λ b. leb d (f b)) xs)

  from_cons : (d x : ℕ) (xs : List ℕ) → from d (x ∷ xs) ≡ bit (leb d (f x)) + from d xs
  unfolding filter
  from_cons d x xs = kept (leb d (f x)) x (filter (λ b. leb d (f b)) xs)

  from_next : (d : ℕ) (xs : List ℕ) → from d xs ≡ from (suc d) xs + standing f d xs
  from_next d [] = unfold filter standing in refl
  from_next d (x ∷ xs) = omega (arith, from_cons d x xs, from_cons (suc d) x xs, standing_cons f d x xs, one_bit d (f x), from_next d xs)

module _ (ds : List ℕ) (n : ℕ) where
  pub cells_next : (d : ℕ) → cells_from ds n d ≡ cells_from ds n (suc d) + cells_at ds n d
  unfolding cells_from
  cells_next d = from_next (λ b. get_or ds b 0) d (upto n)

  -- fewer have a higher degree or more, and never more than n
  pub cells_fall : (d e : ℕ) → d ≤ e → cells_from ds n e ≤ cells_from ds n d
  unfolding cells_from
  cells_fall d e l =
      count_le (λ b. leb e (get_or ds b 0)) (λ b. leb d (get_or ds b 0)) (upto n) (λ b m t.
      le→leb d (get_or ds b 0) (omega (arith, leb→le e (get_or ds b 0) t)))

  pub cells_few : (d : ℕ) → cells_from ds n d ≤ n
  unfolding cells_from
  cells_few d = omega (arith, filter_short (λ b. leb d (get_or ds b 0)) (upto n), length_upto n)

  -- none have 24 or more
  cells_none : FewEach ds n → (d : ℕ) → 24 ≤ d → cells_from ds n d ≤ 0
  unfolding cells_from
  cells_none few d l =
      rw filter_none at (count_le (λ b. leb d (get_or ds b 0)) (λ b. false) (upto n) (λ b m t.
      absurd (omega (arith, leb→le d (get_or ds b 0) t, few.small b (upto_below n b m)))))

  -- before the first degree is looked at
  pub none_looked : FewEach ds n → LookedFrom (cells_from ds n) 24 0
  none_looked few = record { is = omega (arith, cells_none few 24 (omega arith)); low = λ e l. omega (arith, cells_none few e l) }

-- a sum of counts fits a cell, whichever count is added
pub sum_fits : (ds : List ℕ) {row : List ℕ} {n d high : ℕ} → FewEach ds n → LookedFrom (cells_from ds n) d high → Tallied row (cells_at ds n)
    → (k : ℕ) → k < 24 → high + get_or row k 0 < 65536
sum_fits ds {n = n} {d = d} few l t k small = omega (arith, l.is, cells_few ds n d, few.most, count_small few (omega arith) t small)

-- the next degree, d - 1, is looked at after those above it: so many banks have it or more
module _ (ds : List ℕ) (n : ℕ) {d high : ℕ} (l : LookedFrom (cells_from ds n) d high) (left : 0 < d) (most : d ≤ 24)
    {row : List ℕ} (t : Tallied row (cells_at ds n)) where
  next_is : high + get_or row (d - 1) 0 ≡ cells_from ds n (d - 1)
  next_is =
      let above : d ≡ suc (d - 1) = omega arith in
      omega (arith, l.is, ap (cells_from ds n) above, t.counts (d - 1) (omega arith), cells_next ds n (d - 1))

  -- as many as one plus the degree: that is the bound
  pub found : d - 1 + 1 ≤ high + get_or row (d - 1) 0 → Above (cells_from ds n) (d - 1 + 1)
  found enough e = (
    λ below. omega (arith, next_is, cells_fall ds n e (d - 1) (omega arith)),
    λ below. elim (lt_or_ge e (d - 1 + 1)) [ inl k ↦ k | inr k ↦ absurd (omega (arith, l.low e (omega arith))) ],
  )

  -- or fewer
  pub passed : high + get_or row (d - 1) 0 < d - 1 + 1 → LookedFrom (cells_from ds n) (d - 1) (high + get_or row (d - 1) 0)
  passed few = record {
    is = next_is;
    low = λ e k. elim (lt_or_ge (d - 1) e) [
      | inl m ↦ l.low e (omega arith)
      | inr m ↦ let same : e ≡ d - 1 = omega arith in rw same (omega (arith, next_is))
    ];
  }

-- one number alone is so
above_le : {many : ℕ → ℕ} {r r' : ℕ} → Above many r → Above many r' → r ≤ r'
above_le {many} {r} {r'} a b = elim (lt_or_ge r' r) [ inl l ↦ absurd (omega (arith, (b r').1 ((a r').0 l))) | inr l ↦ l ]

-- the cells are the degrees of G: that number is the bound
module _ (G : Graph) (ds : List ℕ) (n : ℕ) (same : n ≡ G.banks) (cells : (b : ℕ) → b < G.banks → get_or ds b 0 ≡ degree G b) where
  cells_are : (d : ℕ) → cells_from ds n d ≡ banks_from G d
  unfolding cells_from banks_from
  cells_are d =
      ap (λ (k : ℕ). length (filter (λ b. leb d (get_or ds b 0)) (upto k))) same
      ∙ ap length (filter_cong (λ b. leb d (get_or ds b 0)) (λ b. leb d (degree G b)) (upto G.banks) (λ b m.
      ap (leb d) (cells b (upto_below G.banks b m))))

  bound_above : Above (cells_from ds n) (wave_bound G)
  bound_above d = (λ l. omega (arith, cells_are d, (bound_counts G d).0 l), λ l. (bound_counts G d).1 (omega (arith, cells_are d)))

  pub bound_is : {r : ℕ} → Above (cells_from ds n) r → r ≡ wave_bound G
  bound_is a = omega (arith, above_le a bound_above, above_le bound_above a)
