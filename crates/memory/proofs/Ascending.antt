-- Ascending lists, by their cells.
use mathlib.Core.Bool.{Bool, not}
use mathlib.Core.List.{List, [], ◌∷◌}
use mathlib.Core.Logic.{inl, inr}
use mathlib.Core.Path.{◌≡◌, refl}
use Prim.Native.Nat.{ℕ, zero, suc, ◌-◌, ◌≤◌, ◌<◌}
use native.Mathlib.Nat.{eq-or-lt_of_le}
use native.Mathlib.Omega.{arith}
use lib.Dec.{T, eqb, ltb, eqb→eq, ltb→lt, lt→ltb, not_T, T_not}
use lib.ListN.{length, get_or}
use Rattle.rule.specs.Lists.{filter, memb, Sorted}
use Rattle.rule.proofs.Booleans.{eq→eqb}
use Rattle.rule.proofs.Lists.{in_head, in_tail, in_filter, count_below}
use Rattle.memory.proofs.Fronts.{cell_of}

pub sorted_by : (xs : List ℕ) → ((i j : ℕ) → i < j → j < length xs → get_or xs i 0 < get_or xs j 0) → Sorted ltb xs
sorted_by [] h = tt
sorted_by (x ∷ xs) h = (
  λ y m. let r = cell_of xs y m in lt→ltb x y (rw r.2 at (h 0 (suc r.0) (omega arith) (omega arith))),
  sorted_by xs (λ i j l k. h (suc i) (suc j) (omega arith) (omega arith)),
)

pub sorted_at : (xs : List ℕ) → Sorted ltb xs → (i d : ℕ) → suc i < length xs → get_or xs i d < get_or xs (suc i) d
sorted_at [] s i d h = absurd (omega arith)
sorted_at (x ∷ []) s i d h = absurd (omega arith)
sorted_at (x ∷ y ∷ ys) s zero d h = ltb→lt x y (s.0 y (in_head y y ys refl))
sorted_at (x ∷ y ∷ ys) s (suc i) d h = sorted_at (y ∷ ys) s.1 i d (omega arith)

-- each cell larger than that before it, so larger than all before it
pub climbs : (xs : List ℕ) (k : ℕ) → ((i : ℕ) → 0 < i → i < k → get_or xs (i - 1) 0 < get_or xs i 0) → (i j : ℕ) → i < j → j < k → get_or xs i 0 < get_or xs j 0
climbs xs k step i zero l h = absurd (omega arith)
climbs xs k step i (suc j) l h =
    let p : suc j - 1 ≡ j = omega arith in
    let s : get_or xs j 0 < get_or xs (suc j) 0 = rw p at (step (suc j) (omega arith) h) in
    let q : i ≤ j = omega arith in
    elim (eq-or-lt_of_le q) [
      | inl e ↦ rw e s
      | inr m ↦ let r : get_or xs i 0 < get_or xs j 0 = climbs xs k step i j m (omega arith) in omega arith
    ]

-- an ascending list has no repetition, so it is no longer than a list that has its members
pub sorted_fits : (xs ys : List ℕ) → Sorted ltb xs → ((x : ℕ) → T (memb x xs) → T (memb x ys)) → length xs ≤ length ys
sorted_fits [] ys s h = omega arith
sorted_fits (x ∷ xs) ys s h =
    let others : ℕ → Bool = λ c. not (eqb x c) in
    let fewer : length (filter others ys) < length ys =
    count_below others ys x (h x (in_head x x xs refl)) (λ t. T_not (eqb x x) t (eq→eqb x x refl)) in
    let left : length xs ≤ length (filter others ys) =
    sorted_fits xs (filter others ys) s.1 (λ z m.
    in_filter others ys z (h z (in_tail z x xs m)) (not_T (eqb x z) (λ t. let e : x ≡ z = eqb→eq x z t in omega (arith, ltb→lt x z (s.0 z m))))) in
    omega arith
