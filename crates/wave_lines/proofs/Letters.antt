-- The wave letters are all different: one test of the whole table, and the rule at each two of its entries.
use mathlib.Core.Bool.{Bool, true, ◌&&◌, not}
use mathlib.Core.List.{List, [], ◌∷◌}
use mathlib.Core.Logic.{inl, inr}
use mathlib.Core.Path.{◌≡◌, refl, ap}
use Prim.Native.Nat.{ℕ, zero, suc, ◌≤◌, ◌<◌}
use native.Mathlib.Omega.{arith}
use lib.Dec.{T, T_not, ltb, lt→ltb}
use lib.ListN.{length, get_or}
use Rattle.rule.specs.Lists.{upto, filter, memb, some}
use Rattle.rule.proofs.Booleans.{and_l, and_r, lt_or_ge}
use Rattle.rule.proofs.Lists.{in_head, in_tail, some_in}
use Rattle.wave_lines.specs.Lines.{letters}

-- does no element stand again after it?
distinct : List ℕ → Bool
distinct [] = true
distinct (x ∷ xs) = not (memb x xs) && distinct xs

in_at : (xs : List ℕ) (i : ℕ) → i < length xs → T (memb (get_or xs i 0) xs)
in_at [] i h = absurd (omega arith)
in_at (x ∷ xs) zero h = in_head x x xs refl
in_at (x ∷ xs) (suc i) h = in_tail (get_or xs i 0) x xs (in_at xs i (omega arith))

distinct_at : (xs : List ℕ) → T (distinct xs) → (i j : ℕ) → i < length xs → j < length xs → get_or xs i 0 ≡ get_or xs j 0 → i ≡ j
unfolding distinct
distinct_at [] d i j h k e = absurd (omega arith)
distinct_at (x ∷ xs) d zero zero h k e = refl
distinct_at (x ∷ xs) d zero (suc j) h k e = absurd (T_not (memb x xs) (and_l (not (memb x xs)) (distinct xs) d) (rw e (in_at xs j (omega arith))))
distinct_at (x ∷ xs) d (suc i) zero h k e = absurd (T_not (memb x xs) (and_l (not (memb x xs)) (distinct xs) d) (rw (← e) (in_at xs i (omega arith))))
distinct_at (x ∷ xs) d (suc i) (suc j) h k e =
    ap suc (distinct_at xs (and_r (not (memb x xs)) (distinct xs) d) i j (omega arith) (omega arith) e)

-- one by one: the table of the code
pub letters_are : letters
    ≡ 65 ∷ 66 ∷ 67 ∷ 68 ∷ 69 ∷ 70 ∷ 71 ∷ 72 ∷ 74 ∷ 75 ∷ 76 ∷ 77 ∷ 78 ∷ 80 ∷ 81 ∷ 82 ∷ 83 ∷ 84 ∷ 85 ∷ 86 ∷ 87 ∷ 88 ∷ 89 ∷ 90 ∷ []
unfolding letters upto filter
letters_are = refl

letters_distinct : T (distinct letters)
unfolding letters distinct upto filter memb some
letters_distinct = tt

pub length_letters : length letters ≡ 24
unfolding letters upto filter
length_letters = refl

pub letters_differ : (c d : ℕ) → c < 24 → d < 24 → get_or letters c 0 ≡ get_or letters d 0 → c ≡ d
letters_differ c d h k e = distinct_at letters letters_distinct c d (rw length_letters h) (rw length_letters k) e

-- none is a digit, a space or a line feed
none_low : T (some (λ x. ltb x 65) letters) → ⊥
unfolding letters upto filter some
none_low t = t

pub letter_high : (c : ℕ) → c < 24 → 65 ≤ get_or letters c 0
letter_high c h =
    elim (lt_or_ge (get_or letters c 0) 65) [
      | inl l ↦
          absurd
          (none_low
          (some_in (λ x. ltb x 65) letters (get_or letters c 0) (in_at letters c (omega (arith, length_letters))) (lt→ltb (get_or letters c 0) 65 l)))
      | inr g ↦ g
    ]
