-- Byte strings compared: `same` from a place on, and what it says.
use mathlib.Core.Bool.{Bool, true, false, cond, ◌&&◌}
use mathlib.Core.Logic.{◌↔◌}
use mathlib.Core.List.{List, [], ◌∷◌}
use mathlib.Core.Path.{◌≡◌, refl}
use Prim.Native.Nat.{ℕ, ◌+◌, ◌≤◌, ◌<◌}
use native.Mathlib.Omega.{arith}
use borrow.Author.Tests.{eq-eqb, ne_eqb}
use lib.Dec.{T, eqb, eqb→eq}
use lib.ListN.{length, get_or, drop, drop_of_length-le}
use Rattle.rule.proofs.Booleans.{and_l, and_r}
use Rattle.memory.proofs.Fronts.{drop_next}
use Rattle.shelf.specs.Names.{same, morning, noon, close, place_of}

pub same_long : (a b : List ℕ) → (length a ≡ length b → ⊥) → same a b ≡ false
unfolding same
same_long [] [] h = absurd (h refl)
same_long [] (y ∷ ys) h = refl
same_long (x ∷ xs) [] h = refl
same_long (x ∷ xs) (y ∷ ys) h = go (eqb x y) (same_long xs ys (λ e. h (omega arith)))
  where
    go : (t : Bool) → same xs ys ≡ false → (t && same xs ys) ≡ false
    go true e = e
    go false e = refl

module _ (a b : List ℕ) (i : ℕ) where
  pub same_next : i < length a → i < length b → get_or a i 0 ≡ get_or b i 0 → same (drop i a) (drop i b) ≡ same (drop (i + 1) a) (drop (i + 1) b)
  unfolding same
  same_next h k e = rw (drop_next i a h, drop_next i b k, eq-eqb (get_or a i 0) (get_or b i 0) e)

  pub same_not : i < length a → i < length b → (get_or a i 0 ≡ get_or b i 0 → ⊥) → same (drop i a) (drop i b) ≡ false
  unfolding same
  same_not h k d = rw (drop_next i a h, drop_next i b k, ne_eqb (get_or a i 0) (get_or b i 0) d)

  pub same_end : length a ≤ i → length b ≤ i → same (drop i a) (drop i b) ≡ true
  unfolding same
  same_end h k = rw (drop_of_length-le a h, drop_of_length-le b k)

-- the same bytes are equal
pub same_is : (a b : List ℕ) → T (same a b) → a ≡ b
unfolding same
same_is [] [] t = refl
same_is [] (y ∷ ys) t = absurd t
same_is (x ∷ xs) [] t = absurd t
same_is (x ∷ xs) (y ∷ ys) t =
    let head = eqb→eq x y (and_l (eqb x y) (same xs ys) t) in
    rw (head, same_is xs ys (and_r (eqb x y) (same xs ys) t))

-- the place of a name, name after name
module _ (name : List ℕ) where
  pub place_first : (r : Bool) → r ≡ same name morning → r ≡ true → 0 ≡ place_of name
  unfolding place_of
  place_first r e f = rw (← e, f) refl

  pub place_second : (r q : Bool) → r ≡ same name morning → r ≡ false → q ≡ same name noon → q ≡ true → 1 ≡ place_of name
  unfolding place_of
  place_second r q e f g h = rw (← e, f, ← g, h) refl

  pub place_third : (r q p : Bool) → r ≡ same name morning → r ≡ false → q ≡ same name noon → q ≡ false → p ≡ same name close → p ≡ true
      → 2 ≡ place_of name
  unfolding place_of
  place_third r q p e f g h i j = rw (← e, f, ← g, h, ← i, j) refl

  pub place_none : (r q p : Bool) → r ≡ same name morning → r ≡ false → q ≡ same name noon → q ≡ false → p ≡ same name close → p ≡ false
      → 3 ≡ place_of name
  unfolding place_of
  place_none r q p e f g h i j = rw (← e, f, ← g, h, ← i, j) refl

-- the three names, and no other bytes
pub name_first : (name : List ℕ) → place_of name ≡ 0 ↔ (name ≡ morning)
unfolding place_of same
name_first name = (λ e. same_is name morning (go (same name morning) (same name noon) (same name close) e), λ e. rw e refl)
  where
    go : (p q r : Bool) → ◌≡◌ {A = ℕ} (cond p 0 (cond q 1 (cond r 2 3))) 0 → T p
    go true q r e = tt
    go false true r e = absurd (omega arith)
    go false false true e = absurd (omega arith)
    go false false false e = absurd (omega arith)

pub name_second : (name : List ℕ) → place_of name ≡ 1 ↔ (name ≡ noon)
unfolding place_of same
name_second name = (λ e. same_is name noon (go (same name morning) (same name noon) (same name close) e), λ e. rw e refl)
  where
    go : (p q r : Bool) → ◌≡◌ {A = ℕ} (cond p 0 (cond q 1 (cond r 2 3))) 1 → T q
    go true q r e = absurd (omega arith)
    go false true r e = tt
    go false false true e = absurd (omega arith)
    go false false false e = absurd (omega arith)

pub name_third : (name : List ℕ) → place_of name ≡ 2 ↔ (name ≡ close)
unfolding place_of same
name_third name = (λ e. same_is name close (go (same name morning) (same name noon) (same name close) e), λ e. rw e refl)
  where
    go : (p q r : Bool) → ◌≡◌ {A = ℕ} (cond p 0 (cond q 1 (cond r 2 3))) 2 → T r
    go true q r e = absurd (omega arith)
    go false true r e = absurd (omega arith)
    go false false true e = tt
    go false false false e = absurd (omega arith)
