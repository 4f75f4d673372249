-- What the tests of a place and of the shelf answer, case by case.
use mathlib.Core.Bool.{Bool, true, false}
use mathlib.Core.List.{List}
use mathlib.Core.Path.{◌≡◌, refl, ap, ◌∙◌}
use Prim.Native.Nat.{ℕ, zero, suc, ◌+◌, ◌*◌, ◌-◌, ◌≤◌, ◌<◌}
use native.Mathlib.Omega.{arith}
use borrow.Author.Tests.{eq-eqb, ne_eqb}
use lib.Dec.{eqb}
use lib.ListN.{length, get_or, take, drop, length-take, length-drop}
use Rattle.memory.specs.declared.Tally.{Tally}
use Rattle.memory.specs.Plan.{slices_of, long_enough, holds}
use Rattle.memory.proofs.Theorems.{long_enough-law}
use Rattle.shelf.specs.Shelf.{degrees_at, waves_at, counts_at, tally_at, ranks_at, cap_at, place_size, part, place, used, slices_in, tally_in, holds_in, place_right, shelf_right}
use Rattle.shelf.proofs.Putting.{part_cell}

-- a part that is lent, by its size
pub lent_part : (a e size : ℕ) (cells : List ℕ) → e ≡ a + size → take (e - a) (drop a cells) ≡ part a size cells
lent_part a e size cells h = let s : e - a ≡ size = omega arith in rw s refl

-- the tally by its first cell and that of its cap
pub tally_from : (n at cap-at : ℕ) (cells : List ℕ) → at ≡ tally_at n → cap-at ≡ cap_at n
    → record { banks = get_or cells at 0; clashes = get_or cells (at + 1) 0; waves = get_or cells (at + 2) 0; cap = get_or cells cap-at 0 } ≡ tally_in n cells
unfolding tally_in
tally_from n at cap-at cells e k = rw (e, k) refl

module _ (n : ℕ) (cells : List ℕ) where
  -- a place that holds a plan of n banks, or does not
  pub holds_other : (t : Tally) → t ≡ tally_in n cells → (t.banks ≡ n → ⊥) → false ≡ holds_in n cells
  unfolding holds_in
  holds_other t e d = rw (← e, ne_eqb t.banks n d) refl

  pub holds_here : (r : Bool) (t : Tally) → t ≡ tally_in n cells → t.banks ≡ n → r ≡ holds (slices_in n cells) t → r ≡ holds_in n cells
  unfolding holds_in
  holds_here r t e b h = h ∙ rw (← e, eq-eqb t.banks n b) refl

  -- a place that is unused, or used
  pub right_unused : get_or cells 0 0 ≡ 0 → true ≡ place_right n cells
  unfolding place_right
  right_unused e = rw e refl

  pub right_above : (get_or cells 0 0 ≡ 0 → ⊥) → (get_or cells 0 0 ≡ 1 → ⊥) → false ≡ place_right n cells
  unfolding place_right used
  right_above d f = rw (ne_eqb (get_or cells 0 0) 0 d, ne_eqb (get_or cells 0 0) 1 f) refl

  pub right_used : (r : Bool) → get_or cells 0 0 ≡ 1 → r ≡ holds_in n cells → r ≡ place_right n cells
  unfolding place_right used
  right_used r e h = h ∙ rw e refl

-- the slices of a place, part by part
pub slices_from : (n d w c o k e : ℕ) (cells : List ℕ) → d ≡ degrees_at n → w ≡ d + n → c ≡ w + n → o ≡ c + 24 * n → k ≡ o + 3 → e ≡ k + n
    → slices_of (take (d - 1) (drop 1 cells)) (take (w - d) (drop d cells)) (take (c - w) (drop w cells)) (take (o - c) (drop c cells))
    (take (e - k) (drop k cells))
    ≡ slices_in n cells
unfolding slices_in
slices_from n d w c o k e cells hd hw hc ho hk he =
    let sd : d - 1 ≡ 23 * n = omega arith in
    let sw : w - d ≡ n = omega arith in
    let sc : c - w ≡ n = omega arith in
    let so : o - c ≡ 24 * n = omega arith in
    let se : e - k ≡ n = omega arith in
    let aw : w ≡ waves_at n = omega arith in
    let ac : c ≡ counts_at n = omega arith in
    let ak : k ≡ ranks_at n = omega arith in
    rw (sd, sw, sc, so, se, hd, aw, ac, ak) refl

-- a place of the shelf, and the shelf place after place
module _ (n : ℕ) (shelf : List ℕ) where
  pub lent_place : (i a e : ℕ) → a ≡ i * place_size n → e ≡ a + place_size n → take (e - a) (drop a shelf) ≡ place n i shelf
  unfolding place
  lent_place i a e h k = lent_part a e (place_size n) shelf k ∙ rw h refl

  pub right_at : (i a e : ℕ) (r : Bool) → a ≡ i * place_size n → e ≡ a + place_size n → r ≡ place_right n (take (e - a) (drop a shelf))
      → r ≡ place_right n (place n i shelf)
  right_at i a e r h k f = f ∙ ap (place_right n) (lent_place i a e h k)

  pub shelf_first : (r : Bool) → r ≡ place_right n (place n 0 shelf) → r ≡ false → false ≡ shelf_right n shelf
  unfolding shelf_right
  shelf_first r e f = rw (← e, f) refl

  pub shelf_second : (r q : Bool) → r ≡ place_right n (place n 0 shelf) → r ≡ true → q ≡ place_right n (place n 1 shelf) → q ≡ false
      → false ≡ shelf_right n shelf
  unfolding shelf_right
  shelf_second r q e f g h = rw (← e, f, ← g, h) refl

  pub shelf_third : (r q p : Bool) → r ≡ place_right n (place n 0 shelf) → r ≡ true → q ≡ place_right n (place n 1 shelf) → q ≡ true
      → p ≡ place_right n (place n 2 shelf) → p ≡ shelf_right n shelf
  unfolding shelf_right
  shelf_third r q p e f g h k = k ∙ rw (← e, f, ← g, h) refl

-- where a place ends
pub place_room : (i k : ℕ) → i < 3 → i * k + k ≤ 3 * k
place_room zero k h = omega arith
place_room (suc zero) k h = omega arith
place_room (suc (suc zero)) k h = omega arith
place_room (suc (suc (suc i))) k h = absurd (omega arith)

-- the used cell of a place
module _ (n i at : ℕ) (shelf : List ℕ) (e : at ≡ i * place_size n) where
  used_is : used (place n i shelf) ≡ eqb (get_or shelf at 0) 1
  unfolding used place
  used_is = rw e (ap (λ (x : ℕ). eqb x 1) (part_cell (i * place_size n) (place_size n) shelf (omega arith)))

  pub cell_used : get_or shelf at 0 ≡ 1 → used (place n i shelf) ≡ true
  cell_used h = used_is ∙ eq-eqb (get_or shelf at 0) 1 h

  pub cell_unused : (get_or shelf at 0 ≡ 1 → ⊥) → used (place n i shelf) ≡ false
  cell_unused d = used_is ∙ ne_eqb (get_or shelf at 0) 1 d

-- the parts of a place have room for its banks
pub slices_long : (n : ℕ) (cells : List ℕ) → length cells ≡ place_size n → long_enough n (slices_in n cells) ≡ true
unfolding slices_in
slices_long n cells e =
    long_enough-law n _ (record {
      neighbours = omega (arith, length-take (23 * n) (drop 1 cells), length-drop 1 cells);
      degrees = omega (arith, length-take n (drop (degrees_at n) cells), length-drop (degrees_at n) cells);
      waves = omega (arith, length-take n (drop (waves_at n) cells), length-drop (waves_at n) cells);
      counts = omega (arith, length-take (24 * n) (drop (counts_at n) cells), length-drop (counts_at n) cells);
      ranks = omega (arith, length-take n (drop (ranks_at n) cells), length-drop (ranks_at n) cells);
    })
