-- A shelf that was opened: nothing is used, and question 5 is answered by yes.
use mathlib.Core.Bool.{true, false}
use mathlib.Core.List.{List, [], ◌∷◌}
use mathlib.Core.Path.{◌≡◌, refl, sym, ap, ◌∙◌}
use Prim.Native.Nat.{ℕ, zero, suc, ◌*◌, ◌≤◌, ◌<◌}
use native.Mathlib.Nat.{zero-mul, one-mul}
use native.Mathlib.Omega.{arith}
use lib.ListN.{length, get_or}
use Rattle.text.specs.Places.{put}
use Rattle.shelf.specs.Shelf.{place_size, place, used, shelf_right}
use Rattle.checkpoints.specs.Calls.{open_shelf_number, unused_shelf, open_shelf_by, open_shelf}
use Rattle.shelf.proofs.Putting.{length_put, part_cell, put_cell, put_cell_before}
use Rattle.checkpoints.proofs.Numbers.{shelf_passed}
use Rattle.shelf.proofs.Places.{right_unused}
use Rattle.checkpoints.proofs.Shelves.{all_right}

module _ (n : ℕ) (shelf : List ℕ) where
  -- the call's number
  pub open_number-law : (open_shelf n shelf).number ≡ open_shelf_number n shelf
  unfolding open_shelf open_shelf_by
  open_number-law = go (open_shelf_number n shelf)
    where
      go : (c : ℕ) → (open_shelf_by c n shelf).number ≡ c
      go zero = refl
      go (suc c) = refl

  -- a refused one
  pub open_unchanged : ((open_shelf n shelf).number ≡ 0 → ⊥) → (open_shelf n shelf).shelf ≡ shelf
  unfolding open_shelf open_shelf_by
  open_unchanged d = go (open_shelf_number n shelf) d
    where
      go : (c : ℕ) → ((open_shelf_by c n shelf).number ≡ 0 → ⊥) → (open_shelf_by c n shelf).shelf ≡ shelf
      go zero d = absurd (d refl)
      go (suc c) d = refl

module _ (n : ℕ) (shelf : List ℕ) (z : open_shelf_number n shelf ≡ 0) where
  abbrev size : ℕ
  size = place_size n

  abbrev after : List ℕ
  after = (open_shelf n shelf).shelf

  abbrev room : 3 * place_size n ≤ length shelf
  room = (shelf_passed n shelf z).1

  abbrev one : List ℕ
  one = put (0 ∷ []) 0 shelf

  abbrev two : List ℕ
  two = put (0 ∷ []) size one

  opened_is : after ≡ put (0 ∷ []) (2 * size) two
  unfolding open_shelf open_shelf_by unused_shelf
  opened_is = ap (λ (c : ℕ). (open_shelf_by c n shelf).shelf) z

  length_one : length one ≡ length shelf
  length_one = length_put (0 ∷ []) 0 shelf (omega (arith, room))

  length_two : length two ≡ length shelf
  length_two = length_put (0 ∷ []) size one (omega (arith, length_one, room)) ∙ length_one

  -- the used cell of each place
  cell : (i : ℕ) → i < 3 → get_or after (i * size) 0 ≡ 0
  cell zero h =
      rw (zero-mul size, opened_is)
      (put_cell_before (0 ∷ []) (2 * size) two (omega (arith, length_two, room)) 0 (omega arith)
      ∙ put_cell_before (0 ∷ []) size one (omega (arith, length_one, room)) 0 (omega arith)
      ∙ put_cell 0 0 shelf (omega (arith, room)))
  cell (suc zero) h =
      rw opened_is
      (put_cell_before (0 ∷ []) (2 * size) two (omega (arith, length_two, room)) (1 * size) (omega arith)
      ∙ rw (one-mul size) (put_cell 0 size one (omega (arith, length_one, room))))
  cell (suc (suc zero)) h = rw opened_is (put_cell 0 (2 * size) two (omega (arith, length_two, room)))
  cell (suc (suc (suc i))) h = absurd (omega arith)

  place_cell : (i : ℕ) → i < 3 → get_or (place n i after) 0 0 ≡ 0
  unfolding place
  place_cell i h = part_cell (i * size) size after (omega arith) ∙ cell i h

  pub none_used : (i : ℕ) → i < 3 → used (place n i after) ≡ false
  unfolding used
  none_used i h = rw (place_cell i h) refl

  pub opened_right : shelf_right n after ≡ true
  opened_right = all_right n after (λ i h. sym (right_unused n (place n i after) (place_cell i h)))
