-- Cells put into a slice: the parts of it that are those cells, and those that stay.
use mathlib.Core.List.{List, [], ◌∷◌, ◌++◌, append_assoc}
use mathlib.Core.Path.{◌≡◌, refl, sym, ap, ◌∙◌}
use Prim.Native.Nat.{ℕ, ◌+◌, ◌-◌, ◌≤◌, ◌<◌}
use native.Mathlib.Nat.{add-zero}
use native.Mathlib.Omega.{arith}
use lib.ListN.{length, get_or, take, drop, length-append, length-take, length-drop, take-append-drop}
use lib.Seq.{take_at, take-take, length-take-le, take-append-le, take-append_seam, drop-append-le, drop-append-add, drop_at, drop-drop, get_or-drop, get_or-take}
use Rattle.memory.specs.Cells.{over}
use Rattle.text.specs.Places.{put, Puts}
use borrow.Rule.Slice.PartMut.{put_mid}
use Rattle.text.proofs.Putting.{puts_then, put_front}
use Rattle.shelf.specs.Shelf.{part}
use Rattle.shelf.specs.inner.Copies.{Copied}

-- a list of two parts, from a place in the second on
pub skip : (a b : List ℕ) (from m : ℕ) → from ≡ length a + m → drop from (a ++ b) ≡ drop m b
skip a b from m e = rw e (drop-append-add a b m)

-- the front part
pub first : (a b : List ℕ) (size : ℕ) → length a ≡ size → take size (a ++ b) ≡ a
first a b size e = rw (← e) (take-append_seam a b)

module _ (cells : List ℕ) (at : ℕ) (xs : List ℕ) (room : at + length cells ≤ length xs) where
  long : length (take at xs) ≡ at
  long = length-take-le at xs (omega arith)

  pub length_put : length (put cells at xs) ≡ length xs
  unfolding put
  length_put =
      omega (
        arith,
        long,
        length-append (take at xs) (cells ++ drop (at + length cells) xs),
        length-append cells (drop (at + length cells) xs),
        length-drop (at + length cells) xs,
      )

  -- the part that they fill
  pub put_here : part at (length cells) (put cells at xs) ≡ cells
  unfolding put
  put_here =
      ap (λ (l : List ℕ). take (length cells) l) (drop_at (take at xs) (cells ++ drop (at + length cells) xs) at long)
      ∙ take-append_seam cells (drop (at + length cells) xs)

  -- a part before them
  before : (from size : ℕ) → from + size ≤ at → (r : List ℕ) → part from size (take at xs ++ r) ≡ take size (drop from (take at xs))
  before from size h r =
      let room-from : from ≤ length (take at xs) = omega (arith, long) in
      let room-size : size ≤ length (drop from (take at xs)) = omega (arith, long, length-drop from (take at xs)) in
      ap (λ (l : List ℕ). take size l) (drop-append-le from (take at xs) r room-from)
      ∙ take-append-le size (drop from (take at xs)) r room-size

  pub put_before : (from size : ℕ) → from + size ≤ at → part from size (put cells at xs) ≡ part from size xs
  unfolding put
  put_before from size h =
      before from size h (cells ++ drop (at + length cells) xs)
      ∙ sym (before from size h (drop at xs))
      ∙ ap (λ (l : List ℕ). part from size l) (take-append-drop at xs)

  -- a part after them
  after_put : drop (at + length cells) (put cells at xs) ≡ drop (at + length cells) xs
  unfolding put
  after_put =
      ap (λ (l : List ℕ). drop (at + length cells) l) (sym (append_assoc (take at xs) cells (drop (at + length cells) xs)))
      ∙ drop_at (take at xs ++ cells) (drop (at + length cells) xs) (at + length cells) (omega (arith, long, length-append (take at xs) cells))

  pub drop_after : (from : ℕ) → at + length cells ≤ from → drop from (put cells at xs) ≡ drop from xs
  drop_after from h =
      let e : (at + length cells) + (from - (at + length cells)) ≡ from = omega arith in
      let from_end : (l : List ℕ) → drop from l ≡ drop (from - (at + length cells)) (drop (at + length cells) l) =
      λ l. ap (λ (k : ℕ). drop k l) (sym e) ∙ sym (drop-drop (from - (at + length cells)) (at + length cells) l) in
      from_end (put cells at xs) ∙ ap (λ (l : List ℕ). drop (from - (at + length cells)) l) after_put ∙ sym (from_end xs)

  pub put_after : (from size : ℕ) → at + length cells ≤ from → part from size (put cells at xs) ≡ part from size xs
  put_after from size h = ap (λ (l : List ℕ). take size l) (drop_after from h)

  -- others of the same number put over them
  pub put_again : (new : List ℕ) → length new ≡ length cells → put new at (put cells at xs) ≡ put new at xs
  unfolding put
  put_again new e =
      ap (λ (l : List ℕ). l ++ (new ++ drop (at + length new) (put cells at xs))) (take_at (take at xs) (cells ++ drop (at + length cells) xs) at long)
      ∙ ap (λ (l : List ℕ). take at xs ++ (new ++ l)) (drop_after (at + length new) (omega arith))

-- copied cells are put
pub copied_puts : (cells : List ℕ) (size at : ℕ) (to : List ℕ) (r : ℕ) (to' : List ℕ) → size ≤ length cells → Copied cells size at to r to'
    → Puts (take size cells) at to r to'
copied_puts cells size at to r to' h p =
    record { next = omega (arith, p.next, length-take-le size cells h); left = p.left }

-- cells copied over a part of a slice are put there
pub part_put : (cells : List ℕ) (size at k : ℕ) (to new : List ℕ) → size ≤ length cells → k ≡ size → new ≡ take size cells
    → put_mid at k to new ≡ put (take size cells) at to
unfolding put
part_put cells size at k to new h e f = rw (f, e, length-take-le size cells h, drop-drop size at to)

-- a part copied to the front, where all that follows its start was lent
pub copied_front : (place : List ℕ) (start size : ℕ) (to : List ℕ) (r : ℕ) (to' : List ℕ) → start + size ≤ length place
    → Copied (take (length place - start) (drop start place)) size 0 to r to' → to' ≡ over (part start size place) to
unfolding over
copied_front place start size to r to' h p =
    p.left
    ∙ put_front (take size (take (length place - start) (drop start place))) to
    ∙ rw (take-take size (length place - start) (drop start place) (omega arith)) refl

-- the length of a part that is lent
pub length_lent : (a e size : ℕ) (xs : List ℕ) → e ≡ a + size → a + size ≤ length xs → length (take (e - a) (drop a xs)) ≡ size
length_lent a e size xs h k = omega (arith, length-take (e - a) (drop a xs), length-drop a xs)

-- the first cell of a part is a cell of the whole
pub part_cell : (from size : ℕ) (xs : List ℕ) → 0 < size → get_or (part from size xs) 0 0 ≡ get_or xs from 0
part_cell from size xs h = get_or-take size (drop from xs) 0 0 h ∙ rw (add-zero from) at (get_or-drop from xs 0 0)

-- one after the other, where all have room
module _ (a : List ℕ) (at : ℕ) (out : List ℕ) (r : ℕ) (out' : List ℕ) (p : Puts a at out r out') where
  pub puts_long : at + length a ≤ length out → length out' ≡ length out
  puts_long room = rw p.left (length_put a at out room)

  pub puts_more : (b : List ℕ) (k : ℕ) (end : List ℕ) → at + length (a ++ b) ≤ length out → Puts b r out' k end → Puts (a ++ b) at out k end
  puts_more b k end room q = puts_then a b at out (omega (arith, length-append a b)) r k out' end p q

-- one cell put, and a cell before those that are put
pub put_cell : (v at : ℕ) (xs : List ℕ) → at < length xs → get_or (put (v ∷ []) at xs) at 0 ≡ v
put_cell v at xs h =
    sym (part_cell at 1 (put (v ∷ []) at xs) (omega arith))
    ∙ ap (λ (l : List ℕ). get_or l 0 0) (put_here (v ∷ []) at xs (omega arith))

pub put_cell_before : (cells : List ℕ) (at : ℕ) (xs : List ℕ) → at + length cells ≤ length xs → (i : ℕ) → i < at
    → get_or (put cells at xs) i 0 ≡ get_or xs i 0
put_cell_before cells at xs room i h =
    sym (part_cell i 1 (put cells at xs) (omega arith))
    ∙ ap (λ (l : List ℕ). get_or l 0 0) (put_before cells at xs room i 1 (omega arith))
    ∙ part_cell i 1 xs (omega arith)
