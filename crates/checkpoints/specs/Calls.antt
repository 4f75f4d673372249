-- What the calls on the shelf answer and leave, of what they are lent (02, N5; N9: the cap).
use Rattle.std.specs.Prelude.{Bool, ◌&&◌, not, List, [], ◌∷◌, ℕ, zero, suc, ◌*◌, eqb, leb, length, get_or, Result, Ok, Err}
use Rattle.rule.specs.Lists.{upto, filter}
use Rattle.rule.specs.declared.refusal.Refusal.{Refusal}
use Rattle.rule.specs.Refusals.{number_of}
use Rattle.memory.specs.declared.Tally.{Tally}
use Rattle.memory.specs.Cells.{over}
use Rattle.memory.specs.Plan.{Slices, long_enough, holds}
use Rattle.planner.specs.Questions.{◌else◌, first_no}
use Rattle.text.specs.Places.{put}
use Rattle.shelf.specs.Names.{place_of, known}
use Rattle.checkpoints.specs.declared.CameBack.{CameBack}
use Rattle.shelf.specs.Shelf.{place_size, shelf_size, place, used, slices_in, tally_in, shelf_right, place_cells}

-- has the shelf room for n banks?
unfoldable pub shelf_long : ℕ → List ℕ → Bool
shelf_long n shelf = leb (shelf_size n) (length shelf)

-- the questions of opening a shelf
unfoldable pub open_shelf_number : ℕ → List ℕ → ℕ
open_shelf_number n shelf = first_no ((leb n 1024 else 1) ∷ (shelf_long n shelf else 2) ∷ [])

-- the questions of keeping
unfoldable pub keep_number : Slices → Tally → List ℕ → List ℕ → ℕ
keep_number s t name shelf =
    let n = t.banks in
    first_no
    ((leb n 1024 else 1)
    ∷ (long_enough n s && shelf_long n shelf else 2)
    ∷ (holds s t && shelf_right n shelf else 3)
    ∷ (known name else 16)
    ∷ [])

-- the questions of coming back
unfoldable pub back_number : Slices → Tally → List ℕ → List ℕ → List ℕ → ℕ
back_number s t moved name shelf =
    let n = t.banks in
    first_no
    ((leb n 1024 else 1)
    ∷ (long_enough n s && (leb n (length moved) && shelf_long n shelf) else 2)
    ∷ (holds s t && shelf_right n shelf else 3)
    ∷ (known name else 16)
    ∷ (used (place n (place_of name) shelf) else 17)
    ∷ [])

-- what opening a shelf and keeping leave
pub record ShelfResult : Type 0 where
  pub number : ℕ
  pub shelf : List ℕ

abbrev pub shelf_result : ℕ → List ℕ → ShelfResult
shelf_result number shelf = record { number = number; shelf = shelf }

-- the shelf with no place used: the three used cells are 0
unfoldable pub unused_shelf : ℕ → List ℕ → List ℕ
unused_shelf n shelf = put (0 ∷ []) (2 * place_size n) (put (0 ∷ []) (place_size n) (put (0 ∷ []) 0 shelf))

-- by the number of the first no
unfoldable pub open_shelf_by : ℕ → ℕ → List ℕ → ShelfResult
open_shelf_by zero n shelf = shelf_result 0 (unused_shelf n shelf)
open_shelf_by (suc c) n shelf = shelf_result (suc c) shelf

-- the call open_shelf
unfoldable pub open_shelf : ℕ → List ℕ → ShelfResult
open_shelf n shelf = open_shelf_by (open_shelf_number n shelf) n shelf

-- the shelf with the plan kept under the name: its place is used and holds the plan's cells and tally, its cap included, all else stays
unfoldable pub kept_under : List ℕ → Slices → Tally → List ℕ → List ℕ
kept_under name s t shelf = put (place_cells s t) (place_of name * place_size t.banks) shelf

-- by the number of the first no
unfoldable pub keep_by : ℕ → List ℕ → Slices → Tally → List ℕ → ShelfResult
keep_by zero name s t shelf = shelf_result 0 (kept_under name s t shelf)
keep_by (suc c) name s t shelf = shelf_result (suc c) shelf

-- the call keep
unfoldable pub keep : List ℕ → Slices → Tally → List ℕ → ShelfResult
keep name s t shelf = keep_by (keep_number s t name shelf) name s t shelf

-- what coming back leaves beside the shelf
pub record BackResult : Type 0 where
  pub number : ℕ
  pub count : ℕ
  pub slices : Slices
  pub tally : Tally
  pub moved : List ℕ

abbrev pub back_result : ℕ → ℕ → Slices → Tally → List ℕ → BackResult
back_result number count slices tally moved = record { number = number; count = count; slices = slices; tally = tally; moved = moved }

-- by its answer: refused, no bank is listed, and the tally is as it was
abbrev pub back_left : Result CameBack Refusal → Slices → Tally → List ℕ → BackResult
back_left (Ok r) slices tally moved = back_result 0 r.moved slices r.tally moved
back_left (Err e) slices tally moved = back_result (number_of e) 0 slices tally moved

-- the banks of n whose wave differs, ascending
unfoldable pub differing : ℕ → List ℕ → List ℕ → List ℕ
differing n old new = filter (λ b. not (eqb (get_or old b 0) (get_or new b 0))) (upto n)

-- the slices with these cells at their fronts
unfoldable pub over_all : Slices → Slices → Slices
over_all cells s = record {
  neighbours = over cells.neighbours s.neighbours;
  degrees = over cells.degrees s.degrees;
  waves = over cells.waves s.waves;
  counts = over cells.counts s.counts;
  ranks = over cells.ranks s.ranks;
}

-- plan memory and tally of n banks become what the place holds, the kept cap included; the banks whose wave differs are listed and counted
unfoldable pub came_back : ℕ → List ℕ → Slices → List ℕ → BackResult
came_back n cells s moved =
    let kept = slices_in n cells in
    let banks = differing n s.waves kept.waves in
    back_result 0 (length banks) (over_all kept s) (tally_in n cells) (over banks moved)

-- by the number of the first no
unfoldable pub back_by : ℕ → List ℕ → Slices → Tally → List ℕ → List ℕ → BackResult
back_by zero name s t moved shelf = came_back t.banks (place t.banks (place_of name) shelf) s moved
back_by (suc c) name s t moved shelf = back_result (suc c) 0 s t moved

-- the call come_back
unfoldable pub come_back : List ℕ → Slices → Tally → List ℕ → List ℕ → BackResult
come_back name s t moved shelf = back_by (back_number s t moved name shelf) name s t moved shelf
