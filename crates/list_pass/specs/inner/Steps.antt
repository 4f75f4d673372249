-- What the functions under `read_list_core` ask (the records Asks ..) and promise.
use Rattle.std.specs.Prelude.{Bool, true, false, List, map, ◌≡◌, ℕ, zero, suc, ◌+◌, ◌-◌, ◌≤◌, ◌<◌, length, take, drop}
use Rattle.rule.specs.Graph.{Graph}
use Rattle.memory.specs.Memory.{Memory, Ready}
use Rattle.rule.specs.declared.Bank.{Bank}
use Rattle.planner.specs.States.{State, begun_by, begin_number}
use Rattle.planner.specs.inner.Held.{HoldsState, at, Fresh, tried, Stands, RankFits}
use Rattle.list_rows.specs.declared.row.Change.{Change}
use Rattle.list_rows.specs.declared.row.Change.TheVariants.{One, StrikeAll}
use Rattle.list_rows.specs.declared.row.Row.{Row}
use Rattle.list_rows.specs.declared.row.Row.TheVariants.{Banks, Edit, Unreadable, Retired}
use Rattle.text.specs.Text.{rows}
use Rattle.list_rows.specs.Rows.{row_of, say_in, n_row, list_v2, rows_of}
use Rattle.list_pass.specs.declared.Reading.{Reading}
use Rattle.list_pass.specs.declared.Listed.{Listed}
use Rattle.planner.specs.declared.Edited.{Edited}
use Rattle.text.specs.Places.{before}
use Rattle.list_pass.specs.declared.Step.{Step}
use Rattle.list_pass.specs.declared.First.{First}
use Rattle.list_pass.specs.Pass.{reading, list_result, change_number, change, row_number, step, pass, begin_by}

-- a row's rank is at most 9,999
abbrev pub ChangeFits : Change → Type 0
ChangeFits (One e) = RankFits e
ChangeFits (StrikeAll b) = Unit {0}

-- memory holds a plan, at this point of a pass, and the row's rank fits
pub record Asks (begun : Bool) (c : Change) (m : Memory) : Type 0 where
  pub held : HoldsState begun m
  pub fits : ChangeFits c

-- memory holds a plan, at this point of a pass, and a row starts at `start`
pub record AsksRow (list : List ℕ) (start : ℕ) (begun : Bool) (m : Memory) : Type 0 where
  pub held : HoldsState begun m
  pub inside : start < length list

-- memory holds a plan with no clash, and the row after row i starts at `first`, if there is one
pub record AsksRows (list : List ℕ) (i first : ℕ) (m : Memory) : Type 0 where
  pub held : HoldsState false m
  pub few : length list ≤ 60000
  pub later : i ≤ first
  pub inside : first ≤ length list + 1

-- the row after row i starts at `next`, if there is one
pub record AsksBegin (list : List ℕ) (i next : ℕ) : Type 0 where
  pub few : length list ≤ 60000
  pub later : i ≤ next
  pub inside : next ≤ length list + 1

-- a row's edit or rank gets this number and leaves m'
pub record Changes (c : Change) (s : State) (number : ℕ) (m' : Memory) : Type 0 where
  pub is : number ≡ change_number c s
  pub stands : Stands (tried (change_number c s) (change c s) s) m'

-- the same of whichever plan the memory holds
pub record Applies (c : Change) (begun : Bool) (m : Memory) (r : Edited) (m' : Memory) : Type 0 where
  pub of : (G : Graph) → Ready G m → Fresh begun G → Changes c (at begun G m) r.answer.number m'

-- all clashes of b are struck, wherever the pass stands
abbrev pub StrikesAll : Bank → Memory → Edited → Memory → Type 0
StrikesAll b m r m' = (begun : Bool) → Applies (StrikeAll b) begun m r m'

-- has an edit come, once this row has?
unfoldable pub change_begun : Change → Bool → Bool
change_begun (One e) begun = begun_by e begun
change_begun (StrikeAll b) begun = true

-- a later row gets this number and leaves m'
pub record RowDone (r : Row) (s : State) (number : ℕ) (m' : Memory) : Type 0 where
  pub is : number ≡ row_number r s
  pub stands : Stands (tried (row_number r s) (step r s) s) m'

-- where the row that starts at `start` ends, and its bytes
unfoldable pub row_end : List ℕ → ℕ → ℕ
row_end list start = start + before 10 (drop start list)

unfoldable pub row_at : List ℕ → ℕ → List ℕ
row_at list start = take (row_end list start - start) (drop start list)

-- what the rows of these bytes say, in a V 2 list or not
abbrev pub said_rows : Bool → List ℕ → List Row
said_rows v bytes = map (say_in row_of v) (rows bytes)

-- where the N row starts, and which row it is
pub record StartsAt (list : List ℕ) (r : First) : Type 0 where
  pub v2 : r.v2 ≡ list_v2 list
  pub row : r.row ≡ n_row r.v2
  pub rows : rows_of list ≡ said_rows r.v2 (drop r.start list)
  pub inside : r.start ≤ length list
  pub later : r.row ≤ r.start + 1

-- the number of a row that makes no edit
unfoldable pub no_edit : Row → ℕ
no_edit (Banks n) = 11
no_edit (Edit c) = 11
no_edit Unreadable = 11
no_edit Retired = 23

-- the row that starts at `start`, which is row i, is done
pub record EditsRow (list : List ℕ) (v : Bool) (start i : ℕ) (begun : Bool) (m : Memory) (r : Step) (m' : Memory) : Type 0 where
  pub row : r.row ≡ i
  pub next : r.next ≡ row_end list start + 1
  pub on : start < r.next
  pub within : r.next ≤ length list + 1
  pub of : (G : Graph) → Ready G m → Fresh begun G → RowDone (say_in row_of v (row_at list start)) (at begun G m) r.number m'
  pub came : (G : Graph) → r.number ≡ 0 → r.begun ≡ (step (say_in row_of v (row_at list start)) (at begun G m)).begun

-- the rows after row i, the first of which starts at `first`, are done
pub record ReadsEdits (list : List ℕ) (v : Bool) (i first : ℕ) (m : Memory) (r : Listed) (m' : Memory) : Type 0 where
  pub of : (G : Graph) → Ready G m → Fresh false G → list_result r.answer m' ≡ pass (suc i) (said_rows v (drop first list)) (at false G m)

-- the N row, row i, of n banks, and the later ones, which start at `next`, are done
pub record Begins (list : List ℕ) (v : Bool) (i next n : ℕ) (m : Memory) (r : Listed) (m' : Memory) : Type 0 where
  pub is : list_result r.answer m' ≡ begin_by i (begin_number n m) n (said_rows v (drop next list)) m

-- the answer of a pass whose last row has this number
unfoldable pub ending : ℕ → ℕ → Reading
ending zero i = reading 0 0
ending (suc c) i = reading (suc c) i
