-- What the theorems on lists speak of: a list whose N row opens a plan, the clashes and ranks in which an accepted list ends and those of the rows before
-- a refused one, and how a list read before numbers could be padded, and before it could start with `V 2`.
use Rattle.std.specs.Prelude.{Bool, true, false, cond, not, ◌&&◌, List, [], ◌∷◌, map, ◌≡◌, ℕ, zero, suc, ◌+◌, ◌≤◌, leb, length, take}
use Rattle.memory.specs.Plan.{PlanOf}
use Rattle.memory.specs.Memory.{Memory}
use Rattle.planner.specs.States.{State, begin, begin_number}
use Rattle.text.specs.Text.{rows}
use Rattle.list_rows.specs.declared.row.Change.{Change}
use Rattle.list_rows.specs.declared.row.Change.TheVariants.{One, StrikeAll}
use Rattle.list_rows.specs.declared.row.Row.{Row}
use Rattle.list_rows.specs.declared.row.Row.TheVariants.{Banks, Edit, Unreadable, Retired}
use Rattle.list_rows.specs.Rows.{row_of, rows_of}
use Rattle.list_rows.specs.Unpadded.{unpadded_row, plain_row}
use Rattle.list_pass.specs.Pass.{ListResult, list_result, reading, step, pass, from_rows, read_by}

-- later rows, each accepted: the clashes that they leave, and the memory
unfoldable pub after : List Row → State → State
after [] s = s
after (r ∷ rs) s = after rs (step r s)

-- after an N row that says this
unfoldable pub after_first : Row → List Row → Memory → State
after_first (Banks n) rs m = after rs (begin n m)
after_first (Edit c) rs m = begin 0 m
after_first Unreadable rs m = begin 0 m
after_first Retired rs m = begin 0 m

-- after all rows from the N row on
unfoldable pub after_rows : List Row → Memory → State
after_rows [] m = begin 0 m
after_rows (r ∷ rs) m = after_first r rs m

-- the clashes in which an accepted list ends, and the memory
unfoldable pub end_of : List ℕ → Memory → State
end_of bytes m = after_rows (rows_of bytes) m

-- the N row opens a plan of n banks, and rs are the later rows
pub record FirstOpens (bytes : List ℕ) (m : Memory) (n : ℕ) (rs : List Row) : Type 0 where
  pub within : length bytes ≤ 60000
  pub rows : rows_of bytes ≡ Banks n ∷ rs
  pub number : begin_number n m ≡ 0

-- row i is the N row, and r the refusal of a later row; the rows before it are accepted, all that is left is what they leave, and memory holds the plan of
-- their clashes
pub record RefusedAfter (i n : ℕ) (rs : List Row) (m : Memory) (r : ListResult) : Type 0 where
  pub count : ℕ
  pub row : r.answer.row ≡ suc i + count
  pub accepted : pass (suc i) (take count rs) (begin n m) ≡ list_result (reading 0 0) r.memory
  pub memory : r.memory ≡ (after (take count rs) (begin n m)).memory
  pub plan : PlanOf (after (take count rs) (begin n m)).graph r.memory.slices r.memory.tally

-- the call as it was before numbers could be padded, `V 2` apart
unfoldable pub read_unpadded : List ℕ → Memory → ListResult
read_unpadded bytes m = read_by unpadded_row bytes m

-- are all numbers of all rows of the unpadded form?
unfoldable pub plain_rows : List (List ℕ) → Bool
plain_rows [] = true
plain_rows (r ∷ rs) = plain_row r && plain_rows rs

-- the call as it was before a list could start with `V 2`
unfoldable pub read_versionless : List ℕ → Memory → ListResult
read_versionless bytes m = cond (leb (length bytes) 60000) (from_rows 1 (map row_of (rows bytes)) m) (list_result (reading 9 0) m)

-- does the row strike all clashes of a bank?
unfoldable pub change_d : Change → Bool
change_d (One e) = false
change_d (StrikeAll b) = true

unfoldable pub row_d : Row → Bool
row_d (Banks n) = false
row_d (Edit c) = change_d c
row_d Unreadable = false
row_d Retired = true

-- is none of these rows a D row?
unfoldable pub no_d : List Row → Bool
no_d [] = true
no_d (r ∷ rs) = not (row_d r) && no_d rs

-- the same result with the rows counted from one further on: a refusal at the next row
unfoldable pub one_on_by : ℕ → ListResult → ListResult
one_on_by zero r = r
one_on_by (suc c) r = list_result (reading (suc c) (suc r.answer.row)) r.memory

unfoldable pub one_on : ListResult → ListResult
one_on r = one_on_by r.answer.number r
