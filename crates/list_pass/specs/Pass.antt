-- What the call that reads a list answers and leaves, of what it is lent (01, "The list" and "The questions"; 02, N6: K rows; N12: `V 2`).
use Rattle.std.specs.Prelude.{true, cond, List, [], ◌∷◌, ℕ, zero, suc, ltb, leb, length}
use Rattle.rule.specs.Graph.{neighbours}
use Rattle.rule.specs.declared.Kind.TheVariants.{Striking}
use Rattle.planner.specs.Questions.{◌else◌, first_no}
use Rattle.memory.specs.Memory.{Memory}
use Rattle.planner.specs.States.{State, make, entry_number, enter, begin, begin_number}
use Rattle.list_rows.specs.declared.row.Change.{Change}
use Rattle.list_rows.specs.declared.row.Change.TheVariants.{One, StrikeAll}
use Rattle.list_rows.specs.declared.row.Row.{Row}
use Rattle.list_rows.specs.declared.row.Row.TheVariants.{Banks, Edit, Unreadable, Retired}
use Rattle.list_rows.specs.Rows.{row_of, rows_by, first_row}
use Rattle.list_pass.specs.declared.Reading.{Reading}

-- what the call leaves: the number and the row, and the memory
pub record ListResult : Type 0 where
  pub answer : Reading
  pub memory : Memory

-- short names of a result and of an answer
abbrev pub list_result : Reading → Memory → ListResult
list_result answer memory = record { answer = answer; memory = memory }

abbrev pub reading : ℕ → ℕ → Reading
reading number row = record { number = number; row = row }

-- the clashes of b with these banks struck, one after the other
unfoldable pub strike_each : ℕ → List ℕ → State → State
strike_each b [] s = s
strike_each b (v ∷ vs) s = strike_each b vs (make Striking b v s)

-- the state once an edit row has come
abbrev pub started : State → State
started s = record { graph = s.graph; memory = s.memory; begun = true }

-- `+ a b` adds, `- a b` strikes, `K b r` sets a rank, `D b` strikes all clashes of b, lowest neighbour first
unfoldable pub change : Change → State → State
change (One e) s = enter e s
change (StrikeAll b) s = strike_each b.0 (neighbours s.graph b.0) (started s)

-- questions 7 to 11 of a row's edit; of a K row 18 and question 7
unfoldable pub change_number : Change → State → ℕ
change_number (One e) s = entry_number e s
change_number (StrikeAll b) s = first_no ((ltb b.0 s.graph.banks else 4) ∷ [])

-- a later row: question 6, is it one of the four forms, and no D row of a V 2 list; then those of its edit or its rank
unfoldable pub row_number : Row → State → ℕ
row_number (Banks n) s = 11
row_number (Edit c) s = change_number c s
row_number Unreadable s = 11
row_number Retired s = 23

-- what a later row does
unfoldable pub step : Row → State → State
step (Banks n) s = s
step (Edit c) s = change c s
step Unreadable s = s
step Retired s = s

-- by the number of row i: on to the rest, or the refusal
unfoldable pub pass_by : ℕ → ℕ → State → ListResult → ListResult
pass_by zero i s rest = rest
pass_by (suc c) i s rest = list_result (reading (suc c) i) s.memory

-- the rows from number i on, by what they say
unfoldable pub pass : ℕ → List Row → State → ListResult
pass i [] s = list_result (reading 0 0) s.memory
pass i (r ∷ rs) s = pass_by (row_number r s) i s (pass (suc i) rs (step r s))

-- row i is the N row; by the number of questions 3 and 4: on to the later rows, or the refusal
unfoldable pub begin_by : ℕ → ℕ → ℕ → List Row → Memory → ListResult
begin_by i zero n rs m = pass (suc i) rs (begin n m)
begin_by i (suc c) n rs m = list_result (reading (suc c) i) m

-- question 2: is row i an N row?
unfoldable pub from_first : ℕ → Row → List Row → Memory → ListResult
from_first i (Banks n) rs m = begin_by i (begin_number n m) n rs m
from_first i (Edit c) rs m = list_result (reading 10 i) m
from_first i Unreadable rs m = list_result (reading 10 i) m
from_first i Retired rs m = list_result (reading 10 i) m

-- question 2 of all rows from i on: without any, there is no row i of that form
unfoldable pub from_rows : ℕ → List Row → Memory → ListResult
from_rows i [] m = list_result (reading 10 i) m
from_rows i (r ∷ rs) m = from_first i r rs m

-- a list whose rows say what `say` gives, from its N row on; question 1: is it at most 60,000 bytes?
abbrev pub read_by : (List ℕ → Row) → List ℕ → Memory → ListResult
read_by say bytes m = cond (leb (length bytes) 60000) (from_rows (first_row bytes) (rows_by say bytes) m) (list_result (reading 9 0) m)

-- the call
unfoldable pub read_list : List ℕ → Memory → ListResult
read_list bytes m = read_by row_of bytes m
