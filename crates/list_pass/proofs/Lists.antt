-- A list from its bytes to its end: what its rows say decides, and its N row opens a plan or the list is refused there.
use mathlib.Core.Bool.{Bool, true, false, cond, not}
use mathlib.Core.List.{List, [], ◌∷◌, map}
use mathlib.Core.Path.{◌≡◌, refl, sym, ap, ap₂, ◌∙◌}
use Prim.Native.Nat.{ℕ, zero, suc, ◌≤◌}
use native.Mathlib.Omega.{arith}
use lib.Dec.{T, leb}
use lib.ListN.{length, take}
use borrow.Author.Tests.{le-leb, leb-true}
use Rattle.rule.specs.declared.Bank.{Bank}
use Rattle.rule.specs.Graph.{Graph, Same}
use Rattle.rule.proofs.Booleans.{and_l, and_r}
use Rattle.memory.specs.declared.Tally.{Tally}
use Rattle.memory.specs.Plan.{Slices, tally_of, PlanOf}
use Rattle.memory.specs.PlanCells.{plan_cells}
use Rattle.memory.specs.Memory.{Memory}
use Rattle.memory.proofs.Theorems.{same_cells, tally_agree}
use Rattle.planner.specs.States.{State, begin, begin_number}
use Rattle.text.specs.Text.{onto, rows}
use Rattle.list_rows.specs.declared.row.Change.{Change}
use Rattle.list_rows.specs.declared.row.Change.TheVariants.{One, StrikeAll}
use Rattle.list_rows.specs.declared.row.Row.{Row}
use Rattle.list_rows.specs.declared.row.Row.TheVariants.{Banks, Edit, Unreadable, Retired}
use Rattle.list_rows.specs.Rows.{row_of, is_v2, retire, retire_change, say_in, from_n, n_row, start_v2, list_v2, rows_by, rows_of, first_row}
use Rattle.list_rows.specs.Unpadded.{unpadded_row, plain_row}
use Rattle.list_rows.proofs.Theorems.{row_kept, read_row_kept, v_row}
use Rattle.list_pass.specs.Pass.{ListResult, list_result, reading, row_number, step, pass_by, pass, begin_by, from_first, from_rows, read_list}
use Rattle.list_pass.specs.Ends.{after, after_first, after_rows, end_of, FirstOpens, RefusedAfter, read_unpadded, plain_rows, read_versionless, change_d, row_d, no_d, one_on_by, one_on}
use Rattle.planner.proofs.RanksSet.{Sound}
use Rattle.list_pass.proofs.Fits.{AllFit, take_fit}
use Rattle.list_pass.proofs.Kept.{pass_accepted, pass_before, by_accepted}

pub within : (bytes : List ℕ) (m : Memory) → length bytes ≤ 60000 → read_list bytes m ≡ from_rows (first_row bytes) (rows_of bytes) m
unfolding read_list
within bytes m h = rw (le-leb (length bytes) 60000 h)

-- the rows decide
pub rows_decide : (bytes bytes' : List ℕ) (m : Memory) → length bytes ≤ 60000 → length bytes' ≤ 60000 → first_row bytes ≡ first_row bytes'
    → rows_of bytes ≡ rows_of bytes' → read_list bytes m ≡ read_list bytes' m
rows_decide bytes bytes' m h h' i e = within bytes m h ∙ ap₂ (λ (i : ℕ) (rs : List Row). from_rows i rs m) i e ∙ sym (within bytes' m h')

pub bytes_decide : (bytes bytes' : List ℕ) (m : Memory) → length bytes ≤ 60000 → length bytes' ≤ 60000 → rows bytes ≡ rows bytes' → read_list bytes m ≡ read_list bytes' m
bytes_decide bytes bytes' m h h' e =
    rows_decide bytes bytes' m h h' (ap (λ (rs : List (List ℕ)). n_row (start_v2 rs)) e) (ap (λ (rs : List (List ℕ)). map (say_in row_of (start_v2 rs)) (from_n (start_v2 rs) rs)) e)

-- where the N row opens a plan, the rest is the pass over the later rows
pub opens_pass : (bytes : List ℕ) (m : Memory) (n : ℕ) (rs : List Row) → FirstOpens bytes m n rs → read_list bytes m ≡ pass (suc (first_row bytes)) rs (begin n m)
unfolding from_rows from_first begin_by
opens_pass bytes m n rs o = within bytes m o.within ∙ rw (o.rows, o.number)

-- every other list is refused at row 0 or at its N row, with memory as it was
pub data Start (bytes : List ℕ) (m : Memory) : Type 0 where
  opens : (n : ℕ) (rs : List Row) → FirstOpens bytes m n rs → Start bytes m
  refuses : (c i : ℕ) → i ≤ first_row bytes → read_list bytes m ≡ list_result (reading (suc c) i) m → Start bytes m

start_by-law : (bytes : List ℕ) (m : Memory) → length bytes ≤ 60000 → (n : ℕ) (rs : List Row) → rows_of bytes ≡ Banks n ∷ rs
    → (k : ℕ) → begin_number n m ≡ k → Start bytes m
unfolding from_rows from_first begin_by
start_by-law bytes m h n rs e zero z = opens n rs (record { within = h; rows = e; number = z })
start_by-law bytes m h n rs e (suc c) z = refuses c (first_row bytes) (omega arith) (within bytes m h ∙ rw (e, z))

start_rows : (bytes : List ℕ) (m : Memory) → length bytes ≤ 60000 → (l : List Row) → rows_of bytes ≡ l → Start bytes m
unfolding from_rows from_first
start_rows bytes m h [] e = refuses 9 (first_row bytes) (omega arith) (within bytes m h ∙ rw e)
start_rows bytes m h (Banks n ∷ rs) e = start_by-law bytes m h n rs e (begin_number n m) refl
start_rows bytes m h (Edit c ∷ rs) e = refuses 9 (first_row bytes) (omega arith) (within bytes m h ∙ rw e)
start_rows bytes m h (Unreadable ∷ rs) e = refuses 9 (first_row bytes) (omega arith) (within bytes m h ∙ rw e)
start_rows bytes m h (Retired ∷ rs) e = refuses 9 (first_row bytes) (omega arith) (within bytes m h ∙ rw e)

start_long : (bytes : List ℕ) (m : Memory) (b : Bool) → leb (length bytes) 60000 ≡ b → Start bytes m
unfolding read_list
start_long bytes m true e = start_rows bytes m (leb-true (length bytes) 60000 e) (rows_of bytes) refl
start_long bytes m false e = refuses 8 0 (omega arith) (rw e)

pub start : (bytes : List ℕ) (m : Memory) → Start bytes m
start bytes m = start_long bytes m (leb (length bytes) 60000) refl

-- where an accepted list ends
pub end_after : (bytes : List ℕ) (m : Memory) (n : ℕ) (rs : List Row) → FirstOpens bytes m n rs → end_of bytes m ≡ after rs (begin n m)
unfolding end_of after_rows after_first
end_after bytes m n rs o = rw o.rows

-- a refused pass leaves the plan of the rows before
pub pass_refused : (i n : ℕ) (rs : List Row) (m : Memory) → Sound (begin n m) → AllFit rs → ((pass (suc i) rs (begin n m)).answer.number ≡ 0 → ⊥)
    → RefusedAfter i n rs m (pass (suc i) rs (begin n m))
pass_refused i n rs m h f z =
    let b = pass_before (suc i) rs (begin n m) z in
    let a = pass_accepted (suc i) (take b.0 rs) (begin n m) h (take_fit b.0 rs f) (ap (λ (e : ListResult). e.answer.number) b.2) in
    let same : (pass (suc i) rs (begin n m)).memory ≡ (after (take b.0 rs) (begin n m)).memory = sym (ap (λ (e : ListResult). e.memory) b.2) ∙ a.0 in
    record { count = b.0; row = b.1; accepted = b.2; memory = same; plan = rw same a.1 }

-- two plans of as many banks, the same clashes and the same ranks; and under the same cap
module _ (G H : Graph) (s s' : Slices) (t t' : Tally) (p : PlanOf G s t) (p' : PlanOf H s' t') (a : Same G H) where
  pub plans_same_cells : plan_cells H.banks s ≡ plan_cells H.banks s'
  plans_same_cells =
      ap (plan_cells H.banks) (sym p.cells) ∙ same_cells a s s' ∙ ap (plan_cells H.banks) p'.cells

  pub plans_same_tally : t.cap ≡ t'.cap → t ≡ t'
  plans_same_tally e = p.tally ∙ tally_agree a t.cap ∙ ap (λ (c : ℕ). tally_of c H) e ∙ sym p'.tally

-- rows without padding say what they said
same_say : (v : Bool) (r : List ℕ) → row_of r ≡ unpadded_row r → say_in row_of v r ≡ say_in unpadded_row v r
unfolding say_in
same_say false r e = e
same_say true r e = ap retire e

plain_rows-law : (rs : List (List ℕ)) (v : Bool) → T (plain_rows rs) → map (say_in row_of v) rs ≡ map (say_in unpadded_row v) rs
unfolding plain_rows
plain_rows-law [] v t = refl
plain_rows-law (r ∷ rs) v t =
    ap₂ ◌∷◌ (same_say v r (row_kept r (and_l (plain_row r) (plain_rows rs) t))) (plain_rows-law rs v (and_r (plain_row r) (plain_rows rs) t))

from_rows-law : (v : Bool) (rs : List (List ℕ)) → T (plain_rows rs) → map (say_in row_of v) (from_n v rs) ≡ map (say_in unpadded_row v) (from_n v rs)
unfolding from_n plain_rows
from_rows-law false rs t = plain_rows-law rs false t
from_rows-law true [] t = refl
from_rows-law true (r ∷ rs) t = plain_rows-law rs true (and_r (plain_row r) (plain_rows rs) t)

read_rows : (bytes : List ℕ) (m : Memory) → rows_by row_of bytes ≡ rows_by unpadded_row bytes → read_list bytes m ≡ read_unpadded bytes m
unfolding read_list read_unpadded
read_rows bytes m e = ap (λ (rs : List Row). cond (leb (length bytes) 60000) (from_rows (first_row bytes) rs m) (list_result (reading 9 0) m)) e

pub list_kept : (bytes : List ℕ) (m : Memory) → T (plain_rows (rows bytes)) → read_list bytes m ≡ read_unpadded bytes m
list_kept bytes m t = read_rows bytes m (from_rows-law (list_v2 bytes) (rows bytes) t)

-- so do accepted ones
accepted_row : (r : Row) (s : State) → row_number r s ≡ 0 → r ≡ Unreadable → ⊥
unfolding row_number
accepted_row (Banks n) s z e = omega arith
accepted_row (Edit c) s z e = let q : ◌≡◌ {A = ℕ} 0 1 = cc in omega arith
accepted_row Unreadable s z e = omega arith
accepted_row Retired s z e = omega arith

-- a row that reads, in a V 2 list or not, read by itself
reads_by : (v : Bool) (r : List ℕ) → (say_in unpadded_row v r ≡ Unreadable → ⊥) → say_in row_of v r ≡ say_in unpadded_row v r
unfolding say_in retire
reads_by false r n = read_row_kept r n
reads_by true r n = ap retire (read_row_kept r (λ e. n (ap retire e)))

module _ (v : Bool) where
  accepted_rows : (i : ℕ) (rs : List (List ℕ)) (s : State) → (pass i (map (say_in unpadded_row v) rs) s).answer.number ≡ 0
      → map (say_in row_of v) rs ≡ map (say_in unpadded_row v) rs
  unfolding pass
  accepted_rows i [] s z = refl
  accepted_rows i (r ∷ rs) s z =
      let x : Row = say_in unpadded_row v r in
      let p = by_accepted (row_number x s) i s (pass (suc i) (map (say_in unpadded_row v) rs) (step x s)) z in
      ap₂ ◌∷◌ (reads_by v r (accepted_row x s p.0)) (accepted_rows (suc i) rs (step x s) p.1)

  module _ (i : ℕ) (m : Memory) where
    accepted_by : (k n : ℕ) (rs : List (List ℕ)) → (begin_by i k n (map (say_in unpadded_row v) rs) m).answer.number ≡ 0
        → map (say_in row_of v) rs ≡ map (say_in unpadded_row v) rs
    unfolding begin_by
    accepted_by zero n rs z = accepted_rows (suc i) rs (begin n m) z
    accepted_by (suc c) n rs z = absurd (omega (arith, z))

    accepted_first : (r : List ℕ) (rs : List (List ℕ)) (x : Row) → say_in unpadded_row v r ≡ x → (from_first i x (map (say_in unpadded_row v) rs) m).answer.number ≡ 0
        → map (say_in row_of v) (r ∷ rs) ≡ map (say_in unpadded_row v) (r ∷ rs)
    unfolding from_first
    accepted_first r rs (Banks n) e z =
        let reads : say_in unpadded_row v r ≡ Unreadable → ⊥ = λ u. (let q : ◌≡◌ {A = ℕ} 0 1 = cc in omega arith) in
        ap₂ ◌∷◌ (reads_by v r reads) (accepted_by (begin_number n m) n rs z)
    accepted_first r rs (Edit c) e z = absurd (omega (arith, z))
    accepted_first r rs Unreadable e z = absurd (omega (arith, z))
    accepted_first r rs Retired e z = absurd (omega (arith, z))

    accepted_all : (rs : List (List ℕ)) → (from_rows i (map (say_in unpadded_row v) rs) m).answer.number ≡ 0
        → map (say_in row_of v) rs ≡ map (say_in unpadded_row v) rs
    unfolding from_rows
    accepted_all [] z = refl
    accepted_all (r ∷ rs) z = accepted_first r rs (say_in unpadded_row v r) refl z

    accepted_if : (b : Bool) (rs : List (List ℕ)) → (cond b (from_rows i (map (say_in unpadded_row v) rs) m) (list_result (reading 9 0) m)).answer.number ≡ 0
        → map (say_in row_of v) rs ≡ map (say_in unpadded_row v) rs
    accepted_if true rs z = accepted_all rs z
    accepted_if false rs z = absurd (omega (arith, z))

pub accepted_kept : (m : Memory) (bytes : List ℕ) → (read_unpadded bytes m).answer.number ≡ 0 → read_list bytes m ≡ read_unpadded bytes m
unfolding read_unpadded
accepted_kept m bytes z =
    read_rows bytes m (accepted_if (list_v2 bytes) (first_row bytes) m (leb (length bytes) 60000) (from_n (list_v2 bytes) (rows bytes)) z)

-- in a list that does not start with `V 2` rows say what they say by themselves
said_plain : (rs : List (List ℕ)) → map (say_in row_of false) rs ≡ map row_of rs
unfolding say_in
said_plain [] = refl
said_plain (r ∷ rs) = ap (◌∷◌ (row_of r)) (said_plain rs)

pub plain_said : (bytes : List ℕ) → list_v2 bytes ≡ false → rows_of bytes ≡ map row_of (rows bytes)
unfolding from_n
plain_said bytes e = rw e (said_plain (rows bytes))

-- and it reads as it did
pub versionless : (bytes : List ℕ) (m : Memory) → list_v2 bytes ≡ false → read_list bytes m ≡ read_versionless bytes m
unfolding read_list read_versionless n_row from_n
versionless bytes m e = rw e (ap (λ (rs : List Row). cond (leb (length bytes) 60000) (from_rows 1 rs m) (list_result (reading 9 0) m)) (said_plain (rows bytes)))

-- rows counted from one further on
by_on : (c i : ℕ) (s : State) (r : ListResult) → pass_by c (suc i) s (one_on r) ≡ one_on (pass_by c i s r)
unfolding pass_by one_on one_on_by
by_on zero i s r = refl
by_on (suc c) i s r = refl

pass_on : (i : ℕ) (rs : List Row) (s : State) → pass (suc i) rs s ≡ one_on (pass i rs s)
unfolding pass
pass_on i [] s = unfold one_on one_on_by in refl
pass_on i (r ∷ rs) s =
    ap (pass_by (row_number r s) (suc i) s) (pass_on (suc i) rs (step r s)) ∙ by_on (row_number r s) i s (pass (suc i) rs (step r s))

begin_on : (i k n : ℕ) (rs : List Row) (m : Memory) → begin_by (suc i) k n rs m ≡ one_on (begin_by i k n rs m)
unfolding begin_by
begin_on i zero n rs m = pass_on (suc i) rs (begin n m)
begin_on i (suc c) n rs m = unfold one_on one_on_by in refl

-- the N row one further on
pub rows_on : (i : ℕ) (rs : List Row) (m : Memory) → from_rows (suc i) rs m ≡ one_on (from_rows i rs m)
unfolding from_rows from_first
rows_on i [] m = unfold one_on one_on_by in refl
rows_on i (Banks n ∷ rs) m = begin_on i (begin_number n m) n rs m
rows_on i (Edit c ∷ rs) m = unfold one_on one_on_by in refl
rows_on i (Unreadable ∷ rs) m = unfold one_on one_on_by in refl
rows_on i (Retired ∷ rs) m = unfold one_on one_on_by in refl

-- so which row it is changes neither the number nor what is left
on_same : (c : ℕ) (r : ListResult) → r.answer.number ≡ c → ((one_on_by c r).answer.number ≡ r.answer.number) × ((one_on_by c r).memory ≡ r.memory)
unfolding one_on_by
on_same zero r e = (refl, refl)
on_same (suc c) r e = (sym e, refl)

module _ (rs : List Row) (m : Memory) where
  pub any_same : (v : Bool) → let r = from_rows (n_row v) rs m in let q = from_rows 1 rs m in (r.answer.number ≡ q.answer.number) × (r.memory ≡ q.memory)
  unfolding n_row
  any_same false = (refl, refl)
  any_same true = rw (rows_on 1 rs m) (unfold one_on in on_same (from_rows 1 rs m).answer.number (from_rows 1 rs m) refl)

-- a row that is no D row says the same in a V 2 list
change_same : (c : Change) → change_d c ≡ false → retire_change c ≡ Edit c
unfolding change_d retire_change
change_same (One e) d = refl
change_same (StrikeAll b) d = absurd (let o : ◌≡◌ {A = ℕ} 0 1 = cc in omega arith)

retire_same : (r : Row) → row_d r ≡ false → retire r ≡ r
unfolding row_d retire
retire_same (Banks n) d = refl
retire_same (Edit c) d = change_same c d
retire_same Unreadable d = refl
retire_same Retired d = refl

rows_same : (rs : List (List ℕ)) → T (no_d (map row_of rs)) → map (say_in row_of true) rs ≡ map (say_in row_of false) rs
unfolding no_d say_in
rows_same [] t = refl
rows_same (r ∷ rs) t =
    let no : T (not (row_d (row_of r))) = and_l (not (row_d (row_of r))) (no_d (map row_of rs)) t in
    ap₂ ◌∷◌ (retire_same (row_of r) (false_by (row_d (row_of r)) no)) (rows_same rs (and_r (not (row_d (row_of r))) (no_d (map row_of rs)) t))
  where
    false_by : (b : Bool) → T (not b) → b ≡ false
    false_by true n = absurd n
    false_by false n = refl

-- `V 2` and a line feed in front of a list
v2_rows : (bytes : List ℕ) → rows (86 ∷ 32 ∷ 50 ∷ 10 ∷ bytes) ≡ (86 ∷ 32 ∷ 50 ∷ []) ∷ rows bytes
unfolding rows onto
v2_rows bytes = refl

v2_there : (bytes : List ℕ) → list_v2 (86 ∷ 32 ∷ 50 ∷ 10 ∷ bytes) ≡ true
unfolding start_v2 is_v2
v2_there bytes = ap start_v2 (v2_rows bytes)

pub v2_same : (bytes : List ℕ) (m : Memory) → length (86 ∷ 32 ∷ 50 ∷ 10 ∷ bytes) ≤ 60000 → list_v2 bytes ≡ false → T (no_d (map row_of (rows bytes)))
    → read_list (86 ∷ 32 ∷ 50 ∷ 10 ∷ bytes) m ≡ one_on (read_list bytes m)
unfolding n_row from_n
v2_same bytes m h v t =
    within (86 ∷ 32 ∷ 50 ∷ 10 ∷ bytes) m h
    ∙ rw (v2_there bytes, v2_rows bytes, rows_same (rows bytes) t) (rows_on 1 (map (say_in row_of false) (rows bytes)) m)
    ∙ ap one_on (sym without)
  where
    first : from_rows (first_row bytes) (rows_of bytes) m ≡ from_rows 1 (map (say_in row_of false) (rows bytes)) m
    first = unfold n_row from_n in rw v

    without : read_list bytes m ≡ from_rows 1 (map (say_in row_of false) (rows bytes)) m
    without = within bytes m (omega (arith, h)) ∙ first

-- after `V 2`
abbrev pub v2 : List ℕ
v2 = 86 ∷ 32 ∷ 50 ∷ []

after_v2 : (bytes : List ℕ) (m : Memory) (rs : List (List ℕ)) → length bytes ≤ 60000 → rows bytes ≡ v2 ∷ rs
    → read_list bytes m ≡ from_rows 2 (map (say_in row_of true) rs) m
unfolding start_v2 is_v2 n_row from_n
after_v2 bytes m rs h e = within bytes m h ∙ rw e

pub v2_alone : (bytes : List ℕ) (m : Memory) → length bytes ≤ 60000 → rows bytes ≡ v2 ∷ [] → read_list bytes m ≡ list_result (reading 10 2) m
unfolding from_rows
v2_alone bytes m h e = after_v2 bytes m [] h e

-- V rows: at the start, in the place of the N row, and after it
said_v : (v : Bool) (r : List ℕ) → say_in row_of v (86 ∷ r) ≡ Unreadable
unfolding say_in retire
said_v false r = v_row r
said_v true r = ap retire (v_row r)

module _ (bytes : List ℕ) (m : Memory) (r : List ℕ) (rs : List (List ℕ)) (h : length bytes ≤ 60000) where
  pub v_start : rows bytes ≡ (86 ∷ r) ∷ rs → is_v2 (86 ∷ r) ≡ false → read_list bytes m ≡ list_result (reading 10 1) m
  unfolding start_v2 n_row from_n from_rows from_first
  v_start e f = within bytes m h ∙ rw (e, f, said_v false r)

  pub v_second : rows bytes ≡ v2 ∷ (86 ∷ r) ∷ rs → read_list bytes m ≡ list_result (reading 10 2) m
  unfolding from_rows from_first
  v_second e = after_v2 bytes m ((86 ∷ r) ∷ rs) h e ∙ rw (said_v true r)

pub v_later : (v : Bool) (r : List ℕ) (s : State) → row_number (say_in row_of v (86 ∷ r)) s ≡ 11
unfolding row_number
v_later v r s = rw (said_v v r)

-- D rows of a V 2 list
pub d_retired : (r : List ℕ) (b : Bank) (s : State) → row_of r ≡ Edit (StrikeAll b) → row_number (say_in row_of true r) s ≡ 23
unfolding row_number say_in retire retire_change
d_retired r b s e = rw e

pub d_malformed : (r : List ℕ) (s : State) → row_of r ≡ Unreadable → row_number (say_in row_of true r) s ≡ 11
unfolding row_number say_in retire
d_malformed r s e = rw e
