-- Theorems on lists: what to cite. Their proofs are in the files beside this one.
use mathlib.Core.Bool.{Bool, true, false}
use mathlib.Core.List.{List, [], ◌∷◌, ◌++◌, map}
use mathlib.Core.Path.{◌≡◌, sym, ap, ◌∙◌}
use Prim.Native.Nat.{ℕ, suc, ◌≤◌}
use native.Mathlib.Omega.{arith}
use lib.Dec.{T}
use lib.ListN.{length, length-append}
use Rattle.rule.specs.declared.Bank.{Bank}
use Rattle.rule.specs.Graph.{Graph, Same}
use Rattle.memory.specs.Plan.{cap_fits, PlanOf}
use Rattle.memory.specs.PlanCells.{plan_cells}
use Rattle.memory.specs.Memory.{Memory}
use Rattle.memory.proofs.Theorems.{widest_cap}
use Rattle.planner.specs.States.{State, begin}
use Rattle.text.specs.Text.{rows}
use Rattle.text.proofs.Theorems.{final_feed}
use Rattle.list_rows.specs.declared.row.Change.TheVariants.{StrikeAll}
use Rattle.list_rows.specs.declared.row.Row.{Row}
use Rattle.list_rows.specs.declared.row.Row.TheVariants.{Edit, Unreadable}
use Rattle.list_rows.specs.Rows.{row_of, is_v2, say_in, list_v2, rows_of, first_row}
use Rattle.list_pass.specs.Pass.{ListResult, list_result, reading, row_number, read_list}
use Rattle.list_pass.specs.Ends.{end_of, FirstOpens, RefusedAfter, read_unpadded, plain_rows, read_versionless, no_d, one_on}
use Rattle.planner.proofs.RanksSet.{begin_sound}
use Rattle.planner.proofs.Caps.{begin_cap}
use Rattle.list_pass.proofs.Fits.{later_fit}
use Rattle.list_pass.proofs.Kept.{pass_holds, pass_accepted, pass_before, pass_cap}
use Rattle.list_pass.proofs.Lists as Lists
use Rattle.list_pass.proofs.Lists.{Start, opens, refuses, start, opens_pass, end_after, v2}

-- 1. what the rows say decides: lists of at most 60,000 bytes whose rows from the N row on say the same, both V 2 lists or neither, leave the same, padded
-- or not
pub rows_decide : (bytes bytes' : List ℕ) (m : Memory) → length bytes ≤ 60000 → length bytes' ≤ 60000 → first_row bytes ≡ first_row bytes'
    → rows_of bytes ≡ rows_of bytes' → read_list bytes m ≡ read_list bytes' m
rows_decide = Lists.rows_decide

-- so a list that ends in c, no line feed, a V 2 list too, and the same list with a line feed after it leave the same
pub final_feed_list : (bytes : List ℕ) (c : ℕ) (m : Memory) → (c ≡ 10 → ⊥) → length ((bytes ++ (c ∷ [])) ++ (10 ∷ [])) ≤ 60000
    → read_list ((bytes ++ (c ∷ [])) ++ (10 ∷ [])) m ≡ read_list (bytes ++ (c ∷ [])) m
final_feed_list bytes c m n h =
    Lists.bytes_decide ((bytes ++ (c ∷ [])) ++ (10 ∷ [])) (bytes ++ (c ∷ [])) m h (omega (arith, length-append (bytes ++ (c ∷ [])) (10 ∷ [])))
    (final_feed bytes c n)

-- 2. a list refused at row 0, at its N row or before leaves memory as it was
pub refused_first-law : (bytes : List ℕ) (m : Memory) → ((read_list bytes m).answer.number ≡ 0 → ⊥) → (read_list bytes m).answer.row ≤ first_row bytes → (read_list bytes m).memory ≡ m
refused_first-law bytes m z l = by (start bytes m)
  where
    by : Start bytes m → (read_list bytes m).memory ≡ m
    by (opens n rs o) =
        let e = opens_pass bytes m n rs o in
        let k = pass_before (suc (first_row bytes)) rs (begin n m) (λ q. z (ap (λ (x : ListResult). x.answer.number) e ∙ q)) in
        absurd (omega (arith, ap (λ (x : ListResult). x.answer.row) e, k.1))
    by (refuses c i h e) = ap (λ (x : ListResult). x.memory) e

-- 3. a list whose N row opens a plan, refused at a later row, leaves what the rows before that row leave: memory holds the plan of their clashes
pub refused_later : (bytes : List ℕ) (m : Memory) (n : ℕ) (rs : List Row) → FirstOpens bytes m n rs → ((read_list bytes m).answer.number ≡ 0 → ⊥)
    → RefusedAfter (first_row bytes) n rs m (read_list bytes m)
refused_later bytes m n rs o z =
    let e = opens_pass bytes m n rs o in
    rw e (Lists.pass_refused (first_row bytes) n rs m (begin_sound n m o.number) (later_fit bytes _ rs o.rows) (λ q. z (ap (λ (x : ListResult). x.answer.number) e ∙ q)))

-- 4. after a list whose N row opens a plan, memory holds a plan
pub list_holds : (bytes : List ℕ) (m : Memory) (n : ℕ) (rs : List Row) → FirstOpens bytes m n rs
    → (G : Graph) × PlanOf G (read_list bytes m).memory.slices (read_list bytes m).memory.tally
list_holds bytes m n rs o = rw (opens_pass bytes m n rs o) (pass_holds (suc (first_row bytes)) rs (begin n m) (begin_sound n m o.number) (later_fit bytes _ rs o.rows))

-- 5. after an accepted list, memory holds the plan of the clashes in which the list ends
pub accepted_holds : (bytes : List ℕ) (m : Memory) → (read_list bytes m).answer.number ≡ 0
    → PlanOf (end_of bytes m).graph (read_list bytes m).memory.slices (read_list bytes m).memory.tally
accepted_holds bytes m z = by (start bytes m)
  where
    by : Start bytes m → PlanOf (end_of bytes m).graph (read_list bytes m).memory.slices (read_list bytes m).memory.tally
    by (opens n rs o) =
        let e = opens_pass bytes m n rs o in
        let p = pass_accepted (suc (first_row bytes)) rs (begin n m) (begin_sound n m o.number) (later_fit bytes _ rs o.rows) (sym (ap (λ (x : ListResult). x.answer.number) e) ∙ z) in
        rw (e, end_after bytes m n rs o, p.0) p.1
    by (refuses c i h e) = absurd (omega (arith, z, ap (λ (x : ListResult). x.answer.number) e))

-- 6. after a list whose N row opens a plan, accepted or refused at a later row, the cap is 24, and so fits the plan
pub list_cap : (bytes : List ℕ) (m : Memory) (n : ℕ) (rs : List Row) → FirstOpens bytes m n rs → (read_list bytes m).memory.tally.cap ≡ 24
list_cap bytes m n rs o =
    ap (λ (x : ListResult). x.memory.tally.cap) (opens_pass bytes m n rs o) ∙ pass_cap (suc (first_row bytes)) rs (begin n m) ∙ begin_cap n m

pub list_fits : (bytes : List ℕ) (m : Memory) (n : ℕ) (rs : List Row) → FirstOpens bytes m n rs → T (cap_fits (read_list bytes m).memory.tally)
list_fits bytes m n rs o = widest_cap (list_holds bytes m n rs o).1 (list_cap bytes m n rs o)

-- an accepted list is one of these
module _ (bytes : List ℕ) (m : Memory) (yes : (read_list bytes m).answer.number ≡ 0) where
  pub accepted_cap : (read_list bytes m).memory.tally.cap ≡ 24
  accepted_cap = by (start bytes m)
    where
      by : Start bytes m → (read_list bytes m).memory.tally.cap ≡ 24
      by (opens n rs o) = list_cap bytes m n rs o
      by (refuses c i h e) = absurd (omega (arith, yes, ap (λ (x : ListResult). x.answer.number) e))

  pub accepted_fits : T (cap_fits (read_list bytes m).memory.tally)
  accepted_fits = widest_cap (accepted_holds bytes m yes) accepted_cap

-- 7. accepted lists that end in equal bank counts, equal clashes and equal ranks leave equal plan cells and an equal tally, cap included, whatever their
-- rows are and whatever memory held before
module _ (bytes bytes' : List ℕ) (m m' : Memory) (yes : (read_list bytes m).answer.number ≡ 0) (yes' : (read_list bytes' m').answer.number ≡ 0)
    (same : Same (end_of bytes m).graph (end_of bytes' m').graph) where
  pub lists_same_cells : plan_cells (end_of bytes' m').graph.banks (read_list bytes m).memory.slices ≡ plan_cells (end_of bytes' m').graph.banks (read_list bytes' m').memory.slices
  lists_same_cells = Lists.plans_same_cells _ _ _ _ _ _ (accepted_holds bytes m yes) (accepted_holds bytes' m' yes') same

  pub lists_same_tally : (read_list bytes m).memory.tally ≡ (read_list bytes' m').memory.tally
  lists_same_tally =
      Lists.plans_same_tally _ _ _ _ _ _ (accepted_holds bytes m yes) (accepted_holds bytes' m' yes') same (accepted_cap bytes m yes ∙ sym (accepted_cap bytes' m' yes'))

-- 8. a list of rows without padding leaves what it left before numbers could be padded
pub list_kept : (bytes : List ℕ) (m : Memory) → T (plain_rows (rows bytes)) → read_list bytes m ≡ read_unpadded bytes m
list_kept = Lists.list_kept

-- and so does every list that was accepted then
pub accepted_kept : (bytes : List ℕ) (m : Memory) → (read_unpadded bytes m).answer.number ≡ 0 → read_list bytes m ≡ read_unpadded bytes m
accepted_kept bytes m = Lists.accepted_kept m bytes

-- 9. a list that does not start with `V 2` reads as it did before a list could, D rows included
pub versionless_kept : (bytes : List ℕ) (m : Memory) → list_v2 bytes ≡ false → read_list bytes m ≡ read_versionless bytes m
versionless_kept = Lists.versionless

-- 10. `V 2` and a line feed in front of such a list without D rows, within 60,000 bytes: the same number and the same memory, and a refusal is one row further on
pub v2_same : (bytes : List ℕ) (m : Memory) → length (86 ∷ 32 ∷ 50 ∷ 10 ∷ bytes) ≤ 60000 → list_v2 bytes ≡ false → T (no_d (map row_of (rows bytes)))
    → read_list (86 ∷ 32 ∷ 50 ∷ 10 ∷ bytes) m ≡ one_on (read_list bytes m)
v2_same = Lists.v2_same

-- 11. V rows: at the start any but `V 2` gets 10 at row 1; `V 2` alone, or with a V row in the place of the N row, `V 2` again too, 10 at row 2; after the
-- N row 11
module _ (bytes : List ℕ) (m : Memory) (h : length bytes ≤ 60000) where
  pub v_start : (r : List ℕ) (rs : List (List ℕ)) → rows bytes ≡ (86 ∷ r) ∷ rs → is_v2 (86 ∷ r) ≡ false → read_list bytes m ≡ list_result (reading 10 1) m
  v_start r rs = Lists.v_start bytes m r rs h

  pub v2_alone : rows bytes ≡ v2 ∷ [] → read_list bytes m ≡ list_result (reading 10 2) m
  v2_alone = Lists.v2_alone bytes m h

  pub v_second : (r : List ℕ) (rs : List (List ℕ)) → rows bytes ≡ v2 ∷ (86 ∷ r) ∷ rs → read_list bytes m ≡ list_result (reading 10 2) m
  v_second r rs = Lists.v_second bytes m r rs h

pub v_later : (v : Bool) (r : List ℕ) (s : State) → row_number (say_in row_of v (86 ∷ r)) s ≡ 11
v_later = Lists.v_later

-- 12. in a V 2 list a D row gets 23, whatever bank it names and whatever came before; a row that does not read 11
pub d_retired : (r : List ℕ) (b : Bank) (s : State) → row_of r ≡ Edit (StrikeAll b) → row_number (say_in row_of true r) s ≡ 23
d_retired = Lists.d_retired

pub d_malformed : (r : List ℕ) (s : State) → row_of r ≡ Unreadable → row_number (say_in row_of true r) s ≡ 11
d_malformed = Lists.d_malformed
