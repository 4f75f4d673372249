-- A list that opens a plan: the clashes after its rows are the total that is counted of them.
use mathlib.Core.List.{List, [], ◌∷◌}
use mathlib.Core.Path.{◌≡◌, refl, sym, ap, ap₂, ◌∙◌}
use Prim.Native.Nat.{ℕ, zero, suc, ◌-◌, ◌≤◌, ◌<◌}
use native.Mathlib.Omega.{arith}
use lib.Dec.{ltb}
use lib.ListN.{length}
use borrow.Author.Tests.{ltb-true}
use Rattle.rule.specs.Graph.{neighbours, degree, empty}
use Rattle.rule.specs.Reach.{edited}
use Rattle.rule.specs.declared.Kind.TheVariants.{Striking}
use Rattle.memory.specs.Plan.{clash_count}
use Rattle.memory.specs.Memory.{Memory}
use Rattle.planner.specs.States.{State, make, begin}
use Rattle.planner.proofs.Numbers.{none}
use Rattle.planner.proofs.Made.{Holding, make_kept}
use Rattle.planner.proofs.RanksSet.{Sound, begin_sound}
use Rattle.list_rows.specs.declared.row.Change.{Change}
use Rattle.list_rows.specs.declared.row.Change.TheVariants.{One, StrikeAll}
use Rattle.list_rows.specs.declared.row.Row.{Row}
use Rattle.list_rows.specs.declared.row.Row.TheVariants.{Banks, Edit, Unreadable, Retired}
use Rattle.list_rows.specs.Rows.{first_row}
use Rattle.list_pass.specs.Pass.{ListResult, started, strike_each, change, change_number, row_number, step, pass_by, pass, read_list}
use Rattle.list_pass.specs.Ends.{FirstOpens}
use Rattle.list_pass.proofs.Struck.{strike_number-law, strike_rest}
use Rattle.list_pass.proofs.Fits.{RowFits, AllFit, later_fit}
use Rattle.list_pass.proofs.Kept.{change_kept}
use Rattle.list_pass.proofs.Lists.{opens_pass}
use Rattle.totals.specs.Totals.{struck_each, changed, change_total, rows_total, before}
use Rattle.totals.proofs.Edits.{tally_clashes, tally_banks, no_clash, strike_count, Left, entry_left, before_none, before_next}

-- the clashes of b struck, one after the other
struck_each-law : (b : ℕ) (vs : List ℕ) (s : State) → Holding s → b < s.graph.banks → neighbours s.graph b ≡ vs
    → Left (strike_each b vs s) s.graph.banks (struck_each b vs s.graph) (clash_count s.graph - length vs)
unfolding strike_each struck_each make edited
struck_each-law b [] s h l e = record { banks = refl; graph = refl; count = omega arith }
struck_each-law b (v ∷ vs) s h l e =
    let z = strike_number-law s.graph h.clashes b l v vs e in
    let rest = struck_each-law b vs (make Striking b v s) (make_kept Striking b v s h z) l (strike_rest s.graph h.clashes b l v vs e) in
    record { banks = rest.banks; graph = rest.graph; count = omega (arith, rest.count, strike_count h b v z) }

-- a row's edit or rank
change_left : (c : Change) (s : State) → Holding s → change_number c s ≡ 0
    → Left (change c s) s.graph.banks (changed c s.graph) (change_total c s.graph (clash_count s.graph))
unfolding change changed change_total change_number degree
change_left (One e) s h z = entry_left e s h z
change_left (StrikeAll b) s h z =
    let l = ltb-true b.0 s.graph.banks (none (ltb b.0 s.graph.banks) 3 [] z).0 in
    struck_each-law b.0 (neighbours s.graph b.0) (started s) h l refl

-- what a pass over rows from number i on left: the clashes that are counted of the rows made, and as many banks
pub record Passed (i : ℕ) (rs : List Row) (s : State) (r : ListResult) : Type 0 where
  pub clashes : r.memory.tally.clashes ≡ rows_total (before i r.answer.number r.answer.row rs) s.graph (clash_count s.graph)
  pub banks : r.memory.tally.banks ≡ s.graph.banks
  pub late : (r.answer.number ≡ 0 → ⊥) → i ≤ r.answer.row

-- a row that was made, and the rest
made_row : (i : ℕ) (c : Change) (rs : List Row) (s : State) (r : ListResult)
    → Left (change c s) s.graph.banks (changed c s.graph) (change_total c s.graph (clash_count s.graph))
    → Passed (suc i) rs (change c s) r → Passed i (Edit c ∷ rs) s r
unfolding rows_total
made_row i c rs s r left rest =
    let N = r.answer.number in
    let place = r.answer.row in
    let rows = before (suc i) N place rs in
    record {
      clashes =
          rest.clashes
          ∙ ap₂ (rows_total rows) left.graph left.count
          ∙ ap (λ (l : List Row). rows_total l s.graph (clash_count s.graph)) (sym (before_next i N place (Edit c) rs rest.late));
      banks = rest.banks ∙ left.banks;
      late = λ z. omega (arith, rest.late z);
    }

by_number : (c i : ℕ) (r : Row) (rs : List Row) (s : State) → Sound s → RowFits r → row_number r s ≡ c → (rest : ListResult)
    → (Sound (step r s) → Passed (suc i) rs (step r s) rest) → Passed i (r ∷ rs) s (pass_by c i s rest)
unfolding row_number pass_by step rows_total
by_number zero i (Banks n) rs s h fits z rest f = absurd (omega arith)
by_number zero i (Edit c) rs s h fits z rest f =
    made_row i c rs s rest (change_left c s h.holding z) (f (change_kept c s h fits z))
by_number zero i Unreadable rs s h fits z rest f = absurd (omega arith)
by_number zero i Retired rs s h fits z rest f = absurd (omega arith)
by_number (suc c) i r rs s h fits z rest f = record {
  clashes = tally_clashes h.holding ∙ ap (λ (l : List Row). rows_total l s.graph (clash_count s.graph)) (sym (before_none i c (r ∷ rs)));
  banks = tally_banks h.holding;
  late = λ n. omega arith;
}

passed : (i : ℕ) (rs : List Row) (s : State) → Sound s → AllFit rs → Passed i rs s (pass i rs s)
unfolding pass before rows_total
passed i [] s h fit = record { clashes = tally_clashes h.holding; banks = tally_banks h.holding; late = λ z. absurd (z refl) }
passed i (r ∷ rs) s h fit =
    by_number (row_number r s) i r rs s h fit.0 refl (pass (suc i) rs (step r s)) (λ k. passed (suc i) rs (step r s) k fit.1)

-- a list whose N row opens a plan
module _ (bytes : List ℕ) (m : Memory) (n : ℕ) (rs : List Row) (o : FirstOpens bytes m n rs) where
  abbrev list : ListResult
  list = read_list bytes m

  abbrev from : ℕ
  from = suc (first_row bytes)

  list_passed : Passed from rs (begin n m) list
  list_passed = rw (opens_pass bytes m n rs o) (passed from rs (begin n m) (begin_sound n m o.number) (later_fit bytes (Banks n) rs o.rows))

  pub list_clashes : list.memory.tally.clashes ≡ rows_total (before from list.answer.number list.answer.row rs) (empty n) 0
  unfolding begin
  list_clashes = list_passed.clashes ∙ ap (rows_total (before from list.answer.number list.answer.row rs) (empty n)) (no_clash n)

  pub list_banks : list.memory.tally.banks ≡ n
  unfolding begin
  list_banks = list_passed.banks

  pub list_late : (list.answer.number ≡ 0 → ⊥) → from ≤ list.answer.row
  list_late = list_passed.late
