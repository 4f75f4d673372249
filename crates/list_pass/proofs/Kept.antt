-- A pass keeps memory a plan: an edit to which no refusal is due leaves a set of clashes, and its plan. It keeps the cap too.
use mathlib.Core.Bool.{Bool, true, false, cond}
use mathlib.Core.List.{List, [], ◌∷◌}
use mathlib.Core.Path.{◌≡◌, refl, ap, ◌∙◌}
use Prim.Native.Nat.{ℕ, zero, suc, ◌+◌, ◌<◌}
use native.Mathlib.Omega.{arith}
use lib.Dec.{ltb}
use lib.ListN.{take}
use borrow.Author.Tests.{ltb-true}
use Rattle.rule.specs.Graph.{Graph, neighbours}
use Rattle.rule.specs.Reach.{edited}
use Rattle.rule.specs.declared.Kind.TheVariants.{Striking}
use Rattle.memory.specs.Plan.{PlanOf}
use Rattle.planner.specs.Questions.{first_no}
use Rattle.planner.proofs.Made.{Holding, not_fresh}
use Rattle.planner.proofs.Caps.{cap_of, make_cap, enter_cap}
use Rattle.planner.proofs.RanksSet.{Sound, make_sound, enter_sound}
use Rattle.list_rows.specs.declared.row.Change.{Change}
use Rattle.list_rows.specs.declared.row.Change.TheVariants.{One, StrikeAll}
use Rattle.list_rows.specs.declared.row.Row.{Row}
use Rattle.list_rows.specs.declared.row.Row.TheVariants.{Banks, Edit, Unreadable, Retired}
use Rattle.list_pass.specs.Pass.{ListResult, list_result, reading, started, strike_each, change, change_number, row_number, step, pass_by, pass}
use Rattle.planner.specs.States.{State, make}
use Rattle.list_pass.specs.Ends.{after}
use Rattle.list_pass.specs.inner.Steps.{ChangeFits}
use Rattle.list_pass.proofs.Fits.{RowFits, AllFit}
use Rattle.list_pass.proofs.Struck.{strike_number-law, strike_rest}

-- the answer to a question that does not refuse is yes
yes : (q : Bool) (rest c : ℕ) → cond q rest (suc c) ≡ 0 → (q ≡ true) × (rest ≡ 0)
yes true rest c z = (refl, z)
yes false rest c z = absurd (omega arith)

each_kept : (b : ℕ) (vs : List ℕ) (s : State) → Sound s → b < s.graph.banks → neighbours s.graph b ≡ vs → Sound (strike_each b vs s)
unfolding strike_each make edited
each_kept b [] s h l e = h
each_kept b (v ∷ vs) s h l e =
    each_kept b vs (make Striking b v s) (make_sound Striking b v s h.holding (strike_number-law s.graph h.holding.clashes b l v vs e)) l
    (strike_rest s.graph h.holding.clashes b l v vs e)

pub change_kept : (c : Change) (s : State) → Sound s → ChangeFits c → change_number c s ≡ 0 → Sound (change c s)
unfolding change change_number first_no
change_kept (One e) s h f z = enter_sound e s h f z
change_kept (StrikeAll b) s h f z =
    let l = ltb-true b.0 s.graph.banks (yes (ltb b.0 s.graph.banks) 0 3 z).0 in
    each_kept b.0 (neighbours s.graph b.0) (started s) (record { holding = h.holding; fresh = not_fresh s.graph }) l refl

step_kept : (r : Row) (s : State) → Sound s → RowFits r → row_number r s ≡ 0 → Sound (step r s)
unfolding step row_number
step_kept (Banks n) s h f z = absurd (omega arith)
step_kept (Edit c) s h f z = change_kept c s h f z
step_kept Unreadable s h f z = absurd (omega arith)
step_kept Retired s h f z = absurd (omega arith)

-- the memory of a result holds some plan
abbrev pub Plan : ListResult → Type 0
Plan e = (G : Graph) × PlanOf G e.memory.slices e.memory.tally

by_holds : (n i : ℕ) (s : State) (rest : ListResult) → Sound s → (n ≡ 0 → Plan rest) → Plan (pass_by n i s rest)
unfolding pass_by
by_holds zero i s rest h f = f refl
by_holds (suc c) i s rest h f = (s.graph, h.holding)

-- a pass leaves a plan, refused or not
pub pass_holds : (i : ℕ) (rs : List Row) (s : State) → Sound s → AllFit rs → Plan (pass i rs s)
unfolding pass
pass_holds i [] s h f = (s.graph, h.holding)
pass_holds i (r ∷ rs) s h f =
    by_holds (row_number r s) i s (pass (suc i) rs (step r s)) h (λ z. pass_holds (suc i) rs (step r s) (step_kept r s h f.0 z) f.1)

pub by_accepted : (n i : ℕ) (s : State) (rest : ListResult) → (pass_by n i s rest).answer.number ≡ 0 → (n ≡ 0) × (rest.answer.number ≡ 0) × (pass_by n i s rest ≡ rest)
unfolding pass_by
by_accepted zero i s rest z = (refl, z, refl)
by_accepted (suc c) i s rest z = absurd (omega arith)

-- accepted, it leaves the plan after its rows
pub pass_accepted : (i : ℕ) (rs : List Row) (s : State) → Sound s → AllFit rs → (pass i rs s).answer.number ≡ 0
    → ((pass i rs s).memory ≡ (after rs s).memory) × Holding (after rs s)
unfolding pass after
pass_accepted i [] s h f z = (refl, h.holding)
pass_accepted i (r ∷ rs) s h f z =
    let p = by_accepted (row_number r s) i s (pass (suc i) rs (step r s)) z in
    let q = pass_accepted (suc i) rs (step r s) (step_kept r s h f.0 p.0) f.1 p.1 in
    (ap (λ (e : ListResult). e.memory) p.2 ∙ q.0, q.1)

-- refused at its row i + k, it leaves what the k rows before leave
abbrev pub Before : ℕ → List Row → State → ListResult → Type 0
Before i rs s e = (k : ℕ) × (e.answer.row ≡ i + k) × (pass i (take k rs) s ≡ list_result (reading 0 0) e.memory)

by_before : (n i : ℕ) (r : Row) (rs : List Row) (s : State) → row_number r s ≡ n
    → (((pass (suc i) rs (step r s)).answer.number ≡ 0 → ⊥) → Before (suc i) rs (step r s) (pass (suc i) rs (step r s)))
    → ((pass_by n i s (pass (suc i) rs (step r s))).answer.number ≡ 0 → ⊥)
    → Before i (r ∷ rs) s (pass_by n i s (pass (suc i) rs (step r s)))
unfolding pass_by pass
by_before zero i r rs s e f z = let b = f z in (suc b.0, omega (arith, b.1), rw e b.2)
by_before (suc c) i r rs s e f z = (0, omega arith, refl)

pub pass_before : (i : ℕ) (rs : List Row) (s : State) → ((pass i rs s).answer.number ≡ 0 → ⊥) → Before i rs s (pass i rs s)
unfolding pass
pass_before i [] s z = absurd (z refl)
pass_before i (r ∷ rs) s z = by_before (row_number r s) i r rs s refl (pass_before (suc i) rs (step r s)) z

-- refused or not, it leaves the cap as it was
each_cap : (b : ℕ) (vs : List ℕ) (s : State) → cap_of (strike_each b vs s) ≡ cap_of s
unfolding strike_each
each_cap b [] s = refl
each_cap b (v ∷ vs) s = each_cap b vs (make Striking b v s) ∙ make_cap Striking b v s

change_cap : (c : Change) (s : State) → cap_of (change c s) ≡ cap_of s
unfolding change
change_cap (One e) s = enter_cap e s
change_cap (StrikeAll b) s = each_cap b.0 (neighbours s.graph b.0) (started s)

step_cap : (r : Row) (s : State) → cap_of (step r s) ≡ cap_of s
unfolding step
step_cap (Banks n) s = refl
step_cap (Edit c) s = change_cap c s
step_cap Unreadable s = refl
step_cap Retired s = refl

by_cap : (n i : ℕ) (s : State) (rest : ListResult) → rest.memory.tally.cap ≡ cap_of s → (pass_by n i s rest).memory.tally.cap ≡ cap_of s
unfolding pass_by
by_cap zero i s rest e = e
by_cap (suc c) i s rest e = refl

pub pass_cap : (i : ℕ) (rs : List Row) (s : State) → (pass i rs s).memory.tally.cap ≡ cap_of s
unfolding pass
pass_cap i [] s = refl
pass_cap i (r ∷ rs) s = by_cap (row_number r s) i s (pass (suc i) rs (step r s)) (pass_cap (suc i) rs (step r s) ∙ step_cap r s)
