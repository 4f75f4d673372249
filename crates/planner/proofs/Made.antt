-- A pass's state: what opening and what one edit make of it.
use mathlib.Core.Bool.{Bool, true}
use mathlib.Core.List.{[], ◌∷◌}
use mathlib.Core.Path.{◌≡◌, ap, subst, ◌∙◌}
use Prim.Native.Nat.{ℕ, zero, suc, ◌≤◌}
use lib.Dec.{T, leb}
use borrow.Author.Tests.{le-leb, leb-true}
use Rattle.rule.specs.Graph.{Graph}
use Rattle.rule.specs.Reach.{edited}
use Rattle.rule.specs.declared.Kind.{Kind}
use Rattle.rule.proofs.Booleans.{both_true}
use Rattle.memory.specs.declared.Tally.{Tally}
use Rattle.memory.specs.Plan.{long_enough, tally_of, PlanOf}
use Rattle.memory.specs.Memory.{Memory, Ready}
use Rattle.memory.proofs.Theorems.{open_plan}
use Rattle.planner.specs.declared.Edited.{Edited}
use Rattle.planner.specs.Questions.{first_no}
use Rattle.planner.specs.Calls.{EditResult, all_long, edit_result, edit_number, accepted, refused, edit_by, edit_of}
use Rattle.planner.specs.States.{State, make, begin, begin_number}
use Rattle.planner.specs.inner.Held.{graph_by, graph_after, EditMade, at, Fresh, tried, Stands}
use Rattle.planner.proofs.Numbers.{none}
use Rattle.planner.proofs.Outcomes.{acceptable, edited_banks}
use Rattle.planner.proofs.After.{clashes_edited, plan_in-law}

-- the tally's banks are the plan's
pub ready_banks : (G : Graph) (m : Memory) → Ready G m → m.tally.banks ≡ G.banks
unfolding tally_of
ready_banks G m r = ap (λ (t : Tally). t.banks) r.plan.tally

-- an edit has come, so a plan without clashes is not asked for
pub not_fresh : (G : Graph) → Fresh true G
not_fresh G f = absurd (subst T f tt)

module _ (k : Kind) (begun : Bool) (G : Graph) (a b : ℕ) (m : Memory) (r : Edited) (m' : Memory) where
  abbrev s : State
  s = at begun G m

  by_number : (n : ℕ) → edit_result r.answer m' ≡ edit_by n k G a b m → Ready (graph_by n k G a b) m' → Fresh begun G
      → (r.answer.number ≡ n) × Stands (tried n (make k a b s) s) m'
  unfolding edit_by graph_by accepted refused tried make
  by_number zero e h f = (
    ap (λ (d : EditResult). d.answer.number) e,
    record { memory = ap (λ (d : EditResult). d.memory) e; ready = h; fresh = not_fresh (edited k G a b) },
  )
  by_number (suc c) e h f = (ap (λ (d : EditResult). d.answer.number) e, record { memory = ap (λ (d : EditResult). d.memory) e; ready = h; fresh = f })

  pub edit_made : EditMade k G a b m r m' → Fresh begun G
      → (r.answer.number ≡ edit_number k G a b) × Stands (tried (edit_number k G a b) (make k a b s) s) m'
  unfolding edit_of graph_after
  edit_made e = by_number (edit_number k G a b) e.is e.ready

  -- an edit to which no refusal is due
  pub edit_accepted : edit_number k G a b ≡ 0 → EditMade k G a b m r m' → Fresh begun G → (r.answer.number ≡ 0) × Stands (make k a b s) m'
  unfolding tried
  edit_accepted z e f = rw z at (edit_made e f)

-- memory holds the plan of the state's clashes
abbrev pub Holding : State → Type 0
Holding s = PlanOf s.graph s.memory.slices s.memory.tally

-- an edit to which no refusal is due leaves the plan of the new clashes
pub make_kept : (k : Kind) (a b : ℕ) (s : State) → Holding s → edit_number k s.graph a b ≡ 0 → Holding (make k a b s)
unfolding make accepted
make_kept k a b s h z =
    plan_in-law s.memory.tally.cap (edited k s.graph a b) s.memory.slices (clashes_edited s.graph a b h.clashes k (acceptable s.graph a b k z))
    (ap (λ (n : ℕ). long_enough n s.memory.slices) (edited_banks k s.graph a b) ∙ h.long)

-- questions 3 and 4, answered by yes
module _ (n : ℕ) (m : Memory) where
  pub begin_fine : n ≤ 1024 → all_long n m ≡ true → begin_number n m ≡ 0
  unfolding begin_number first_no
  begin_fine h l = rw (le-leb n 1024 h, l)

  pub begin_passed : begin_number n m ≡ 0 → (n ≤ 1024) × (long_enough n m.slices ≡ true)
  unfolding begin_number all_long
  begin_passed z =
      let p = none (leb n 1024) 0 (record { holds = all_long n m; number = 2 } ∷ []) z in
      let q = none (all_long n m) 1 [] p.1 in
      (leb-true n 1024 p.0, (both_true (long_enough n m.slices) _ q.0).0)

  -- opening leaves the plan of no clash
  pub begin_holds : begin_number n m ≡ 0 → Holding (begin n m)
  unfolding begin
  begin_holds z = let p = begin_passed z in open_plan 24 n m.slices p.0 p.1
