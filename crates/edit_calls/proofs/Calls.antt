-- What the calls add, strike and set_cap leave, by the numbers of their questions.
use mathlib.Core.Bool.{Bool, true, false, cond}
use mathlib.Core.Logic.{◌≢◌}
use mathlib.Core.Path.{◌≡◌, refl, sym, ap, ap₂, ◌∙◌}
use Prim.Native.Nat.{ℕ, zero, suc}
use native.Mathlib.Omega.{arith}
use borrow.Author.Tests.{le-leb}
use lib.Dec.{T, leb}
use Rattle.rule.specs.Graph.{Graph}
use Rattle.rule.specs.declared.Kind.{Kind}
use Rattle.memory.specs.declared.Tally.{Tally}
use Rattle.memory.specs.Plan.{Slices, long_enough, holds, graph_in, tally_of, PlanOf}
use Rattle.memory.specs.Memory.{Memory}
use Rattle.memory.proofs.Question.{cap_fits-law}
use Rattle.memory.proofs.Theorems.{plan_holds}
use Rattle.planner.specs.declared.Answer.{Answer}
use Rattle.planner.specs.declared.Edited.{Edited}
use Rattle.planner.specs.Questions.{first_no}
use Rattle.planner.specs.Calls.{plan_number, memory_number, EditResult, edit_result, no_edit, refused, edit_by}
use Rattle.planner.proofs.Numbers.{plan_passed, number_plan}
use Rattle.planner.proofs.Outcomes.{with}
use Rattle.capped_edits.specs.Capped.{capped_number, capped_of}
use Rattle.edit_calls.specs.Calls.{checked_by, edit, set_cap_number, CapResult, cap_result, with_cap, set_cap_by, set_cap}
use Rattle.capped_edits.specs.inner.Within.{within_of}
use Rattle.edit_calls.specs.inner.Caps.{cap_number}
use Rattle.capped_edits.proofs.Capped.{no_last}
use Rattle.edit_calls.proofs.Caps.{cap_good_parts}

-- the calls add and strike: refused by questions 3 to 5, or an edit of the plan that memory holds
module _ (k : Kind) (a b : ℕ) (m : Memory) where
  abbrev rows : Graph
  rows = graph_in m.tally.banks m.slices

  checked_by-law : (c : ℕ) → c ≡ memory_number m → checked_by c k a b m ≡ edit k a b m
  unfolding edit
  checked_by-law c e = ap (λ (x : ℕ). checked_by x k a b m) e

  pub call_refused : (c : ℕ) → c ≡ memory_number m → c ≢ 0 → (r : Edited) → r.answer ≡ no_edit c → r.tally ≡ m.tally
      → edit_result r.answer (with m r.tally) ≡ edit k a b m
  call_refused zero e n r p q = absurd (n refl)
  call_refused (suc c) e n r p q = ap₂ (λ (x : Answer) (t : Tally). edit_result x (with m t)) p q ∙ unfold checked_by refused in checked_by-law (suc c) e

  pub call_within : 0 ≡ memory_number m → {r : EditResult} → r ≡ within_of k rows a b 0 m → r ≡ edit k a b m
  call_within e d = d ∙ within ∙ unfold checked_by in checked_by-law 0 e
    where
      within : within_of k rows a b 0 m ≡ capped_of k rows a b m
      within = unfold within_of capped_of in ap (λ (x : ℕ). edit_by x k rows a b m) (no_last (capped_number m.tally.cap k rows a b) 0 refl)

-- the plan is the same under another cap
pub recapped : (G : Graph) (s : Slices) (t : Tally) (cap : ℕ) → PlanOf G s t → PlanOf G s (with_cap cap t)
unfolding tally_of
recapped G s t cap p = record {
  clashes = p.clashes;
  long = p.long;
  cells = p.cells;
  tally = λ i. record { banks = (p.tally i).banks; clashes = (p.tally i).clashes; waves = (p.tally i).waves; cap = cap };
}

-- set_cap
module _ (cap : ℕ) (s : Slices) (t : Tally) where
  pub set_cap_refused : (c : ℕ) → c ≡ plan_number s t → c ≢ 0 → c ≡ set_cap_number cap s t
  unfolding plan_number set_cap_number first_no
  set_cap_refused c e n = go (leb t.banks 1024) (long_enough t.banks s) (holds s t) e
    where
      rest : ℕ
      rest = cap_number t.waves cap

      go : (x y z : Bool) → c ≡ cond x (cond y (cond z 0 3) 2) 1 → c ≡ cond x (cond y (cond z rest 3) 2) 1
      go true true true f = absurd (n f)
      go true true false f = f
      go true false z f = f
      go false y z f = f

  pub set_cap_asked : 0 ≡ plan_number s t → {r : ℕ} → r ≡ cap_number t.waves cap → r ≡ set_cap_number cap s t
  unfolding set_cap_number first_no
  set_cap_asked e q = let p = plan_passed s t (sym e) in q ∙ sym (rw (le-leb t.banks 1024 p.most, p.long, p.plan) refl)

  set_by : (c : ℕ) → c ≡ set_cap_number cap s t → set_cap_by c cap t ≡ set_cap cap s t
  unfolding set_cap
  set_by c e = ap (λ (x : ℕ). set_cap_by x cap t) e

  pub cap_not_set : (c : ℕ) → c ≡ set_cap_number cap s t → c ≢ 0 → cap_result c t ≡ set_cap cap s t
  cap_not_set zero e n = absurd (n refl)
  cap_not_set (suc c) e n = unfold set_cap_by in set_by (suc c) e

  pub cap_is_set : 0 ≡ set_cap_number cap s t → cap_result 0 (with_cap cap t) ≡ set_cap cap s t
  cap_is_set e = unfold set_cap_by in set_by 0 e

  -- set: the tally has that cap, and memory holds its plan under it
  set_passed : set_cap_number cap s t ≡ 0 → (plan_number s t ≡ 0) × (cap_number t.waves cap ≡ 0)
  unfolding plan_number set_cap_number first_no
  set_passed e = go (leb t.banks 1024) (long_enough t.banks s) (holds s t) e
    where
      rest : ℕ
      rest = cap_number t.waves cap

      go : (x y z : Bool) → cond x (cond y (cond z rest 3) 2) 1 ≡ 0 → ◌≡◌ {A = ℕ} (cond x (cond y (cond z 0 3) 2) 1) 0 × (rest ≡ 0)
      go true true true f = (refl, f)
      go true true false f = absurd (omega (arith, f))
      go true false z f = absurd (omega (arith, f))
      go false y z f = absurd (omega (arith, f))

  number_of : (c : ℕ) → set_cap_number cap s t ≡ c → set_cap cap s t ≡ set_cap_by c cap t
  unfolding set_cap
  number_of c e = ap (λ (x : ℕ). set_cap_by x cap t) e

  set_zero : (set_cap cap s t).number ≡ 0 → set_cap_number cap s t ≡ 0
  set_zero done = by (set_cap_number cap s t) refl
    where
      by : (c : ℕ) → set_cap_number cap s t ≡ c → set_cap_number cap s t ≡ 0
      by zero e = e
      by (suc c) e = let w : ◌≡◌ {A = ℕ} (suc c) 0 = unfold set_cap_by in sym (ap (λ (r : CapResult). r.number) (number_of (suc c) e)) ∙ done in absurd (omega (arith, w))

  pub cap_tally : (set_cap cap s t).number ≡ 0 → (set_cap cap s t).tally ≡ with_cap cap t
  cap_tally done = unfold set_cap_by in ap (λ (r : CapResult). r.tally) (number_of 0 (set_zero done))

  pub cap_holds : (set_cap cap s t).number ≡ 0 → T (holds s (set_cap cap s t).tally)
  cap_holds done =
      let q = set_passed (set_zero done) in
      let plan = number_plan s t q.0 in
      let c = cap_good_parts t.waves cap q.1 in
      rw (cap_tally done) (plan_holds s (with_cap cap t) _ (recapped _ s t cap plan) (cap_fits-law (with_cap cap t) c.0 c.1 c.2))

  pub cap_refused : (c : ℕ) → (set_cap cap s t).number ≡ suc c → (set_cap cap s t).tally ≡ t
  cap_refused c done = by (set_cap_number cap s t) refl
    where
      by : (d : ℕ) → set_cap_number cap s t ≡ d → (set_cap cap s t).tally ≡ t
      by zero e = let w : ◌≡◌ {A = ℕ} 0 (suc c) = unfold set_cap_by in sym (ap (λ (r : CapResult). r.number) (number_of 0 e)) ∙ done in absurd (omega (arith, w))
      by (suc d) e = unfold set_cap_by in ap (λ (r : CapResult). r.tally) (number_of (suc d) e)
