-- The numbers of the questions, case by case, and what the number 0 says.
use mathlib.Core.Bool.{Bool, true, false, cond, ◌&&◌}
use mathlib.Core.List.{List, [], ◌∷◌}
use mathlib.Core.Logic.{◌≢◌}
use mathlib.Core.Path.{◌≡◌, refl, sym}
use native.Mathlib.Omega.{arith}
use Prim.Native.Nat.{ℕ, suc, ◌≤◌, ◌<◌}
use lib.Dec.{T, leb, ltb}
use lib.ListN.{length}
use borrow.Author.Tests.{le-leb, lt-leb, leb-true, lt-ltb, le-ltb, eq-eqb, ne_eqb}
use Rattle.rule.specs.Graph.{Graph, degree}
use Rattle.rule.specs.declared.Kind.{Kind}
use Rattle.rule.specs.declared.Kind.TheVariants.{Adding, Striking}
use Rattle.rule.proofs.Booleans.{t_along, is_true, both_true, and_true, and_false}
use Rattle.memory.specs.declared.Tally.{Tally}
use Rattle.memory.specs.Plan.{Slices, long_enough, graph_in, cap_fits, holds, PlanOf}
use Rattle.memory.proofs.Theorems.{holds_plan-law, plan_holds}
use Rattle.memory.proofs.Views.{tally_banks}
use Rattle.planner.specs.Questions.{Question, first_no}
use Rattle.memory.specs.Memory.{Ready}
use Rattle.memory.specs.Memory.{Memory}
use Rattle.planner.specs.Calls.{all_long, open_number, plan_number, bank_number, memory_number, clash_questions, edit_number}

-- a first question whose no would get a number above 0, where all are answered by yes
pub none : (h : Bool) (k : ℕ) (qs : List Question) → first_no (record { holds = h; number = suc k } ∷ qs) ≡ 0 → (h ≡ true) × (first_no qs ≡ 0)
unfolding first_no
none true k qs e = (refl, e)
none false k qs e = absurd (omega arith)

-- open
module _ (n : ℕ) (s : Slices) where
  pub open_many : 1024 < n → open_number n s ≡ 1
  unfolding open_number first_no
  open_many h = rw (lt-leb n 1024 h)

  pub open_short : n ≤ 1024 → long_enough n s ≡ false → open_number n s ≡ 2
  unfolding open_number first_no
  open_short h e = rw (le-leb n 1024 h, e)

  pub open_fine : n ≤ 1024 → long_enough n s ≡ true → open_number n s ≡ 0
  unfolding open_number first_no
  open_fine h e = rw (le-leb n 1024 h, e)

  pub open_passed : open_number n s ≡ 0 → (n ≤ 1024) × (long_enough n s ≡ true)
  unfolding open_number
  open_passed e =
      let q = none (leb n 1024) 0 (record { holds = long_enough n s; number = 2 } ∷ []) e in
      let r = none (long_enough n s) 1 [] q.1 in
      (leb-true n 1024 q.0, r.0)

-- a call that reads
module _ (s : Slices) (t : Tally) where
  pub plan_many : 1024 < t.banks → plan_number s t ≡ 1
  unfolding plan_number first_no
  plan_many h = rw (lt-leb t.banks 1024 h)

  pub plan_short : t.banks ≤ 1024 → long_enough t.banks s ≡ false → plan_number s t ≡ 2
  unfolding plan_number first_no
  plan_short h e = rw (le-leb t.banks 1024 h, e)

  pub plan_none : t.banks ≤ 1024 → long_enough t.banks s ≡ true → holds s t ≡ false → plan_number s t ≡ 3
  unfolding plan_number first_no
  plan_none h e f = rw (le-leb t.banks 1024 h, e, f)

  pub plan_fine : t.banks ≤ 1024 → long_enough t.banks s ≡ true → holds s t ≡ true → plan_number s t ≡ 0
  unfolding plan_number first_no
  plan_fine h e f = rw (le-leb t.banks 1024 h, e, f)

  pub record Passed : Type 0 where
    pub most : t.banks ≤ 1024
    pub long : long_enough t.banks s ≡ true
    pub plan : holds s t ≡ true

  pub plan_passed : plan_number s t ≡ 0 → Passed
  unfolding plan_number
  plan_passed e =
      let q = none (leb t.banks 1024) 0 (record { holds = long_enough t.banks s; number = 2 } ∷ record { holds = holds s t; number = 3 } ∷ []) e in
      let r = none (long_enough t.banks s) 1 (record { holds = holds s t; number = 3 } ∷ []) q.1 in
      let u = none (holds s t) 2 [] r.1 in
      record { most = leb-true t.banks 1024 q.0; long = r.0; plan = u.0 }

  -- a call that reads one bank: the same questions, and then whether the bank is below n
  pub bank_refused : (b c : ℕ) → plan_number s t ≡ c → c ≢ 0 → bank_number b s t ≡ c
  unfolding plan_number bank_number first_no
  bank_refused b c e n = go (leb t.banks 1024) (long_enough t.banks s) (holds s t) e
    where
      go : (x y z : Bool) → cond x (cond y (cond z 0 3) 2) 1 ≡ c → cond x (cond y (cond z (cond (ltb b t.banks) 0 4) 3) 2) 1 ≡ c
      go true true true f = absurd (n (sym f))
      go true true false f = f
      go true false z f = f
      go false y z f = f

  pub bank_far : (b : ℕ) → plan_number s t ≡ 0 → t.banks ≤ b → bank_number b s t ≡ 4
  unfolding bank_number first_no
  bank_far b e h = let p = plan_passed e in rw (le-leb t.banks 1024 p.most, p.long, p.plan, le-ltb b t.banks h)

  pub bank_fine : (b : ℕ) → plan_number s t ≡ 0 → b < t.banks → bank_number b s t ≡ 0
  unfolding bank_number first_no
  bank_fine b e h = let p = plan_passed e in rw (le-leb t.banks 1024 p.most, p.long, p.plan, lt-ltb b t.banks h)

-- an edit: questions 3 to 5
module _ (m : Memory) where
  abbrev n : ℕ
  n = m.tally.banks

  pub memory_many : 1024 < n → memory_number m ≡ 1
  unfolding memory_number first_no
  memory_many h = rw (lt-leb n 1024 h)

  pub trail_short : n ≤ 1024 → length m.trail < n → memory_number m ≡ 2
  unfolding memory_number first_no all_long
  trail_short h k = rw (le-leb n 1024 h, lt-leb n (length m.trail) k, and_false)

  pub moved_short : n ≤ 1024 → n ≤ length m.trail → length m.moved < n → memory_number m ≡ 2
  unfolding memory_number first_no all_long
  moved_short h k l = rw (le-leb n 1024 h, le-leb n (length m.trail) k, lt-leb n (length m.moved) l, and_false)

  -- with room for trail and moved, they are those of a call that reads
  pub memory_plan : n ≤ length m.trail → n ≤ length m.moved → memory_number m ≡ plan_number m.slices m.tally
  unfolding memory_number plan_number first_no all_long
  memory_plan k l = rw (le-leb n (length m.trail) k, le-leb n (length m.moved) l, and_true)

  -- the number 0 says that all have room and that memory holds a plan
  pub memory_passed : memory_number m ≡ 0 → (n ≤ length m.trail) × (n ≤ length m.moved) × (plan_number m.slices m.tally ≡ 0)
  unfolding memory_number all_long
  memory_passed e =
      let q = none (leb n 1024) 0 (record { holds = long_enough n m.slices && (leb n (length m.trail) && leb n (length m.moved)); number = 2 } ∷ record
      { holds = holds m.slices m.tally; number = 3 } ∷ []) e in
      let r = none (long_enough n m.slices && (leb n (length m.trail) && leb n (length m.moved))) 1 (record { holds = holds m.slices m.tally; number = 3 } ∷ []) q.1 in
      let u = none (holds m.slices m.tally) 2 [] r.1 in
      let w = both_true (long_enough n m.slices) (leb n (length m.trail) && leb n (length m.moved)) r.0 in
      let x = both_true (leb n (length m.trail)) (leb n (length m.moved)) w.1 in
      (leb-true n (length m.trail) x.0, leb-true n (length m.moved) x.1, plan_fine m.slices m.tally (leb-true n 1024 q.0) w.0 u.0)

-- an edit: questions 7 to 11
module _ (G : Graph) (a b : ℕ) where
  abbrev N : ℕ
  N = G.banks

  pub far_a : (k : Kind) → N ≤ a → edit_number k G a b ≡ 4
  unfolding edit_number first_no
  far_a k h = rw (le-ltb a N h)

  pub far_b : (k : Kind) → a < N → N ≤ b → edit_number k G a b ≡ 4
  unfolding edit_number first_no
  far_b k h l = rw (lt-ltb a N h, le-ltb b N l)

  module _ (ha : a < N) (hb : b < N) where
    pub one_bank : (k : Kind) → a ≡ b → edit_number k G a b ≡ 5
    unfolding edit_number first_no
    one_bank k e = rw (lt-ltb a N ha, lt-ltb b N hb, eq-eqb a b e)

    -- two different banks: the questions about their clash and their degrees are left
    pub two_banks : (k : Kind) → a ≢ b → edit_number k G a b ≡ first_no (clash_questions k (G.clash a b) (degree G a) (degree G b))
    unfolding edit_number first_no
    two_banks k d = rw (lt-ltb a N ha, lt-ltb b N hb, ne_eqb a b d)

-- those questions, answered
module _ (da db : ℕ) where
  pub add_there : first_no (clash_questions Adding true da db) ≡ 6
  unfolding clash_questions first_no
  add_there = refl

  pub add_full_a : 23 ≤ da → first_no (clash_questions Adding false da db) ≡ 8
  unfolding clash_questions first_no
  add_full_a h = rw (le-ltb da 23 h)

  pub add_full_b : da < 23 → 23 ≤ db → first_no (clash_questions Adding false da db) ≡ 8
  unfolding clash_questions first_no
  add_full_b h k = rw (lt-ltb da 23 h, le-ltb db 23 k)

  pub add_fine : da < 23 → db < 23 → first_no (clash_questions Adding false da db) ≡ 0
  unfolding clash_questions first_no
  add_fine h k = rw (lt-ltb da 23 h, lt-ltb db 23 k)

  pub strike_not_there : first_no (clash_questions Striking false da db) ≡ 7
  unfolding clash_questions first_no
  strike_not_there = refl

  pub strike_fine : first_no (clash_questions Striking true da db) ≡ 0
  unfolding clash_questions first_no
  strike_fine = refl

-- memory whose questions 3 to 5 are answered by yes holds the plan of the clashes that its rows name
pub number_plan : (s : Slices) (t : Tally) → plan_number s t ≡ 0 → PlanOf (graph_in t.banks s) s t
number_plan s t e = let p = plan_passed s t e in holds_plan-law s t p.most (t_along (sym p.plan) tt)

pub plan_ready : (m : Memory) → m.tally.banks ≤ length m.trail → m.tally.banks ≤ length m.moved → PlanOf (graph_in m.tally.banks m.slices) m.slices m.tally
    → Ready (graph_in m.tally.banks m.slices) m
unfolding graph_in
plan_ready m t v p = record { plan = p; trail_room = t; moved_room = v }

pub number_ready : (m : Memory) → m.tally.banks ≤ length m.trail → m.tally.banks ≤ length m.moved → plan_number m.slices m.tally ≡ 0
    → Ready (graph_in m.tally.banks m.slices) m
number_ready m t v e = plan_ready m t v (number_plan m.slices m.tally e)

-- and memory that holds a plan passes them
pub held_number : (G : Graph) (s : Slices) (t : Tally) → PlanOf G s t → T (cap_fits t) → plan_number s t ≡ 0
held_number G s t p fits =
    let e = tally_banks t G p.tally in
    plan_fine s t (omega (arith, p.clashes.most)) (rw e p.long) (is_true (holds s t) (plan_holds s t G p fits))
