-- The numbers of the calls' questions, case by case, and what the calls answer by the number.
use mathlib.Core.Bool.{Bool, true, false, cond}
use mathlib.Core.List.{List}
use mathlib.Core.Logic.{◌≢◌}
use mathlib.Core.Path.{◌≡◌, refl, sym, ap, ◌∙◌}
use native.Mathlib.Omega.{arith}
use Prim.Native.Nat.{ℕ, zero, suc, ◌≤◌, ◌<◌}
use lib.Dec.{leb, ltb}
use lib.ListN.{length}
use borrow.Author.Tests.{le-leb, lt-leb, leb-true, lt-ltb}
use Rattle.rule.proofs.Booleans.{both_true, and_true, and_false}
use Rattle.memory.specs.declared.Tally.{Tally}
use Rattle.memory.specs.Cells.{over}
use Rattle.memory.specs.Plan.{Slices, long_enough, graph_in, holds}
use Rattle.memory.proofs.Fronts.{pos}
use Rattle.planner.specs.Questions.{first_no}
use Rattle.planner.specs.Calls.{plan_number}
use Rattle.planner.proofs.Numbers.{plan_passed}
use Rattle.crews.specs.Day.{day, least_crew}
use Rattle.crews.specs.Calls.{crew_fits, crew_number, step_cells, crew_result, crew_by, crew_steps, least_number, least_by, least_of}
use Rattle.crews.specs.inner.Serving.{Crew}

-- from 1 to 64
pub crew_of : (q : ℕ) → crew_fits q ≡ true → Crew q
unfolding crew_fits
crew_of q e = let b = both_true (leb 1 q) (leb q 64) e in record { some = leb-true 1 q b.0; few = leb-true q 64 b.1 }

pub of_crew : (q : ℕ) → Crew q → crew_fits q ≡ true
unfolding crew_fits
of_crew q c = rw (le-leb 1 q c.some, le-leb q 64 c.few)

module _ (q : ℕ) (s : Slices) (t : Tally) (steps : List ℕ) where
  pub crew_many : 1024 < t.banks → crew_number q s t steps ≡ 1
  unfolding crew_number first_no
  crew_many h = rw (lt-leb t.banks 1024 h)

  pub crew_short : t.banks ≤ 1024 → length steps < t.banks → crew_number q s t steps ≡ 2
  unfolding crew_number first_no
  crew_short h k = rw (le-leb t.banks 1024 h, lt-leb t.banks (length steps) k, and_false)

  -- with room for the steps, a no of a call that reads decides
  module _ (room : t.banks ≤ length steps) where
    pub crew_refused : (c : ℕ) → plan_number s t ≡ c → c ≢ 0 → crew_number q s t steps ≡ c
    unfolding plan_number crew_number first_no
    crew_refused c e n = rw (le-leb t.banks (length steps) room, and_true) (go (leb t.banks 1024) (long_enough t.banks s) (holds s t) e)
      where
        rest : ℕ
        rest = cond (crew_fits q) 0 24

        go : (x y z : Bool) → cond x (cond y (cond z 0 3) 2) 1 ≡ c → cond x (cond y (cond z rest 3) 2) 1 ≡ c
        go true true true f = absurd (n (sym f))
        go true true false f = f
        go true false z f = f
        go false y z f = f

    -- without one, whether q is from 1 to 64
    module _ (e : plan_number s t ≡ 0) where
      crew_rest : crew_number q s t steps ≡ cond (crew_fits q) 0 24
      unfolding crew_number first_no
      crew_rest =
          let p = plan_passed s t e in rw (le-leb t.banks (length steps) room, and_true, le-leb t.banks 1024 p.most, p.long, p.plan)

      pub crew_out : crew_fits q ≡ false → crew_number q s t steps ≡ 24
      crew_out f = rw (crew_rest, f)

      pub crew_fine : crew_fits q ≡ true → crew_number q s t steps ≡ 0
      crew_fine f = rw (crew_rest, f)

  crew_by-law : (c : ℕ) → c ≡ crew_number q s t steps → crew_by c q (graph_in t.banks s) steps ≡ crew_steps q s t steps
  unfolding crew_steps
  crew_by-law c e = ap (λ (x : ℕ). crew_by x q (graph_in t.banks s) steps) e

  pub steps_refused : (c : ℕ) → c ≡ crew_number q s t steps → c ≢ 0 → crew_result (record { number = c; total = 0 }) steps ≡ crew_steps q s t steps
  steps_refused zero e n = absurd (n refl)
  steps_refused (suc c) e n = unfold crew_by in crew_by-law (suc c) e

  pub steps_found : 0 ≡ crew_number q s t steps
      → crew_result (record { number = 0; total = length (day q (graph_in t.banks s)) }) (over (step_cells q (graph_in t.banks s)) steps) ≡ crew_steps q s t steps
  steps_found e = unfold crew_by in crew_by-law 0 e

module _ (limit : ℕ) (s : Slices) (t : Tally) where
  abbrev least : ℕ
  least = least_crew limit (graph_in t.banks s)

  least_refused : (c : ℕ) → plan_number s t ≡ c → c ≢ 0 → least_number limit s t ≡ c
  unfolding plan_number least_number first_no
  least_refused c e n = go (leb t.banks 1024) (long_enough t.banks s) (holds s t) e
    where
      rest : ℕ
      rest = cond (leb limit 1024) (cond (ltb 0 least) 0 25) 24

      go : (x y z : Bool) → cond x (cond y (cond z 0 3) 2) 1 ≡ c → cond x (cond y (cond z rest 3) 2) 1 ≡ c
      go true true true f = absurd (n (sym f))
      go true true false f = f
      go true false z f = f
      go false y z f = f

  module _ (e : plan_number s t ≡ 0) where
    least_rest : least_number limit s t ≡ cond (leb limit 1024) (cond (ltb 0 least) 0 25) 24
    unfolding least_number first_no
    least_rest = let p = plan_passed s t e in rw (le-leb t.banks 1024 p.most, p.long, p.plan)

    least_large : 1024 < limit → least_number limit s t ≡ 24
    least_large l = rw (least_rest, lt-leb limit 1024 l)

    least_none : limit ≤ 1024 → least ≡ 0 → least_number limit s t ≡ 25
    least_none l z = rw (least_rest, le-leb limit 1024 l, z)

    pub least_fine : limit ≤ 1024 → 0 < least → least_number limit s t ≡ 0
    least_fine l k = rw (least_rest, le-leb limit 1024 l, lt-ltb 0 least k)

  least_by-law : (c : ℕ) → c ≡ least_number limit s t → least_by c limit (graph_in t.banks s) ≡ least_of limit s t
  unfolding least_of
  least_by-law c e = ap (λ (x : ℕ). least_by x limit (graph_in t.banks s)) e

  no_crew : (c : ℕ) → least_number limit s t ≡ c → c ≢ 0 → record { number = c; couriers = 0 } ≡ least_of limit s t
  no_crew zero e n = absurd (n refl)
  no_crew (suc c) e n = unfold least_by in least_by-law (suc c) (sym e)

  a_crew : least_number limit s t ≡ 0 → record { number = 0; couriers = least } ≡ least_of limit s t
  a_crew e = unfold least_by in least_by-law 0 (sym e)

  pub crew_no_plan : (c : ℕ) → plan_number s t ≡ c → c ≢ 0 → record { number = c; couriers = 0 } ≡ least_of limit s t
  crew_no_plan c e n = no_crew c (least_refused c e n) n

  module _ (e : plan_number s t ≡ 0) where
    pub crew_beyond : 1024 < limit → record { number = 24; couriers = 0 } ≡ least_of limit s t
    crew_beyond l = no_crew 24 (least_large e l) (λ z. omega (arith, z))

    pub crew_late : limit ≤ 1024 → {r : ℕ} → r ≡ least → r ≡ 0 → record { number = 25; couriers = 0 } ≡ least_of limit s t
    crew_late l is z = no_crew 25 (least_none e l (sym is ∙ z)) (λ f. omega (arith, f))

    pub crew_found : limit ≤ 1024 → {r : ℕ} → r ≡ least → r ≢ 0 → record { number = 0; couriers = r } ≡ least_of limit s t
    crew_found l {r} is n =
        ap (λ (x : ℕ). record { number = 0; couriers = x }) is ∙ a_crew (least_fine e l (rw (← is) (pos r n)))
