-- What the calls that are made answer, as far as printing needs it; and what is printed, by their numbers.
use mathlib.Core.Bool.{Bool, true, false}
use mathlib.Core.List.{List, [], ◌∷◌, ◌++◌, map}
use mathlib.Core.Logic.{◌≢◌, inl, inr}
use mathlib.Core.Path.{◌≡◌, refl, sym, ap, ap₂, ◌∙◌}
use native.Mathlib.Decide.{ℕ_discrete}
use native.Mathlib.Omega.{arith}
use Prim.Native.Nat.{ℕ, zero, suc, ◌≤◌, ◌<◌}
use lib.ListN.{length, get_or, drop, replicate, length-replicate, length-map, get_or-append}
use Rattle.rule.specs.Graph.{Graph}
use Rattle.rule.specs.Lists.{upto}
use Rattle.rule.proofs.Booleans.{lt_or_ge}
use Rattle.rule.proofs.Lists.{length_upto}
use Rattle.rule.proofs.Theorems.{wave_small}
use Rattle.memory.specs.declared.Tally.{Tally}
use Rattle.memory.specs.Cells.{cells, over}
use Rattle.memory.specs.Plan.{Slices, graph_in, PlanOf}
use Rattle.memory.specs.inner.View.{Held}
use Rattle.memory.proofs.Fronts.{get_d_map, get_d_upto, over_long}
use Rattle.memory.proofs.Theorems.{held_of}
use Rattle.planner.specs.Calls.{plan_number}
use Rattle.planner.proofs.Numbers.{number_plan, plan_passed}
use Rattle.list_program.specs.Answers.{refused_text}
use Rattle.crews.specs.Day.{day, step_of, least_crew}
use Rattle.crews.specs.Calls.{Crewed, LeastCrew, crew_fits, crew_number, step_cells, crew_result, crew_by, crew_steps, least_number, least_by, least_of}
use Rattle.crews.proofs.Numbers.{crew_of, crew_many, crew_refused, crew_out, steps_found}
use Rattle.crew_lines.specs.Lines.{day_text}
use Rattle.crew_lines.specs.Plans.{couriers_by, couriers_text, crew_text, within_by, within_text}
use Rattle.crew_lines.specs.inner.Cells.{steps_in}
use Rattle.crew_lines.proofs.Days.{day_short}
use Rattle.crew_lines.proofs.Lines.{day_is, day_fits}

-- the cells of a slice that was written from its front
front_cell : (n : ℕ) (f : ℕ → ℕ) (was : List ℕ) (b : ℕ) → b < n → get_or (over (cells n f) was) b 0 ≡ f b
unfolding over cells
front_cell n f was b l =
    get_or-append (map f (upto n)) (drop (length (map f (upto n))) was) 0 b (omega (arith, length-map (upto n) f, length_upto n))
    ∙ get_d_map f (upto n) b (omega (arith, length_upto n))
    ∙ ap f (get_d_upto n b l)

-- the day of q couriers
module _ (q : ℕ) (s : Slices) (t : Tally) where
  -- the cells that the program lends for the steps
  abbrev lent : List ℕ
  lent = replicate 1024 0

  abbrev G : Graph
  G = graph_in t.banks s

  -- where the call is not refused, memory holds a plan
  passed : crew_number q s t lent ≡ 0 → plan_number s t ≡ 0
  passed z =
      elim (lt_or_ge 1024 t.banks) [
        | inl l ↦ absurd (omega (arith, crew_many q s t lent l))
        | inr g ↦ go (omega (arith, length-replicate {A = ℕ} 1024 0)) (ℕ_discrete (plan_number s t) 0)
      ]
    where
      go : t.banks ≤ length lent → Dec (plan_number s t ≡ 0) → plan_number s t ≡ 0
      go room (yes e) = e
      go room (no n) = absurd (n (sym (crew_refused q s t lent room (plan_number s t) refl n) ∙ z))

  -- and q is one at least
  some : crew_number q s t lent ≡ 0 → 1 ≤ q
  some z =
      let most = (plan_passed s t (passed z)).most in
      go (omega (arith, length-replicate {A = ℕ} 1024 0)) (crew_fits q) refl
    where
      go : t.banks ≤ length lent → (x : Bool) → crew_fits q ≡ x → 1 ≤ q
      go room true e = (crew_of q e).some
      go room false e = absurd (omega (arith, crew_out q s t lent room (passed z) e, z))

  by_number : (c : ℕ) → (crew_by c q G lent).answer.number ≡ c
  unfolding crew_by
  by_number zero = refl
  by_number (suc c) = refl

  text_by-law : (c : ℕ) → c ≡ crew_number q s t lent → couriers_by c q G ≡ couriers_text q s t
  unfolding couriers_text
  text_by-law c e = ap (λ (x : ℕ). couriers_by x q G) e

  refused_by : (c : ℕ) → c ≢ 0 → refused_text (67 ∷ 82 ∷ 69 ∷ 87 ∷ 32 ∷ []) q c ≡ couriers_by c q G
  unfolding couriers_by
  refused_by zero n = absurd (n refl)
  refused_by (suc c) n = refl

  text_fine : 0 ≡ crew_number q s t lent → day_text q G ≡ couriers_text q s t
  text_fine e = unfold couriers_by in text_by-law 0 e

  length_cells : length (step_cells q G) ≡ G.banks
  unfolding step_cells cells
  length_cells = length-map (upto G.banks) (λ b. step_of b (day q G)) ∙ length_upto G.banks

  step_cell : (b : ℕ) → b < G.banks → get_or (over (step_cells q G) lent) b 0 ≡ step_of b (day q G)
  unfolding step_cells
  step_cell b l = front_cell G.banks (λ b. step_of b (day q G)) lent b l

  -- what writing the lines needs, and what they are
  pub record DayCells (steps : List ℕ) (total : ℕ) : Type 0 where
    pub few : total ≤ t.banks
    pub waves : t.banks ≤ length s.waves
    pub room : t.banks ≤ length steps
    pub low : (b : ℕ) → b < t.banks → get_or s.waves b 0 < 24
    pub fits : length (steps_in s.waves steps t.banks total) ≤ 12288
    pub text : steps_in s.waves steps t.banks total ≡ couriers_text q s t

  module _ (r : Crewed) (steps : List ℕ) (e : crew_result r steps ≡ crew_steps q s t lent) where
    number_is : r.number ≡ crew_number q s t lent
    unfolding crew_steps
    number_is = ap (λ x. x.answer.number) e ∙ by_number (crew_number q s t lent)

    pub day_refused : r.number ≢ 0 → refused_text (67 ∷ 82 ∷ 69 ∷ 87 ∷ 32 ∷ []) q r.number ≡ couriers_text q s t
    day_refused n = refused_by r.number n ∙ text_by-law r.number number_is

    pub day_cells : r.number ≡ 0 → DayCells steps r.total
    day_cells z =
        let none : crew_number q s t lent ≡ 0 = sym number_is ∙ z in
        let plan : PlanOf G s t = number_plan s t (passed none) in
        let held : Held G s t.banks = held_of G s t plan in
        let same = e ∙ sym (steps_found q s t lent (sym none)) in
        let total : r.total ≡ length (day q G) = ap (λ x. x.answer.total) same in
        let stored : steps ≡ over (step_cells q G) lent = ap (λ x. x.steps) same in
        let most : t.banks ≤ 1024 = omega (arith, held.banks, held.rowed.few) in
        let long : length steps ≡ 1024 =
        over_long (step_cells q G) steps lent (omega (arith, length_cells, held.banks, length-replicate {A = ℕ} 1024 0)) stored ∙ length-replicate {A = ℕ} 1024 0 in
        let step : (b : ℕ) → b < G.banks → get_or steps b 0 ≡ step_of b (day q G) =
        λ b l. ap (λ (x : List ℕ). get_or x b 0) stored ∙ step_cell b l in
        let lines : steps_in s.waves steps t.banks r.total ≡ day_text q G =
        ap₂ (λ (n k : ℕ). steps_in s.waves steps n k) held.banks total ∙ day_is q (some none) G s.waves steps held.waves step in
        record {
          few = omega (arith, day_short q G, held.banks);
          waves = held.wide_waves;
          room = omega arith;
          low = λ b l. omega (arith, held.waves b (omega (arith, held.banks)), wave_small G b (omega (arith, held.banks)) (plan.clashes.few b (omega (arith, held.banks))));
          fits = omega (arith, ap length lines, day_fits q G (omega (arith, held.banks)));
          text = lines ∙ text_fine (sym none);
        }

-- the fewest couriers
module _ (limit : ℕ) (s : Slices) (t : Tally) where
  abbrev least : ℕ
  least = least_crew limit (graph_in t.banks s)

  least_by-law : (c : ℕ) → (least_by c limit (graph_in t.banks s)).number ≡ c
  unfolding least_by
  least_by-law zero = refl
  least_by-law (suc c) = refl

  couriers_by-law : (c : ℕ) → c ≡ 0 → (least_by c limit (graph_in t.banks s)).couriers ≡ least
  unfolding least_by
  couriers_by-law zero z = refl
  couriers_by-law (suc c) z = absurd (omega arith)

  within_by-law : (c : ℕ) → c ≡ least_number limit s t → within_by c limit least s t ≡ within_text limit s t
  unfolding within_text
  within_by-law c e = ap (λ (x : ℕ). within_by x limit least s t) e

  within_refused_by : (c : ℕ) → c ≢ 0 → refused_text (87 ∷ 73 ∷ 84 ∷ 72 ∷ 73 ∷ 78 ∷ 32 ∷ []) limit c ≡ within_by c limit least s t
  unfolding within_by
  within_refused_by zero n = absurd (n refl)
  within_refused_by (suc c) n = refl

  module _ (r : LeastCrew) (e : r ≡ least_of limit s t) where
    least_is : r.number ≡ least_number limit s t
    unfolding least_of
    least_is = ap (λ x. x.number) e ∙ least_by-law (least_number limit s t)

    pub within_refused : r.number ≢ 0 → refused_text (87 ∷ 73 ∷ 84 ∷ 72 ∷ 73 ∷ 78 ∷ 32 ∷ []) limit r.number ≡ within_text limit s t
    within_refused n = within_refused_by r.number n ∙ within_by-law r.number least_is

    pub within_fine : r.number ≡ 0 → crew_text r.couriers ++ couriers_text r.couriers s t ≡ within_text limit s t
    within_fine z =
        let q : r.couriers ≡ least = unfold least_of in ap (λ x. x.couriers) e ∙ couriers_by-law (least_number limit s t) (sym least_is ∙ z) in
        ap (λ (x : ℕ). crew_text x ++ couriers_text x s t) q ∙ unfold within_by in within_by-law 0 (sym z ∙ least_is)
