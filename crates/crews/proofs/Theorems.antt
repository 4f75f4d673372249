-- The theorems to cite (02, N13): the day as it is served, its steps, and the least number of couriers that ends in time.
use mathlib.Core.List.{List, []}
use mathlib.Core.Logic.{inl, inr}
use mathlib.Core.Path.{◌≡◌, refl, sym, ap₂, ◌∙◌}
use native.Mathlib.Omega.{arith}
use Prim.Native.Nat.{ℕ, suc, ◌+◌, ◌*◌, ◌≤◌, ◌<◌}
use lib.Dec.{T, eqb, ltb, leb→le, le→leb}
use lib.ListN.{length, get_or}
use Rattle.rule.specs.Lists.{memb, Sorted}
use Rattle.rule.specs.Graph.{Graph, Same, empty}
use Rattle.rule.specs.Wave.{wave, wave_count, banks_of}
use Rattle.rule.proofs.Booleans.{lt_or_ge}
use Rattle.rule.proofs.Lists.{in_none}
use Rattle.memory.specs.declared.Tally.{Tally}
use Rattle.memory.specs.Cells.{over}
use Rattle.memory.specs.Plan.{Slices, Clashes, graph_in, cap_fits, PlanOf}
use Rattle.memory.proofs.Theorems.{cells_give}
use Rattle.memory.proofs.Views.{tally_banks}
use Rattle.memory.proofs.Apart.{waves_apart}
use Rattle.planner.proofs.Theorems.{held_number}
use Rattle.crews.specs.Day.{day, step_of, divided_up, sum_up, in_time, least_crew}
use Rattle.crews.specs.Calls.{crew_number, step_cells, crew_result, crew_steps, least_of}
use Rattle.crews.specs.Examples
use Rattle.crews.specs.Examples.{all_right, cases}
use Rattle.crews.proofs.Divided.{divided_enough, divided_close, sum_falls}
use Rattle.crews.proofs.Steps.{every_at}
use Rattle.crews.proofs.Days as Days
use Rattle.crews.proofs.Least.{First, first_is}
use Rattle.crews.proofs.Agree.{day_agree, cells_agree, least_agree}
use Rattle.crews.proofs.Numbers.{of_crew, crew_fine, steps_refused, steps_found, crew_late, crew_found}

-- the day of a plan with q couriers, of whom there is one at least; the steps stand at the places from 0 on
module _ (G : Graph) (q : ℕ) (some : 1 ≤ q) where
  -- 1. every bank is served in exactly one step: the one that its cell names, and no other; once there, and nobody else is
  pub step_within : (b : ℕ) → b < G.banks → (1 ≤ step_of b (day q G)) × (step_of b (day q G) ≤ length (day q G))
  step_within = Days.step_within G q some

  pub one_step : (b : ℕ) → b < G.banks → (i : ℕ) → memb b (get_or (day q G) i []) ≡ eqb (suc i) (step_of b (day q G))
  one_step = Days.one_step G q some

  pub step_ascends : (i : ℕ) → Sorted ltb (get_or (day q G) i [])
  unfolding day
  step_ascends = every_at (Sorted ltb) (day q G) tt (Days.day_ascends G q some (wave_count G))

  pub step_banks : (b i : ℕ) → T (memb b (get_or (day q G) i [])) → b < G.banks
  step_banks = Days.day_bank G q some

  -- 2. no step serves more than q, nor banks of two waves, so no two that clash
  pub step_few : (i : ℕ) → length (get_or (day q G) i []) ≤ q
  unfolding day
  step_few = every_at (λ s. length s ≤ q) (day q G) (omega arith) (Days.day_few G q some (wave_count G))

  pub step_wave : (i x y : ℕ) → T (memb x (get_or (day q G) i [])) → T (memb y (get_or (day q G) i [])) → wave G x ≡ wave G y
  unfolding day
  step_wave i x y mx my =
      let r = every_at (Days.OfWave G q some) (day q G) (0, λ b m. absurd (in_none b m)) (Days.day_waves G q some (wave_count G)) i in r.1 x mx ∙ sym (r.1 y my)

  pub step_apart : Clashes G → (i x y : ℕ) → T (memb x (get_or (day q G) i [])) → T (memb y (get_or (day q G) i [])) → T (G.clash x y) → ⊥
  step_apart good i x y mx my c = waves_apart G good x y (step_banks x i mx) (step_banks y i my) c (step_wave i x y mx my)

  -- 3. the total is the sum over the waves of their sizes divided by q, each rounded up
  pub total_sum : length (day q G) ≡ sum_up q (λ w. length (banks_of G w)) (wave_count G)
  unfolding day
  total_sum = Days.length_day G q some (wave_count G)

-- rounded up: as many times q are not fewer, and one time less are
pub rounded_up : (m q : ℕ) → 1 ≤ q → (m ≤ divided_up m q * q) × (divided_up m q * q < m + q)
rounded_up m q some = (divided_enough q some m, divided_close q some m)

-- without banks there is none
pub no_steps : (G : Graph) → G.banks ≡ 0 → (q : ℕ) → length (day q G) ≡ 0
no_steps G none q = Days.day_none G none q

-- 4. more couriers never take longer
pub more_couriers : (G : Graph) (p q : ℕ) → 1 ≤ p → p ≤ q → length (day q G) ≤ length (day p G)
more_couriers G p q some l =
    omega (arith, total_sum G p some, total_sum G q (omega arith), sum_falls (λ w. length (banks_of G w)) p q some l (wave_count G))

-- 5. the least number of couriers: it ends in time, and no smaller one does; 0 stands for none from 1 to 64; without banks it is 1, for every limit
module _ (G : Graph) (limit : ℕ) where
  first : First (in_time limit G) 64 1 (least_crew limit G)
  unfolding least_crew
  first = first_is (in_time limit G) 64 1 (omega arith)

  late : (q : ℕ) → (T (in_time limit G q) → ⊥) → limit < length (day q G)
  late q n = elim (lt_or_ge limit (length (day q G))) [ inl l ↦ l | inr l ↦ absurd (n (unfold in_time in le→leb (length (day q G)) limit l)) ]

  pub least_ends : (least_crew limit G ≡ 0 → ⊥) → (1 ≤ least_crew limit G) × (least_crew limit G ≤ 64) × (length (day (least_crew limit G) G) ≤ limit)
  unfolding in_time
  least_ends n =
      let r = first.within n in
      (r.0, omega (arith, r.1), leb→le (length (day (least_crew limit G) G)) limit (first.passes n))

  pub least_least : (q : ℕ) → 1 ≤ q → q < least_crew limit G → limit < length (day q G)
  least_least q some l =
      late q (λ t. let r = first.within (λ e. omega arith) in omega (arith, r.1, (first.least q some (omega (arith, r.1)) t).1))

  pub least_none : least_crew limit G ≡ 0 → (q : ℕ) → 1 ≤ q → q ≤ 64 → limit < length (day q G)
  least_none z q some few = late q (λ t. (first.least q some (omega arith) t).0 z)

  pub no_banks : G.banks ≡ 0 → least_crew limit G ≡ 1
  unfolding in_time
  no_banks none =
      let r = first.least 1 (omega arith) (omega arith) (le→leb (length (day 1 G)) limit (omega (arith, no_steps G none 1))) in
      omega (arith, r.1, (first.within r.0).0)

-- of memory that holds the plan of G, whichever clashes these are, under a cap that fits
module _ {G : Graph} {s : Slices} {t : Tally} (plan : PlanOf G s t) (fits : T (cap_fits t)) where
  here : Same (graph_in t.banks s) G
  here = cells_give s t G plan

  -- 6. crew_steps is not refused where the slice has room and q is from 1 to 64: it answers the total, and cell b is the step of bank b
  pub crew_steps_of : (q : ℕ) → 1 ≤ q → q ≤ 64 → (steps : List ℕ) → G.banks ≤ length steps
      → crew_steps q s t steps ≡ crew_result (record { number = 0; total = length (day q G) }) (over (step_cells q G) steps)
  crew_steps_of q some few steps room =
      sym (steps_found q s t steps (sym (crew_fine q s t steps (omega (arith, tally_banks t G plan.tally)) (held_number G s t plan fits) (of_crew q (record { some = some; few = few })))))
      ∙ ap₂ (λ (d : List (List ℕ)) (front : List ℕ). crew_result (record { number = 0; total = length d }) (over front steps)) (day_agree here q) (cells_agree here q)

  -- 7. least_crew is refused with 25 exactly where no q from 1 to 64 ends in time; else it answers the least
  module _ (limit : ℕ) (low : limit ≤ 1024) where
    pub least_crew_of : (least_crew limit G ≡ 0 → ⊥) → least_of limit s t ≡ record { number = 0; couriers = least_crew limit G }
    least_crew_of n =
        sym (crew_found limit s t (held_number G s t plan fits) low (sym (least_agree here limit)) n)

    pub no_crew_of : least_crew limit G ≡ 0 → least_of limit s t ≡ record { number = 25; couriers = 0 }
    no_crew_of z = sym (crew_late limit s t (held_number G s t plan fits) low (sym (least_agree here limit)) z)

-- 8. a refused crew_steps answers its number and no total, and changes no cell
pub refused_steps : (q : ℕ) (s : Slices) (t : Tally) (steps : List ℕ) → (crew_number q s t steps ≡ 0 → ⊥)
    → crew_steps q s t steps ≡ crew_result (record { number = crew_number q s t steps; total = 0 }) steps
refused_steps q s t steps n = sym (steps_refused q s t steps (crew_number q s t steps) refl n)

-- 9. the examples, as the definitions have them
pub day_examples : T (all_right cases (empty 0))
day_examples = Examples.examples_hold
