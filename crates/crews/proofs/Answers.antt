-- What the calls find in memory that holds a plan: its day.
use mathlib.Core.Bool.{Bool, cond}
use mathlib.Core.List.{List, [], ◌∷◌}
use mathlib.Core.Path.{◌≡◌, refl, sym, ap, ap₂, ◌∙◌}
use native.Mathlib.Omega.{arith}
use Prim.Native.Nat.{ℕ, zero, suc, ◌+◌, ◌-◌, ◌/◌, ◌≤◌, ◌<◌}
use lib.Dec.{T, eqb, leb}
use lib.ListN.{length, get_or}
use Rattle.rule.specs.Lists.{upto, filter, memb}
use Rattle.rule.specs.Graph.{Graph}
use Rattle.rule.specs.Wave.{wave, wave_count, banks_by, banks_of}
use Rattle.rule.proofs.Lists.{in_head, upto_below}
use Rattle.rule.proofs.Theorems.{wave_count_small}
use Rattle.memory.specs.declared.Tally.{Tally}
use Rattle.memory.specs.Cells.{cells, over}
use Rattle.memory.specs.Plan.{Slices, PlanOf}
use Rattle.memory.specs.inner.Counts.{standing, Tallied}
use Rattle.memory.specs.inner.View.{Held}
use Rattle.memory.proofs.Cells.{cells_cong}
use Rattle.memory.proofs.Standing.{standing_cong}
use Rattle.memory.proofs.Theorems.{held_of, held_small}
use Rattle.cell_counts.specs.inner.Cells.{cells_at, FewEach}
use Rattle.crews.specs.Day.{day, step_of, sum_up, in_time, first_from, least_crew}
use Rattle.crews.specs.Calls.{step_cells, crew_result}
use Rattle.crews.specs.inner.Serving.{Served, ends_by, least_by_sizes}
use Rattle.crews.proofs.Starts.{sum_up_cong}
use Rattle.crews.proofs.Divided.{sum_none}
use Rattle.crews.proofs.Days.{wave_banks_in, wave_below, length_day, day_step}

none_in : (xs : List ℕ) → ((x : ℕ) → T (memb x xs) → ⊥) → length xs ≡ 0
none_in [] n = refl
none_in (x ∷ xs) n = absurd (n x (in_head x x xs refl))

pub first_cong : (f g : ℕ → Bool) (count q : ℕ) → ((x : ℕ) → q ≤ x → f x ≡ g x) → first_from count q f ≡ first_from count q g
unfolding first_from
first_cong f g zero q h = refl
first_cong f g (suc count) q h =
    ap₂ (λ (t : Bool) (r : ℕ). cond t q r) (h q (omega arith)) (first_cong f g count (suc q) (λ x l. h x (omega arith)))

module _ {G : Graph} {s : Slices} {t : Tally} (plan : PlanOf G s t) where
  abbrev ws : List ℕ
  ws = s.waves

  abbrev n : ℕ
  n = t.banks

  held : Held G s n
  held = held_of G s t plan

  pub plan_waves : FewEach ws n
  plan_waves = record { most = omega (arith, held.banks, held.rowed.few); long = held.wide_waves; small = held_small held }

  -- the cells of the first banks, counted, are their waves
  lower_are : (i w : ℕ) → i ≤ n → cells_at ws i w ≡ length (filter (λ v. eqb (wave G v) w) (upto i))
  lower_are i w l =
      standing_cong (λ b. get_or ws b 0) (wave G) w (upto i) (λ v m. held.waves v (omega (arith, held.banks, upto_below i v m)))
      ∙ (unfold standing in refl)

  sizes_are : (w : ℕ) → cells_at ws n w ≡ length (banks_of G w)
  unfolding banks_by
  sizes_are w = lower_are n w (omega arith) ∙ ap (λ (k : ℕ). length (filter (λ v. eqb (wave G v) w) (upto k))) held.banks

  no_wave : (w : ℕ) → wave_count G ≤ w → cells_at ws n w ≡ 0
  no_wave w l =
      sizes_are w ∙ none_in (banks_of G w) (λ b m.
      let r = wave_banks_in G w b m in omega (arith, wave_below G b r.0, r.1))

  module _ (q : ℕ) (some : 1 ≤ q) where
    sums_are : (k : ℕ) → sum_up q (cells_at ws n) k ≡ sum_up q (λ w. length (banks_of G w)) k
    sums_are k = sum_up_cong q (cells_at ws n) (λ w. length (banks_of G w)) k (λ w l. sizes_are w)

    pub total_is : sum_up q (cells_at ws n) 24 ≡ length (day q G)
    unfolding day
    total_is =
        let k = wave_count G in
        let all : 24 ≡ 24 - k + k = omega (arith, wave_count_small G plan.clashes.few) in
        ap (sum_up q (cells_at ws n)) all
        ∙ sum_none q some (cells_at ws n) k (24 - k) no_wave
        ∙ sums_are k
        ∙ sym (length_day G q some k)

    step_is : (b : ℕ) → b < n → sum_up q (cells_at ws n) (get_or ws b 0) + cells_at ws b (get_or ws b 0) / q + 1 ≡ step_of b (day q G)
    step_is b l =
        let bank : b < G.banks = omega (arith, held.banks) in
        rw (held.waves b bank, sums_are (wave G b), lower_are b (wave G b) (omega arith)) (sym (day_step G q some b bank))

    -- what is stored and answered is the day's
    pub served_is : {was steps : List ℕ} {sum : ℕ} → Served ws n q was sum steps
        → crew_result (record { number = 0; total = sum }) steps ≡ crew_result (record { number = 0; total = length (day q G) }) (over (step_cells q G) was)
    unfolding step_cells
    served_is {was} d =
        ap₂ (λ (x : ℕ) (y : List ℕ). crew_result (record { number = 0; total = x }) y) (d.total ∙ total_is)
        (d.stored ∙ ap (λ (front : List ℕ). over front was) (cells_cong n _ _ step_is ∙ ap (λ (k : ℕ). cells k (λ b. step_of b (day q G))) held.banks))

  -- and so is the least number of couriers
  pub least_is : {sizes : List ℕ} → Tallied sizes (cells_at ws n) → (limit : ℕ) → least_by_sizes sizes limit ≡ least_crew limit G
  unfolding least_crew in_time
  least_is {sizes} counted limit =
      first_cong (ends_by sizes limit) (λ q. leb (length (day q G)) limit) 64 1 (λ q l.
      ap (λ (m : ℕ). leb m limit)
      (sum_up_cong q (λ c. get_or sizes c 0) (cells_at ws n) 24 (λ w k. counted.counts w k) ∙ total_is q l))
