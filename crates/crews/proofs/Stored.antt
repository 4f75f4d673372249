-- The banks are served one after the other, and their steps stored.
use mathlib.Core.List.{List}
use mathlib.Core.Path.{◌≡◌, refl, sym, ap, ◌∙◌}
use native.Mathlib.Nat.{div-le_self}
use native.Mathlib.Numerals.{add-one}
use native.Mathlib.Omega.{arith}
use Prim.Native.Nat.{ℕ, ◌+◌, ◌/◌, ◌≤◌, ◌<◌}
use lib.ListN.{length, get_or, set, replicate}
use lib.Seq.{take_all}
use Rattle.rule.specs.Lists.{upto}
use Rattle.rule.proofs.Lists.{length_upto}
use Rattle.memory.specs.Cells.{cells, over}
use Rattle.memory.specs.inner.Counts.{Tallied, grown}
use Rattle.memory.proofs.Fronts.{get_d_map, get_d_upto, over_next}
use Rattle.memory.proofs.Cells.{length_cells, cells_cong}
use Rattle.cell_counts.specs.inner.Cells.{cells_at, FewEach}
use Rattle.cell_counts.proofs.Counting.{none_counted, next_counted, cell_small, count_small}
use Rattle.crews.specs.Day.{sum_up}
use Rattle.crews.specs.inner.Serving.{Crew, Sizes, steps_to, StartsTo, step_by, Servable, ServedTo, Served}
use Rattle.crews.proofs.Starts.{sum_up_cong, steps_few}

module _ {ws starts was : List ℕ} {n q : ℕ} (ask : Servable ws was starts n q) where
  abbrev front : List ℕ
  front = cells n (step_by ws starts q)

  -- no bank is served
  pub served_none : {i : ℕ} → i ≡ 0 → ServedTo ws starts n q was i (replicate 24 0) was
  unfolding over
  served_none e = rw e (record { counted = none_counted ws; stored = refl })

  -- all are
  pub served_all : {i : ℕ} {seen steps : List ℕ} → ServedTo ws starts n q was i seen steps → n ≤ i → steps ≡ over front was
  served_all {i} so_far l = rw (take_all i front (omega (arith, length_cells n (step_by ws starts q)))) at so_far.stored

  -- what is read fits: a wave its 24 cells, a count and a step a cell
  pub wave_small : {i w : ℕ} → w ≡ get_or ws i 0 → i < n → w < 24
  wave_small is bank = cell_small ask.waves bank is

  module _ {i : ℕ} {seen steps : List ℕ} (so_far : ServedTo ws starts n q was i seen steps) (within : i ≤ n) {w : ℕ} (small : w < 24) where
    pub seen_few : get_or seen w 0 ≤ 1024
    seen_few = count_small ask.waves within so_far.counted small

    pub step_few : get_or starts w 0 + get_or seen w 0 / q ≤ 27112
    step_few = omega (arith, ask.low w small, div-le_self (get_or seen w 0) q, seen_few)

  -- bank i, of wave w, is next
  module _ {i : ℕ} {seen steps : List ℕ} (so_far : ServedTo ws starts n q was i seen steps) (bank : i < n) {w : ℕ} (is : w ≡ get_or ws i 0) where
    step_is : get_or starts w 0 + get_or seen w 0 / q + 1 ≡ get_or front i 0
    unfolding cells step_by
    step_is =
        rw (so_far.counted.counts w (wave_small is bank), is)
        (sym (get_d_map (step_by ws starts q) (upto n) i (omega (arith, length_upto n)) ∙ ap (step_by ws starts q) (get_d_upto n i bank)))

    -- it is counted, and its step stored
    pub served_next : ServedTo ws starts n q was (i + 1) (grown seen w) (set steps i (get_or starts w 0 + get_or seen w 0 / q + 1))
    served_next = record {
      counted = next_counted ws i so_far.counted is (wave_small is bank);
      stored = rw (step_is, so_far.stored, add-one) (over_next front was i
          (omega (arith, length_cells n (step_by ws starts q)))
          (omega (arith, length_cells n (step_by ws starts q), ask.room)));
    }

-- from the sizes of the waves to the steps of all banks
module _ {ws sizes : List ℕ} {n : ℕ} (few : FewEach ws n) (counted : Tallied sizes (cells_at ws n)) where
  pub sizes_fit : Sizes sizes
  sizes_fit = record { long = counted.long; few = λ w l. count_small few (omega arith) counted l }

  module _ {q : ℕ} (crew : Crew q) where
    steps_are : (w : ℕ) → w ≤ 24 → steps_to sizes q w ≡ sum_up q (cells_at ws n) w
    steps_are w l = sum_up_cong q (λ c. get_or sizes c 0) (cells_at ws n) w (λ v k. counted.counts v (omega arith))

    module _ {starts was : List ℕ} {sum : ℕ} (st : StartsTo sizes q 24 starts sum) where
      pub servable : n ≤ length was → Servable ws was starts n q
      servable room = record {
        waves = few;
        room = room;
        crew = crew;
        low = λ w l. omega (arith, st.before w l, steps_few sizes_fit crew w (omega arith));
      }

      pub all_served : {steps : List ℕ} → steps ≡ over (cells n (step_by ws starts q)) was → Served ws n q was sum steps
      unfolding step_by
      all_served e = record {
        total = st.total ∙ steps_are 24 (omega arith);
        stored = e ∙ ap (λ (front : List ℕ). over front was) (cells_cong n _ _ (λ b l.
            ap (λ (x : ℕ). x + cells_at ws b (get_or ws b 0) / q + 1)
            (st.before (get_or ws b 0) (few.small b l) ∙ steps_are (get_or ws b 0) (omega (arith, few.small b l)))));
      }
