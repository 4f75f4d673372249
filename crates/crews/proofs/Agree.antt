-- The day depends on the clashes and the ranks alone.
use mathlib.Core.List.{List, ◌++◌}
use mathlib.Core.Path.{◌≡◌, refl, ap, ap₂, ◌∙◌}
use Prim.Native.Nat.{ℕ, zero, suc}
use lib.Dec.{eqb, leb}
use lib.ListN.{length}
use Rattle.rule.specs.Lists.{upto, filter}
use Rattle.rule.specs.Graph.{Graph, Same}
use Rattle.rule.specs.Wave.{wave, wave_count, banks_by, banks_of}
use Rattle.rule.proofs.Lists.{upto_below, filter_cong}
use Rattle.rule.proofs.Theorems.{wave_agree}
use Rattle.memory.specs.declared.Tally.{Tally}
use Rattle.memory.specs.Cells.{cells}
use Rattle.memory.specs.Plan.{tally_of}
use Rattle.memory.proofs.Theorems.{tally_agree}
use Rattle.crews.specs.Day.{steps_of, day_to, day, step_of, in_time, least_crew}
use Rattle.crews.specs.Calls.{step_cells}
use Rattle.crews.proofs.Answers.{first_cong}

module _ {G H : Graph} (a : Same G H) where
  banks_agree : (w : ℕ) → banks_of G w ≡ banks_of H w
  unfolding banks_by
  banks_agree w =
      ap (λ (n : ℕ). filter (λ b. eqb (wave G b) w) (upto n)) a.banks
      ∙ filter_cong (λ b. eqb (wave G b) w) (λ b. eqb (wave H b) w) (upto H.banks) (λ b m.
      ap (λ (c : ℕ). eqb c w) (wave_agree a b (upto_below H.banks b m)))

  count_agree : wave_count G ≡ wave_count H
  unfolding tally_of
  count_agree = ap (λ (t : Tally). t.waves) (tally_agree a 24)

  day_to_agree : (q k : ℕ) → day_to q G k ≡ day_to q H k
  unfolding day_to
  day_to_agree q zero = refl
  day_to_agree q (suc k) = ap₂ (λ (x y : List (List ℕ)). x ++ y) (day_to_agree q k) (ap (steps_of q) (banks_agree k))

  pub day_agree : (q : ℕ) → day q G ≡ day q H
  unfolding day
  day_agree q = day_to_agree q (wave_count G) ∙ ap (day_to q H) count_agree

  pub cells_agree : (q : ℕ) → step_cells q G ≡ step_cells q H
  unfolding step_cells
  cells_agree q = ap₂ (λ (n : ℕ) (d : List (List ℕ)). cells n (λ b. step_of b d)) a.banks (day_agree q)

  pub least_agree : (limit : ℕ) → least_crew limit G ≡ least_crew limit H
  unfolding least_crew in_time
  least_agree limit =
      first_cong (λ q. leb (length (day q G)) limit) (λ q. leb (length (day q H)) limit) 64 1 (λ q l. ap (λ (d : List (List ℕ)). leb (length d) limit) (day_agree q))
