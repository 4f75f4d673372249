-- The theorems to cite (02, N11): of memory that holds a plan of at most 16 banks, the wave read straight off is the rule wave, and the kept one.
use mathlib.Core.Path.{◌≡◌, sym, ◌∙◌}
use native.Mathlib.Omega.{arith}
use Prim.Native.Nat.{ℕ, ◌≤◌, ◌<◌}
use lib.Dec.{T}
use lib.ListN.{get_or}
use Rattle.rule.specs.Graph.{Graph}
use Rattle.rule.specs.Wave.{wave}
use Rattle.rule.proofs.Theorems.{wave_agree}
use Rattle.memory.specs.declared.Tally.{Tally}
use Rattle.memory.specs.Plan.{Slices, cap_fits, PlanOf}
use Rattle.memory.specs.inner.View.{Held}
use Rattle.memory.proofs.Theorems.{cells_give, held_of}
use Rattle.planner.specs.Calls.{wave_of}
use Rattle.planner.proofs.Theorems.{held_number}
use Rattle.planner.proofs.Numbers.{bank_fine}
use Rattle.planner.proofs.Rows as Rows
use Rattle.direct_rule.specs.Calls.{direct_number, rule_wave_of}
use Rattle.direct_rule.proofs.Numbers.{direct_fine, wave_found}

-- whichever clashes these are, under a cap that fits, and for each of the banks
module _ {G : Graph} {s : Slices} {t : Tally} (plan : PlanOf G s t) (fits : T (cap_fits t)) (few : G.banks ≤ 16) {b : ℕ} (bank : b < G.banks) where
  held : Held G s t.banks
  held = held_of G s t plan

  below : b < t.banks
  below = omega (arith, held.banks)

  -- 1. the call is not refused, and answers the rule wave
  pub rule_number : direct_number b s t ≡ 0
  rule_number = direct_fine s t b (held_number G s t plan fits) (omega (arith, held.banks)) below

  pub rule_wave : rule_wave_of b s t ≡ wave G b
  rule_wave = sym (wave_found s t b (sym rule_number)) ∙ wave_agree (cells_give s t G plan) b bank

  -- 2. so it equals the kept wave: what stands in the bank's cell, and what wave_of answers
  pub rule_kept : rule_wave_of b s t ≡ get_or s.waves b 0
  rule_kept = rule_wave ∙ sym (held.waves b bank)

  pub rule_answered : rule_wave_of b s t ≡ wave_of b s t
  rule_answered =
      sym (wave_found s t b (sym rule_number)) ∙ Rows.wave_found b s t (sym (bank_fine s t b (held_number G s t plan fits) below))
