-- The theorems to cite (02, N8): how many waves k at most. Their proofs are in the files beside this one, and below in rule and memory.
use mathlib.Core.Path.{◌≡◌, sym, ◌∙◌}
use native.Mathlib.Omega.{arith}
use Prim.Native.Nat.{◌+◌, ◌*◌, ◌-◌, ◌/◌, ◌≤◌}
use lib.Dec.{T}
use Rattle.rule.specs.Graph.{Graph}
use Rattle.rule.specs.Bounds.{wave_bound, largest_degree}
use Rattle.rule.proofs.Theorems.{bound_agree, bound_most, bound_small, bound_banks}
use Rattle.memory.specs.declared.Tally.{Tally}
use Rattle.memory.specs.Plan.{Slices, cap_fits, PlanOf}
use Rattle.memory.proofs.Theorems.{cells_give, tally_clashes, tally_bound, tally_most, tally_waves}
use Rattle.planner.specs.Calls.{plan_number}
use Rattle.planner.proofs.Theorems.{held_number}
use Rattle.wave_bounds.specs.Calls.{bound_of}
use Rattle.wave_bounds.proofs.Calls.{bound_found}

-- of memory that holds the plan of G, whichever clashes these are
module _ {G : Graph} {s : Slices} {t : Tally} (plan : PlanOf G s t) where
  -- 1. under a cap that fits, the call is not refused, and its answer is the bound of Welsh and Powell,
  module _ (fits : T (cap_fits t)) where
    pub bound_number : plan_number s t ≡ 0
    bound_number = held_number G s t plan fits

    pub bound_of-law : bound_of s t ≡ wave_bound G
    bound_of-law = sym (bound_found s t (sym bound_number)) ∙ bound_agree (cells_give s t G plan)

    -- which the tally's k never passes
    pub waves_bound : t.waves ≤ bound_of s t
    waves_bound = omega (arith, bound_of-law, tally_bound plan)

  -- 2. k (k - 1) / 2 is at most the tally's clashes
  pub waves_clashes : t.waves * (t.waves - 1) / 2 ≤ t.clashes
  waves_clashes = tally_clashes plan

  -- 3. k is at most one plus the largest degree, and at most 24
  pub waves_most : t.waves ≤ 1 + largest_degree G
  waves_most = tally_most plan

  pub waves_small : t.waves ≤ 24
  waves_small = tally_waves plan

  -- and so is the answer, which is at most the number of banks too
  module _ (fits : T (cap_fits t)) where
    pub bound_most_degree : bound_of s t ≤ 1 + largest_degree G
    bound_most_degree = omega (arith, bound_of-law fits, bound_most G)

    pub bound_24 : bound_of s t ≤ 24
    bound_24 = omega (arith, bound_of-law fits, bound_small G plan.clashes.few)

    pub bound_most_banks : bound_of s t ≤ G.banks
    bound_most_banks = omega (arith, bound_of-law fits, bound_banks G)
