-- What memory that holds a plan gives the call, and what the call answers, by the number of the first no.
use mathlib.Core.Logic.{◌≢◌}
use mathlib.Core.Path.{◌≡◌, refl, ap}
use native.Mathlib.Omega.{arith}
use Prim.Native.Nat.{ℕ, zero, suc}
use Rattle.rule.specs.Graph.{Graph}
use Rattle.rule.specs.Bounds.{wave_bound}
use Rattle.memory.specs.declared.Tally.{Tally}
use Rattle.memory.specs.Plan.{Slices, graph_in, PlanOf}
use Rattle.memory.specs.inner.View.{Held}
use Rattle.memory.proofs.Theorems.{held_of}
use Rattle.planner.specs.Calls.{plan_number}
use Rattle.wave_bounds.specs.Calls.{bound_by, bound_of}
use Rattle.cell_counts.specs.inner.Cells.{FewEach}
use Rattle.wave_bounds.specs.inner.Degrees.{cells_from, Above}
use Rattle.wave_bounds.proofs.Degrees.{bound_is}

module _ {G : Graph} {s : Slices} {t : Tally} (plan : PlanOf G s t) where
  held : Held G s t.banks
  held = held_of G s t plan

  pub plan_degrees : FewEach s.degrees t.banks
  plan_degrees = record {
    most = omega (arith, held.banks, held.rowed.few);
    long = omega (arith, held.banks, held.rowed.wide_degrees);
    small = λ b l. omega (arith, held.banks, held.rowed.degrees b (omega (arith, held.banks)), held.rowed.small b (omega (arith, held.banks)));
  }

  pub plan_bound : {r : ℕ} → Above (cells_from s.degrees t.banks) r → r ≡ wave_bound G
  plan_bound = bound_is G s.degrees t.banks held.banks held.rowed.degrees

module _ (s : Slices) (t : Tally) where
  bound_by-law : (c : ℕ) → c ≡ plan_number s t → bound_by c (graph_in t.banks s) ≡ bound_of s t
  unfolding bound_of
  bound_by-law c e = ap (λ (x : ℕ). bound_by x (graph_in t.banks s)) e

  pub bound_refused : (c : ℕ) → c ≡ plan_number s t → c ≢ 0 → 0 ≡ bound_of s t
  bound_refused zero e n = absurd (n refl)
  bound_refused (suc c) e n = unfold bound_by in bound_by-law (suc c) e

  pub bound_found : 0 ≡ plan_number s t → wave_bound (graph_in t.banks s) ≡ bound_of s t
  bound_found e = unfold bound_by in bound_by-law 0 e
