-- Banks that clash have different waves.
use mathlib.Core.List.{map}
use mathlib.Core.Logic.{inl, inr}
use mathlib.Core.Path.{◌≡◌, sym}
use native.Mathlib.Decide.{ℕ_discrete}
use Prim.Native.Nat.{ℕ, ◌<◌}
use lib.Dec.{T}
use Rattle.rule.specs.Graph.{Graph, earlier, earlier_neighbours}
use Rattle.rule.specs.Wave.{wave}
use Rattle.rule.proofs.Booleans.{both, t_along}
use Rattle.rule.proofs.Lists.{in_map}
use Rattle.rule.proofs.Waves.{in_earlier_neighbours}
use Rattle.rule.proofs.Theorems.{earlier_strict, wave_equation, lowest_free_free}
use Rattle.memory.specs.Plan.{Clashes}

module _ (G : Graph) where
  -- y is the earlier one
  after_apart : (x y : ℕ) → x < G.banks → y < G.banks → T (G.clash x y) → T (earlier G y x) → wave G x ≡ wave G y → ⊥
  after_apart x y hx hy c t e =
      let rule = wave_equation G x hx in
      let held = in_map (wave G) (earlier_neighbours G x) y (in_earlier_neighbours G x y hy (both (G.clash x y) (earlier G y x) c t)) in
      lowest_free_free (map (wave G) (earlier_neighbours G x)) (rw (← rule, e) held)

  pub waves_apart : Clashes G → (x y : ℕ) → x < G.banks → y < G.banks → T (G.clash x y) → wave G x ≡ wave G y → ⊥
  waves_apart good x y hx hy c e =
      elim (ℕ_discrete x y) [
        | yes same ↦ good.apart x hx (rw (← same) at c)
        | no other ↦ elim ((earlier_strict G).total x y other) [
          | inl t ↦ after_apart y x hy hx (t_along (good.symmetric x y hx hy) c) t (sym e)
          | inr t ↦ after_apart x y hx hy c t e
        ]
      ]
