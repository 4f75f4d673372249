-- The waves of a set, those that Counts tell, and the lowest that is in neither.
use mathlib.Core.Bool.{not}
use mathlib.Core.List.{List, [], ◌∷◌, map}
use mathlib.Core.Logic.{inl, inr}
use mathlib.Core.Path.{◌≡◌, refl, ap, ◌∙◌}
use Prim.Native.Nat.{ℕ, ◌+◌, ◌*◌, ◌-◌, ◌≤◌, ◌<◌}
use native.Mathlib.Omega.{arith}
use lib.Dec.{T, eqb, ltb, lt→ltb, ltb→lt}
use lib.ListN.{length, get_or, set, take, drop, length-take, length-drop}
use lib.Seq.{get_or-take, get_or-drop}
use Rattle.rule.specs.Lists.{memb, upto}
use Rattle.rule.specs.Graph.{Graph, earlier_neighbours}
use Rattle.rule.specs.Wave.{lowest_free}
use Rattle.rule.proofs.Booleans.{test_ext}
use Rattle.rule.proofs.Lists.{in_head, in_tail, in_cons, in_none, in_upto, upto_below, in_filter, filter_in}
use Rattle.rule.proofs.Waves.{earlier_neighbours_in}
use Rattle.memory.proofs.Standing.{standing_pos, pos_standing}
use Rattle.recolouring.specs.Recolouring.{waves_in, collected, Indexed, Collects, Assigns}

pub in_map : (f : ℕ → ℕ) (xs : List ℕ) (x : ℕ) → T (memb x xs) → T (memb (f x) (map f xs))
in_map f [] x m = absurd (in_none x m)
in_map f (y ∷ ys) x m = elim (in_cons x y ys m) [ inl e ↦ in_head (f x) (f y) (map f ys) (rw e) | inr u ↦ in_tail (f x) (f y) (map f ys) (in_map f ys x u) ]

map_below : (f : ℕ → ℕ) (n : ℕ) (xs : List ℕ) → ((x : ℕ) → T (memb x xs) → f x < n) → (c : ℕ) → T (memb c (map f xs)) → c < n
map_below f n [] h c m = absurd (in_none c m)
map_below f n (y ∷ ys) h c m =
    elim (in_cons c (f y) (map f ys) m) [
      | inl e ↦ rw e (h y (in_head y y ys refl))
      | inr u ↦ map_below f n ys (λ x i. h x (in_tail x y ys i)) c u
    ]

-- wave c is in the set
module _ (cells : List ℕ) (c : ℕ) where
  pub in_waves-law : c < 24 → 0 < get_or cells c 0 → T (memb c (waves_in cells))
  unfolding waves_in
  in_waves-law l some = in_filter (λ k. ltb 0 (get_or cells k 0)) (upto 24) c (in_upto 24 c l) (lt→ltb 0 (get_or cells c 0) some)

  pub waves_in-law : T (memb c (waves_in cells)) → (c < 24) × (0 < get_or cells c 0)
  unfolding waves_in
  waves_in-law m = let r = filter_in (λ k. ltb 0 (get_or cells k 0)) (upto 24) c m in (upto_below 24 c r.0, ltb→lt 0 (get_or cells c 0) r.1)

-- the part of b in Counts has the waves that the earlier neighbours of b hold
module _ (G : Graph) (ws cs : List ℕ) (b : ℕ) (within : b * 24 + 24 ≤ length cs) (ix : Indexed G ws cs) (bank : b < G.banks) where
  abbrev cells : List ℕ
  cells = take (b * 24 + 24 - b * 24) (drop (b * 24) cs)

  part : (c : ℕ) → c < 24 → get_or cells c 0 ≡ get_or cs (b * 24 + c) 0
  part c l = get_or-take (b * 24 + 24 - b * 24) (drop (b * 24) cs) c 0 (omega arith) ∙ get_or-drop (b * 24) cs c 0

  abbrev W : ℕ → ℕ
  W v = get_or ws v 0

  abbrev earliers : List ℕ
  earliers = earlier_neighbours G b

  there : (c : ℕ) → T (memb c (waves_in cells)) → T (memb c (map W earliers))
  there c m =
      let r = waves_in-law cells c m in
      standing_pos W c earliers (omega (arith, r.1, part c r.0, ix.counted.cell b c bank r.0))

  back : (c : ℕ) → T (memb c (map W earliers)) → T (memb c (waves_in cells))
  back c m =
      let small = map_below W 24 earliers (λ v i. ix.small v (earlier_neighbours_in G b v i).0) c m in
      in_waves-law cells c small (omega (arith, part c small, ix.counted.cell b c bank small, pos_standing W c earliers m))

  pub collects : Collects (take (b * 24 + 24 - b * 24) (drop (b * 24) cs)) G ws b
  unfolding collected
  collects = record {
    long = omega (arith, length-take (b * 24 + 24 - b * 24) (drop (b * 24) cs), length-drop (b * 24) cs);
    exact = λ c. test_ext (memb c (waves_in cells)) (memb c (map W earliers)) (there c) (back c);
  }

-- b has the lowest already, or gets it
pub assigns : (cells ws : List ℕ) (b : ℕ) {w : ℕ} → w ≡ lowest_free (waves_in cells) → Assigns cells ws (set ws b w) b (not (eqb (get_or ws b 0) w))
assigns _ ws b lowest = record { stored = ap (set ws b) lowest; says = ap (λ (z : ℕ). not (eqb (get_or ws b 0) z)) lowest }
