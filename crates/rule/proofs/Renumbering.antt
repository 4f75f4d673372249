-- A renumbering that keeps clashes and ranks, where no two ranks are equal, keeps the waves: degrees correspond, so the order does, since
-- numbers decide nothing; so do the earlier neighbours, and with them the waves, from the earliest bank on.
use mathlib.Core.Bool.{Bool, ◌&&◌}
use mathlib.Core.List.{List, [], ◌∷◌, map}
use mathlib.Core.Path.{◌≡◌, refl, sym, ap, ap₂, ◌∙◌}
use native.Mathlib.Decide.{ℕ_discrete}
use native.Mathlib.Omega.{arith}
use Prim.Native.Nat.{ℕ, ◌≤◌, ◌<◌}
use lib.Dec.{T, ltb}
use lib.ListN.{length}
use Rattle.rule.specs.Lists.{upto, filter, memb, sort_by, Sorted}
use Rattle.rule.specs.Graph.{Graph, neighbours, degree, earlier, earlier_neighbours}
use Rattle.rule.specs.Wave.{wave, wave_count}
use Rattle.rule.specs.Renumbering.{Renumbered, RanksDiffer}
use Rattle.rule.proofs.Booleans.{and_r, test_ext, t_along}
use Rattle.rule.proofs.Lists.{in_head, in_tail, in_upto, upto_below, filter_cong, in_map, map_in, count_map, most_above, most_below}
use Rattle.rule.proofs.Order.{ltb_strict, earlier_elsewhere, earlier_irrefl}
use Rattle.rule.proofs.Sorting.{sorted_unique, sorted_sort_by, memb_sort_by, sorted_upto}
use Rattle.rule.proofs.Reaches.{count_sort_by}
use Rattle.rule.proofs.Free.{lowest_free_members}
use Rattle.rule.proofs.Waves.{earlier_induction, earlier_neighbours_in, in_earlier_neighbours, wave_equation}

module _ {G H : Graph} {to from : ℕ → ℕ} (r : Renumbered G H to from) where
  -- the new numbers come in the order of the old ones
  by_old : ℕ → ℕ → Bool
  by_old u v = ltb (from u) (from v)

  sorted_to : (xs : List ℕ) → ((x : ℕ) → T (memb x xs) → x < G.banks) → Sorted ltb xs → Sorted by_old (map to xs)
  unfolding by_old
  sorted_to [] h s = tt
  sorted_to (x ∷ xs) h s = (
    λ y m. (let v = map_in to xs y m in
        let here : from (to x) ≡ x = r.back x (h x (in_head x x xs refl)) in
        let there : from y ≡ v.0 = ap from v.2 ∙ r.back v.0 (h v.0 (in_tail v.0 x xs v.1)) in
        rw (here, there) (s.0 v.0 v.1)),
    sorted_to xs (λ y m. h y (in_tail y x xs m)) s.1,
  )

  -- they are all numbers again
  renumbered_upto : upto G.banks ≡ sort_by ltb (map to (upto G.banks))
  renumbered_upto =
      let n : ℕ = G.banks in
      sorted_unique ltb ltb_strict (upto n) (sort_by ltb (map to (upto n))) (sorted_upto n)
      (sorted_sort_by ltb ltb_strict by_old (unfold by_old in λ x. ltb_strict.irrefl (from x)) (map to (upto n)) (sorted_to (upto n) (upto_below n) (sorted_upto n)))
      (λ y. test_ext (memb y (upto n)) (memb y (sort_by ltb (map to (upto n))))
      (λ m. (let h = upto_below n y m in
      t_along (sym (memb_sort_by ltb (map to (upto n)) y)) (rw (r.forth y h) at (in_map to (upto n) (from y) (in_upto n (from y) (r.from_bank y h))))))
      (λ m. (let v = map_in to (upto n) y (t_along (memb_sort_by ltb (map to (upto n)) y) m) in
      in_upto n y (rw v.2 (r.to_bank v.0 (upto_below n v.0 v.1))))))

  -- as many new numbers pass a test as old ones
  count_renumbered : (p : ℕ → Bool) → length (filter p (upto G.banks)) ≡ length (filter (λ x. p (to x)) (upto G.banks))
  count_renumbered p =
      ap (λ (xs : List ℕ). length (filter p xs)) renumbered_upto
      ∙ count_sort_by ltb p (map to (upto G.banks))
      ∙ count_map p to (upto G.banks)

  degree_renumbered : (x : ℕ) → x < G.banks → degree H (to x) ≡ degree G x
  unfolding degree neighbours
  degree_renumbered x h =
      ap (λ (n : ℕ). length (filter (H.clash (to x)) (upto n))) r.banks
      ∙ count_renumbered (H.clash (to x))
      ∙ ap length (filter_cong (λ y. H.clash (to x) (to y)) (G.clash x) (upto G.banks) (λ y m. r.clash x y h (upto_below G.banks y m)))

  module _ (differ : RanksDiffer G) where
    earlier_renumbered : (p q : ℕ) → p < G.banks → q < G.banks → earlier H (to p) (to q) ≡ earlier G p q
    earlier_renumbered p q hp hq = go (ℕ_discrete p q)
      where
        go : Dec (p ≡ q) → earlier H (to p) (to q) ≡ earlier G p q
        go (yes e) =
            test_ext (earlier H (to p) (to q)) (earlier G p q)
            (λ t. absurd (earlier_irrefl H (to q) (rw e at t)))
            (λ t. absurd (earlier_irrefl G q (rw e at t)))
        go (no d) =
            sym (earlier_elsewhere G H p q (to p) (to q) (sym (degree_renumbered p hp)) (sym (degree_renumbered q hq)) (sym (r.rank p hp)) (sym (r.rank q hq))
            (differ p q hp hq d))

    -- the earlier neighbours correspond
    earlier_clash : (x v : ℕ) → x < G.banks → v < G.banks
        → (H.clash (to x) (to v) && earlier H (to v) (to x)) ≡ (G.clash x v && earlier G v x)
    earlier_clash x v hx hv = ap₂ ◌&&◌ (r.clash x v hx hv) (earlier_renumbered v x hv hx)

    -- so the waves that they hold are the same, if theirs are
    module _ (x : ℕ) (h : x < G.banks) (before : (v : ℕ) → v < G.banks → T (earlier G v x) → wave H (to v) ≡ wave G v) where
      held_before : (c : ℕ) → T (memb c (map (wave H) (earlier_neighbours H (to x)))) → T (memb c (map (wave G) (earlier_neighbours G x)))
      held_before c m =
          let u = map_in (wave H) (earlier_neighbours H (to x)) c m in
          let near = earlier_neighbours_in H (to x) u.0 u.1 in
          let below : u.0 < G.banks = omega (arith, near.0, r.banks) in
          let v : ℕ = from u.0 in
          let hv : v < G.banks = r.from_bank u.0 below in
          let named : to v ≡ u.0 = r.forth u.0 below in
          let t : T (G.clash x v && earlier G v x) = t_along (earlier_clash x v h hv) (rw named near.1) in
          let is : c ≡ wave G v = u.2 ∙ ap (wave H) (sym named) ∙ before v hv (and_r (G.clash x v) (earlier G v x) t) in
          rw is (in_map (wave G) (earlier_neighbours G x) v (in_earlier_neighbours G x v hv t))

      held_after : (c : ℕ) → T (memb c (map (wave G) (earlier_neighbours G x))) → T (memb c (map (wave H) (earlier_neighbours H (to x))))
      held_after c m =
          let v = map_in (wave G) (earlier_neighbours G x) c m in
          let near = earlier_neighbours_in G x v.0 v.1 in
          let below : to v.0 < H.banks = omega (arith, r.to_bank v.0 near.0, r.banks) in
          let t = t_along (sym (earlier_clash x v.0 h near.0)) near.1 in
          let is : c ≡ wave H (to v.0) = v.2 ∙ sym (before v.0 near.0 (and_r (G.clash x v.0) (earlier G v.0 x) near.1)) in
          rw is (in_map (wave H) (earlier_neighbours H (to x)) (to v.0) (in_earlier_neighbours H (to x) (to v.0) below t))

      wave_step : wave H (to x) ≡ wave G x
      wave_step =
          wave_equation H (to x) (omega (arith, r.to_bank x h, r.banks))
          ∙ lowest_free_members _ _ (λ c. test_ext _ _ (held_before c) (held_after c))
          ∙ sym (wave_equation G x h)

    pub renumbered_waves : (x : ℕ) → x < G.banks → wave H (to x) ≡ wave G x
    renumbered_waves = earlier_induction G (λ x. wave H (to x) ≡ wave G x) wave_step

    pub renumbered_count : wave_count H ≡ wave_count G
    unfolding wave_count
    renumbered_count =
        let low : wave_count H ≤ wave_count G =
        most_below _ (upto H.banks) (wave_count G) (λ y m.
        let h : y < G.banks = omega (arith, upto_below H.banks y m, r.banks) in
        let hv = r.from_bank y h in
        let is : wave H y ≡ wave G (from y) = ap (wave H) (sym (r.forth y h)) ∙ renumbered_waves (from y) hv in
        rw is (most_above _ (upto G.banks) (from y) (in_upto G.banks (from y) hv))) in
        let high : wave_count G ≤ wave_count H =
        most_below _ (upto G.banks) (wave_count H) (λ x m.
        let h = upto_below G.banks x m in
        let hu : to x < H.banks = omega (arith, r.to_bank x h, r.banks) in
        rw (← renumbered_waves x h) (most_above _ (upto H.banks) (to x) (in_upto H.banks (to x) hu))) in
        omega arith
