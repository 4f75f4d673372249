-- The plan is a function of the bank count, of the clashes between banks below it and of their ranks.
use mathlib.Core.List.{List, [], ◌∷◌, map, foldr}
use mathlib.Core.Path.{◌≡◌, refl, sym, ap, ap₂, ◌∙◌}
use Prim.Native.Nat.{ℕ, suc, ◌+◌, ◌*◌, ◌/◌, ◌%◌, ◌<◌, max}
use native.Mathlib.Omega.{arith}
use lib.Dec.{T}
use lib.ListN.{length, get_or, take, drop}
use lib.Seq.{take_at}
use Rattle.rule.specs.Lists.{upto, memb}
use Rattle.rule.specs.Graph.{Graph, neighbours, degree, earlier_neighbours, Same}
use Rattle.rule.specs.Wave.{wave, waves, wave_count}
use Rattle.rule.proofs.Booleans.{t_along}
use Rattle.rule.proofs.Lists.{in_head, in_tail, upto_below, map_cong}
use Rattle.rule.proofs.Waves.{earlier_neighbours_in}
use Rattle.rule.proofs.Agree.{neighbours_agree, degree_agree, earlier_neighbours_agree, wave_agree}
use Rattle.memory.specs.declared.Tally.{Tally}
use Rattle.memory.specs.Cells.{cells, over}
use Rattle.memory.specs.inner.Counts.{standing}
use Rattle.memory.specs.Plan.{Slices, neighbour_cells, degree_cells, count_cells, rank_cells, clash_count, tally_of, plan_in, PlanOf}
use Rattle.memory.specs.PlanCells.{PlanCells, plan_cells}
use Rattle.memory.proofs.Cells.{cells_cong}
use Rattle.memory.proofs.Plans.{length_neighbour_cells, length_degree_cells, length_waves, length_count_cells, length_rank_cells}
use Rattle.memory.proofs.Standing.{standing_cong}

pub fold_cong : (op : ℕ → ℕ → ℕ) (f g : ℕ → ℕ) (xs : List ℕ) → ((x : ℕ) → T (memb x xs) → f x ≡ g x)
    → foldr (λ (b m : ℕ). op (f b) m) 0 xs ≡ foldr (λ (b m : ℕ). op (g b) m) 0 xs
fold_cong op f g [] h = refl
fold_cong op f g (x ∷ xs) h = ap₂ op (h x (in_head x x xs refl)) (fold_cong op f g xs (λ y m. h y (in_tail y x xs m)))

-- equal numbers, equal tallies
pub tally_eq : {banks clashes waves banks' clashes' waves' cap : ℕ} → banks ≡ banks' → clashes ≡ clashes' → waves ≡ waves'
    → ◌≡◌ {A = Tally} (record { banks = banks; clashes = clashes; waves = waves; cap = cap }) (record { banks = banks'; clashes = clashes'; waves = waves'; cap = cap })
tally_eq {cap = cap} p q r = λ i. record { banks = p i; clashes = q i; waves = r i; cap = cap }

-- the plan cells of G
abbrev cells_of : Graph → PlanCells
cells_of G = record { neighbours = neighbour_cells G; degrees = degree_cells G; waves = waves G; counts = count_cells G; ranks = rank_cells G }

-- the front of a slice that cells were put at the front of
pub front : (xs s : List ℕ) (n : ℕ) → length xs ≡ n → take n (over xs s) ≡ xs
unfolding over
front xs s n e = take_at xs (drop (length xs) s) n e

plan_cells-law : (G : Graph) (s : Slices) → plan_cells G.banks (plan_in G s) ≡ cells_of G
unfolding plan_in
plan_cells-law G s =
    rw (
      front (neighbour_cells G) s.neighbours (23 * G.banks) (length_neighbour_cells G),
      front (degree_cells G) s.degrees G.banks (length_degree_cells G),
      front (waves G) s.waves G.banks (length_waves G),
      front (count_cells G) s.counts (24 * G.banks) (length_count_cells G),
      front (rank_cells G) s.ranks G.banks (length_rank_cells G),
    )

module _ {G H : Graph} (a : Same G H) where
  neighbour_cells_agree : neighbour_cells G ≡ neighbour_cells H
  unfolding neighbour_cells
  neighbour_cells_agree =
      ap (λ (n : ℕ). cells (23 * n) (λ i. get_or (neighbours G (i / 23)) (i % 23) 65535)) a.banks
      ∙ cells_cong (23 * H.banks) (λ i. get_or (neighbours G (i / 23)) (i % 23) 65535) (λ i. get_or (neighbours H (i / 23)) (i % 23) 65535) (λ i h.
      ap (λ (r : List ℕ). get_or r (i % 23) 65535) (neighbours_agree a (i / 23) (omega arith)))

  degree_cells_agree : degree_cells G ≡ degree_cells H
  unfolding degree_cells
  degree_cells_agree =
      ap (λ (n : ℕ). cells n (degree G)) a.banks ∙ cells_cong H.banks (degree G) (degree H) (degree_agree a)

  waves_agree : waves G ≡ waves H
  unfolding waves
  waves_agree =
      ap (λ (n : ℕ). map (wave G) (upto n)) a.banks
      ∙ map_cong (wave G) (wave H) (upto H.banks) (λ x m. wave_agree a x (upto_below H.banks x m))

  standing_agree : (c x : ℕ) → x < H.banks → standing (wave G) c (earlier_neighbours G x) ≡ standing (wave H) c (earlier_neighbours H x)
  standing_agree c x h =
      ap (standing (wave G) c) (earlier_neighbours_agree a x h)
      ∙ standing_cong (wave G) (wave H) c (earlier_neighbours H x) (λ v m. wave_agree a v (earlier_neighbours_in H x v m).0)

  count_cells_agree : count_cells G ≡ count_cells H
  unfolding count_cells standing
  count_cells_agree =
      ap (λ (n : ℕ). cells (24 * n) (λ i. standing (wave G) (i % 24) (earlier_neighbours G (i / 24)))) a.banks
      ∙ cells_cong (24 * H.banks) (λ i. standing (wave G) (i % 24) (earlier_neighbours G (i / 24))) (λ i. standing (wave H) (i % 24) (earlier_neighbours H (i / 24))) (λ i h.
      standing_agree (i % 24) (i / 24) (omega arith))

  rank_cells_agree : rank_cells G ≡ rank_cells H
  unfolding rank_cells
  rank_cells_agree = ap (λ (n : ℕ). cells n G.rank) a.banks ∙ cells_cong H.banks G.rank H.rank a.rank

  pub tally_agree : (cap : ℕ) → tally_of cap G ≡ tally_of cap H
  unfolding tally_of clash_count wave_count
  tally_agree cap =
      tally_eq a.banks
      (ap (λ (m : ℕ). m / 2) (ap (λ (n : ℕ). foldr (λ b m. degree G b + m) 0 (upto n)) a.banks
      ∙ fold_cong ◌+◌ (degree G) (degree H) (upto H.banks) (λ x m. degree_agree a x (upto_below H.banks x m))))
      (ap (λ (n : ℕ). foldr (λ b k. max (suc (wave G b)) k) 0 (upto n)) a.banks
      ∙ fold_cong (λ w k. max (suc w) k) (wave G) (wave H) (upto H.banks) (λ x m. wave_agree a x (upto_below H.banks x m)))

  pub plan_in_agree : (s : Slices) → plan_in G s ≡ plan_in H s
  unfolding plan_in
  plan_in_agree s = rw (neighbour_cells_agree, degree_cells_agree, waves_agree, count_cells_agree, rank_cells_agree)

  -- whatever lies beyond
  pub same_cells : (s s' : Slices) → plan_cells H.banks (plan_in G s) ≡ plan_cells H.banks (plan_in H s')
  same_cells s s' = ap (plan_cells H.banks) (plan_in_agree s) ∙ plan_cells-law H s ∙ sym (plan_cells-law H s')

  -- memory that holds the plan of H holds that of G
  pub plan_agree : (s : Slices) (t : Tally) → PlanOf H s t → PlanOf G s t
  plan_agree s t p = record {
    clashes = record {
      most = rw a.banks p.clashes.most;
      symmetric = λ x y hx hy. a.clash x y (below x hx) (below y hy) ∙ p.clashes.symmetric x y (below x hx) (below y hy) ∙ sym (a.clash y x (below y hy) (below x hx));
      apart = λ x h c. p.clashes.apart x (below x h) (t_along (a.clash x x (below x h) (below x h)) c);
      few = λ x h. rw (degree_agree a x (below x h)) (p.clashes.few x (below x h));
      ranks = λ x h. rw (a.rank x (below x h)) (p.clashes.ranks x (below x h));
    };
    long = rw a.banks p.long;
    cells = plan_in_agree s ∙ p.cells;
    tally = p.tally ∙ sym (tally_agree t.cap);
  }
    where
      below : (x : ℕ) → x < G.banks → x < H.banks
      below x h = omega (arith, a.banks)
