-- Kept plans: what a place holds after a keeping, and what comes back from it.
use mathlib.Core.List.{List, [], ◌∷◌, append-nil}
use mathlib.Core.Path.{◌≡◌, refl, sym, ap, ◌∙◌}
use Prim.Native.Nat.{ℕ, ◌+◌, ◌*◌}
use native.Mathlib.Nat.{add-zero}
use native.Mathlib.Omega.{arith}
use lib.ListN.{length, get_or, take, drop}
use lib.Seq.{drop-length, get_or-drop}
use Rattle.rule.specs.Graph.{Graph}
use Rattle.rule.specs.Wave.{waves}
use Rattle.memory.specs.declared.Tally.{Tally}
use Rattle.memory.specs.Cells.{over}
use Rattle.memory.specs.Plan.{Slices, slices_of, neighbour_cells, degree_cells, count_cells, rank_cells, plan_in, PlanOf}
use Rattle.memory.specs.inner.View.{Long}
use Rattle.memory.proofs.Views.{tally_banks}
use Rattle.memory.proofs.Theorems.{long_enough-law, length_neighbour_cells, length_degree_cells, length_waves, length_count_cells}
use Rattle.memory.proofs.Theorems.{length_rank_cells}
use Rattle.shelf.specs.Shelf.{degrees_at, waves_at, counts_at, tally_at, ranks_at, cap_at, part, slices_in, tally_in, place_cells}
use Rattle.checkpoints.specs.Calls.{over_all}
use Rattle.shelf.proofs.Putting.{skip, first}
use Rattle.checkpoints.proofs.Calls as cells

-- the plan cells of n banks at the fronts of the slices, as slices
abbrev pub fronts : ℕ → Slices → Slices
fronts n s = slices_of (take (23 * n) s.neighbours) (take n s.degrees) (take n s.waves) (take (24 * n) s.counts) (take n s.ranks)

-- the cells of a place in which a plan is kept
module _ (s : Slices) (t : Tally) (l : Long t.banks s) where
  abbrev n : ℕ
  n = t.banks

  pub kept_cell : get_or (place_cells s t) 0 0 ≡ 1
  unfolding place_cells
  kept_cell = refl

  -- from a place in it on
  past_rows : (m : ℕ) → drop (degrees_at n + m) (place_cells s t) ≡ drop m (cells.from_degrees s t l)
  unfolding place_cells
  past_rows m =
      skip (1 ∷ []) (cells.from_rows-law s t l) (degrees_at n + m) (23 * n + m) (omega arith)
      ∙ skip (cells.rows s t l) (cells.from_degrees s t l) (23 * n + m) m (omega (arith, cells.length_rows s t l))

  past_degrees : (m : ℕ) → drop (waves_at n + m) (place_cells s t) ≡ drop m (cells.from_waves s t l)
  past_degrees m =
      let e : waves_at n + m ≡ degrees_at n + (n + m) = omega arith in
      rw e (past_rows (n + m)) ∙ skip (cells.degrees s t l) (cells.from_waves s t l) (n + m) m (omega (arith, cells.length_degrees s t l))

  past_waves : (m : ℕ) → drop (counts_at n + m) (place_cells s t) ≡ drop m (cells.from_counts s t l)
  past_waves m =
      let e : counts_at n + m ≡ waves_at n + (n + m) = omega arith in
      rw e (past_degrees (n + m)) ∙ skip (cells.waves s t l) (cells.from_counts s t l) (n + m) m (omega (arith, cells.length_waves s t l))

  past_counts : (m : ℕ) → drop (tally_at n + m) (place_cells s t) ≡ drop m (cells.from_tally s t l)
  past_counts m =
      let e : tally_at n + m ≡ counts_at n + (24 * n + m) = omega arith in
      rw e (past_waves (24 * n + m)) ∙ skip (cells.counts s t l) (cells.from_tally s t l) (24 * n + m) m (omega (arith, cells.length_counts s t l))

  past_tally : (m : ℕ) → drop (ranks_at n + m) (place_cells s t) ≡ drop m (cells.from_ranks s t l)
  past_tally m =
      let e : ranks_at n + m ≡ tally_at n + (3 + m) = omega arith in
      rw e (past_counts (3 + m)) ∙ skip (cells.tally s t l) (cells.from_ranks s t l) (3 + m) m (omega arith)

  past_ranks : drop (cap_at n) (place_cells s t) ≡ cells.cap s t l
  past_ranks =
      let e : cap_at n ≡ ranks_at n + n = omega arith in
      rw e (past_tally n) ∙ skip (cells.ranks s t l) (cells.cap s t l) n 0 (omega (arith, cells.length_ranks s t l))

  part_rows : part 1 (23 * n) (place_cells s t) ≡ cells.rows s t l
  unfolding place_cells
  part_rows = first (cells.rows s t l) (cells.from_degrees s t l) (23 * n) (cells.length_rows s t l)

  part_degrees : part (degrees_at n) n (place_cells s t) ≡ cells.degrees s t l
  part_degrees = ap (take n) (rw (add-zero (degrees_at n)) at (past_rows 0)) ∙ first (cells.degrees s t l) (cells.from_waves s t l) n (cells.length_degrees s t l)

  part_waves : part (waves_at n) n (place_cells s t) ≡ cells.waves s t l
  part_waves = ap (take n) (rw (add-zero (waves_at n)) at (past_degrees 0)) ∙ first (cells.waves s t l) (cells.from_counts s t l) n (cells.length_waves s t l)

  part_counts : part (counts_at n) (24 * n) (place_cells s t) ≡ cells.counts s t l
  part_counts =
      ap (take (24 * n)) (rw (add-zero (counts_at n)) at (past_waves 0))
      ∙ first (cells.counts s t l) (cells.from_tally s t l) (24 * n) (cells.length_counts s t l)

  part_ranks : part (ranks_at n) n (place_cells s t) ≡ cells.ranks s t l
  part_ranks = ap (take n) (rw (add-zero (ranks_at n)) at (past_tally 0)) ∙ first (cells.ranks s t l) (cells.cap s t l) n (cells.length_ranks s t l)

  pub kept_slices : slices_in n (place_cells s t) ≡ fronts n s
  unfolding slices_in
  kept_slices = rw (part_rows, part_degrees, part_waves, part_counts, part_ranks) refl

  -- a cell of the tally
  tally_cell : (j : ℕ) → get_or (place_cells s t) (tally_at n + j) 0 ≡ get_or (cells.from_tally s t l) j 0
  tally_cell j =
      rw (add-zero (tally_at n + j)) at (sym (get_or-drop (tally_at n + j) (place_cells s t) 0 0))
      ∙ ap (λ (x : List ℕ). get_or x 0 0) (past_counts j)
      ∙ rw (add-zero j) at (get_or-drop j (cells.from_tally s t l) 0 0)

  -- and of its cap
  cap_cell : get_or (place_cells s t) (cap_at n) 0 ≡ t.cap
  cap_cell = rw (add-zero (cap_at n)) at (sym (get_or-drop (cap_at n) (place_cells s t) 0 0)) ∙ ap (λ (x : List ℕ). get_or x 0 0) past_ranks

  pub kept_tally : tally_in n (place_cells s t) ≡ t
  unfolding tally_in
  kept_tally = rw (rw (add-zero (tally_at n)) at (tally_cell 0), tally_cell 1, tally_cell 2, cap_cell) refl

-- a slice that starts with these cells
front_is : (front xs : List ℕ) (k : ℕ) → length front ≡ k → over front xs ≡ xs → take k xs ≡ front
unfolding over
front_is front xs k e h = ap (take k) (sym h) ∙ first front (drop (length front) xs) k e

over_itself : (front : List ℕ) → over front front ≡ front
unfolding over
over_itself front = rw (drop-length front) (append-nil front)

-- the plan of G, and nothing beyond
abbrev pub exactly : Graph → Slices
exactly G = slices_of (neighbour_cells G) (degree_cells G) (waves G) (count_cells G) (rank_cells G)

module _ (G : Graph) (s : Slices) (t : Tally) (p : PlanOf G s t) where
  banks_are : G.banks ≡ t.banks
  banks_are = sym (tally_banks t G p.tally)

  pub fronts_exactly : fronts t.banks s ≡ exactly G
  unfolding plan_in
  fronts_exactly =
      let e = banks_are in
      rw (
        front_is (neighbour_cells G) s.neighbours (23 * t.banks) (omega (arith, length_neighbour_cells G)) (ap (λ (x : Slices). x.neighbours) p.cells),
        front_is (degree_cells G) s.degrees t.banks (omega (arith, length_degree_cells G)) (ap (λ (x : Slices). x.degrees) p.cells),
        front_is (waves G) s.waves t.banks (omega (arith, length_waves G)) (ap (λ (x : Slices). x.waves) p.cells),
        front_is (count_cells G) s.counts (24 * t.banks) (omega (arith, length_count_cells G)) (ap (λ (x : Slices). x.counts) p.cells),
        front_is (rank_cells G) s.ranks t.banks (omega (arith, length_rank_cells G)) (ap (λ (x : Slices). x.ranks) p.cells),
      ) refl

  -- the plan without what lies beyond it is a plan
  pub exactly_plan : PlanOf G (exactly G) t
  unfolding plan_in
  exactly_plan = record {
    clashes = p.clashes;
    long =
        long_enough-law G.banks (exactly G) (record {
          neighbours = omega (arith, length_neighbour_cells G);
          degrees = omega (arith, length_degree_cells G);
          waves = omega (arith, length_waves G);
          counts = omega (arith, length_count_cells G);
          ranks = omega (arith, length_rank_cells G);
        });
    cells = rw (over_itself (neighbour_cells G), over_itself (degree_cells G), over_itself (waves G), over_itself (count_cells G), over_itself (rank_cells G)) refl;
    tally = p.tally;
  }

  -- put over other slices it is the plan in them
  pub over_exactly : (s' : Slices) → over_all (exactly G) s' ≡ plan_in G s'
  unfolding over_all plan_in
  over_exactly s' = refl
