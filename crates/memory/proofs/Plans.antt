-- The plan of G put into slices: how many cells it has, whether they have room, and the plan put over a plan.
use mathlib.Core.Bool.{Bool, true, false, ◌&&◌}
use mathlib.Core.Path.{◌≡◌, refl, sym, ap, ◌∙◌}
use Prim.Native.Nat.{ℕ, ◌*◌, ◌≤◌}
use native.Mathlib.Omega.{arith}
use borrow.Author.Tests.{le-leb, leb-true}
use lib.Dec.{leb}
use lib.ListN.{length, length-map}
use Rattle.rule.specs.Lists.{upto}
use Rattle.rule.specs.Graph.{Graph, neighbours, degree, empty}
use Rattle.rule.specs.Wave.{wave, waves}
use Rattle.rule.proofs.Booleans.{is_true, is_false, both_true}
use Rattle.rule.proofs.Lists.{length_upto, filter_none}
use Rattle.memory.specs.Cells.{over}
use Rattle.memory.specs.Plan.{Slices, long_enough, neighbour_cells, degree_cells, count_cells, rank_cells, tally_of, plan_in, PlanOf}
use Rattle.memory.specs.inner.View.{Long}
use Rattle.memory.proofs.Fronts.{over_long}
use Rattle.memory.proofs.Cells.{length_cells, over_over}

-- how many cells there are
module _ (G : Graph) where
  pub length_neighbour_cells : length (neighbour_cells G) ≡ 23 * G.banks
  unfolding neighbour_cells
  length_neighbour_cells = length_cells _ _

  pub length_degree_cells : length (degree_cells G) ≡ G.banks
  unfolding degree_cells
  length_degree_cells = length_cells _ _

  pub length_waves : length (waves G) ≡ G.banks
  unfolding waves
  length_waves = length-map (upto G.banks) (wave G) ∙ length_upto G.banks

  pub length_count_cells : length (count_cells G) ≡ 24 * G.banks
  unfolding count_cells
  length_count_cells = length_cells _ _

  pub length_rank_cells : length (rank_cells G) ≡ G.banks
  unfolding rank_cells
  length_rank_cells = length_cells _ _

-- `long_enough`, slice by slice
module _ (n : ℕ) (s : Slices) where
  pub long : long_enough n s ≡ true → Long n s
  unfolding long_enough
  long e =
      let a : Bool = leb (23 * n) (length s.neighbours) in
      let b : Bool = leb n (length s.degrees) in
      let w : Bool = leb n (length s.waves) in
      let d : Bool = leb (24 * n) (length s.counts) in
      let k : Bool = leb n (length s.ranks) in
      let p = both_true a (b && (w && (d && k))) e in
      let q = both_true b (w && (d && k)) p.1 in
      let r = both_true w (d && k) q.1 in
      let u = both_true d k r.1 in
      record {
        neighbours = leb-true (23 * n) (length s.neighbours) p.0;
        degrees = leb-true n (length s.degrees) q.0;
        waves = leb-true n (length s.waves) r.0;
        counts = leb-true (24 * n) (length s.counts) u.0;
        ranks = leb-true n (length s.ranks) u.1;
      }

  pub long_enough-law : Long n s → long_enough n s ≡ true
  unfolding long_enough
  long_enough-law l =
      rw (
        le-leb (23 * n) (length s.neighbours) l.neighbours,
        le-leb n (length s.degrees) l.degrees,
        le-leb n (length s.waves) l.waves,
        le-leb (24 * n) (length s.counts) l.counts,
        le-leb n (length s.ranks) l.ranks,
      )

  pub too_short : (Long n s → ⊥) → false ≡ long_enough n s
  too_short h = sym (is_false (long_enough n s) (λ t. h (long (is_true (long_enough n s) t))))

-- a plan put over a plan of as many banks
pub plan_over : (G H : Graph) (s : Slices) → H.banks ≡ G.banks → plan_in H (plan_in G s) ≡ plan_in H s
unfolding plan_in
plan_over G H s e =
    rw (
      over_over (neighbour_cells H) (neighbour_cells G) s.neighbours (omega (arith, length_neighbour_cells G, length_neighbour_cells H)),
      over_over (degree_cells H) (degree_cells G) s.degrees (omega (arith, length_degree_cells G, length_degree_cells H)),
      over_over (waves H) (waves G) s.waves (omega (arith, length_waves G, length_waves H)),
      over_over (count_cells H) (count_cells G) s.counts (omega (arith, length_count_cells G, length_count_cells H)),
      over_over (rank_cells H) (rank_cells G) s.ranks (omega (arith, length_rank_cells G, length_rank_cells H)),
    )

pub long_again : (G : Graph) (s : Slices) → long_enough G.banks s ≡ true → long_enough G.banks (plan_in G s) ≡ true
unfolding plan_in
long_again G s e =
    let l = long G.banks s e in
    let r : length (over (neighbour_cells G) s.neighbours) ≡ length s.neighbours = over_long _ _ s.neighbours (omega (arith, length_neighbour_cells G)) refl in
    let d : length (over (degree_cells G) s.degrees) ≡ length s.degrees = over_long _ _ s.degrees (omega (arith, length_degree_cells G)) refl in
    let w : length (over (waves G) s.waves) ≡ length s.waves = over_long _ _ s.waves (omega (arith, length_waves G)) refl in
    let k : length (over (count_cells G) s.counts) ≡ length s.counts = over_long _ _ s.counts (omega (arith, length_count_cells G)) refl in
    let u : length (over (rank_cells G) s.ranks) ≡ length s.ranks = over_long _ _ s.ranks (omega (arith, length_rank_cells G)) refl in
    long_enough-law G.banks (plan_in G s) (record { neighbours = omega arith; degrees = omega arith; waves = omega arith; counts = omega arith; ranks = omega arith })

-- n banks and no clash: what opening leaves
no_degree : (n x : ℕ) → degree (empty n) x ≡ 0
unfolding degree neighbours
no_degree n x = ap length (filter_none (upto n))

pub open_plan : (cap n : ℕ) (s : Slices) → n ≤ 1024 → long_enough n s ≡ true → PlanOf (empty n) (plan_in (empty n) s) (tally_of cap (empty n))
unfolding tally_of
open_plan cap n s h e = record {
  clashes = record { most = h; symmetric = λ x y l k. refl; apart = λ x l c. c; few = λ x l. omega (arith, no_degree n x); ranks = λ x l. omega arith };
  long = long_again (empty n) s e;
  cells = plan_over (empty n) (empty n) s refl;
  tally = refl;
}
