-- Memory that holds a plan, and the plan's cells as facts: the one gives the other.
use mathlib.Core.Path.{◌≡◌, ap}
use Prim.Native.Nat.{ℕ, ◌*◌, ◌<◌}
use native.Mathlib.Omega.{arith}
use lib.ListN.{get_or}
use Rattle.rule.specs.Graph.{Graph, neighbours, degree, earlier_neighbours}
use Rattle.rule.specs.Wave.{wave, waves}
use Rattle.rule.proofs.Neighbours.{fewer_earlier}
use Rattle.rule.proofs.Waves.{wave_le}
use Rattle.memory.specs.declared.Tally.{Tally}
use Rattle.memory.specs.Cells.{cells, over}
use Rattle.memory.specs.inner.Counts.{standing}
use Rattle.memory.specs.Plan.{Slices, neighbour_cells, degree_cells, count_cells, rank_cells, tally_of, plan_in, PlanOf}
use Rattle.memory.specs.inner.View.{Long, Held}
use Rattle.memory.proofs.Cells.{cells_long, cells_at, cells_by, table_at, table_by}
use Rattle.memory.proofs.Plans.{long, long_enough-law}

pub tally_banks : (t : Tally) (G : Graph) → t ≡ tally_of t.cap G → t.banks ≡ G.banks
unfolding tally_of
tally_banks t G e = ap (λ (u : Tally). u.banks) e

-- the five slices, each with the cells of G at its front
pub record AtFronts (G : Graph) (s : Slices) : Type 0 where
  pub rows : over (neighbour_cells G) s.neighbours ≡ s.neighbours
  pub degrees : over (degree_cells G) s.degrees ≡ s.degrees
  pub waves_are : over (waves G) s.waves ≡ s.waves
  pub counts : over (count_cells G) s.counts ≡ s.counts
  pub ranks : over (rank_cells G) s.ranks ≡ s.ranks

module _ {G : Graph} {s : Slices} where
  pub fronts_of : plan_in G s ≡ s → AtFronts G s
  unfolding plan_in
  fronts_of e = record {
    rows = ap (λ (z : Slices). z.neighbours) e;
    degrees = ap (λ (z : Slices). z.degrees) e;
    waves_are = ap (λ (z : Slices). z.waves) e;
    counts = ap (λ (z : Slices). z.counts) e;
    ranks = ap (λ (z : Slices). z.ranks) e;
  }

  pub of_fronts : AtFronts G s → plan_in G s ≡ s
  unfolding plan_in
  of_fronts f = λ i. record { neighbours = f.rows i; degrees = f.degrees i; waves = f.waves_are i; counts = f.counts i; ranks = f.ranks i }

  pub fronts_long : AtFronts G s → Long G.banks s
  unfolding neighbour_cells degree_cells waves cells count_cells rank_cells
  fronts_long f = record {
    neighbours = cells_long (23 * G.banks) _ s.neighbours f.rows;
    degrees = cells_long G.banks (degree G) s.degrees f.degrees;
    waves = cells_long G.banks (wave G) s.waves f.waves_are;
    counts = cells_long (24 * G.banks) _ s.counts f.counts;
    ranks = cells_long G.banks G.rank s.ranks f.ranks;
  }

module _ (G : Graph) (s : Slices) (t : Tally) where
  pub held_of : PlanOf G s t → Held G s t.banks
  unfolding neighbour_cells degree_cells waves cells count_cells rank_cells standing
  held_of p =
      let l = long G.banks s p.long in
      let f = fronts_of p.cells in
      let e = tally_banks t G p.tally in
      record {
        banks = e;
        rowed = record {
          few = p.clashes.most;
          wide_rows = omega (arith, l.neighbours);
          wide_degrees = l.degrees;
          degrees = cells_at G.banks (degree G) s.degrees f.degrees;
          small = p.clashes.few;
          rows = table_at 23 G.banks (λ b i. get_or (neighbours G b) i 65535) s.neighbours (omega arith) f.rows;
          symmetric = p.clashes.symmetric;
          apart = p.clashes.apart;
        };
        wide_waves = omega (arith, l.waves);
        waves = cells_at G.banks (wave G) s.waves f.waves_are;
        counted = record {
          wide_counts = omega (arith, l.counts);
          cell = table_at 24 G.banks (λ b c. standing (wave G) c (earlier_neighbours G b)) s.counts (omega arith) f.counts;
        };
        ranked = record { wide = l.ranks; cells = cells_at G.banks G.rank s.ranks f.ranks };
        low = p.clashes.ranks;
      }

  pub plan_of : (n : ℕ) → Held G s n → t ≡ tally_of t.cap G → PlanOf G s t
  unfolding neighbour_cells degree_cells waves cells count_cells rank_cells standing
  plan_of n h e = record {
    clashes = record { most = h.rowed.few; symmetric = h.rowed.symmetric; apart = h.rowed.apart; few = h.rowed.small; ranks = h.low };
    long = long_enough-law G.banks s (record {
      neighbours = omega (arith, h.rowed.wide_rows);
      degrees = h.rowed.wide_degrees;
      waves = omega (arith, h.banks, h.wide_waves);
      counts = omega (arith, h.counted.wide_counts);
      ranks = h.ranked.wide;
    });
    cells = of_fronts (record {
      rows = table_by 23 G.banks (λ b i. get_or (neighbours G b) i 65535) s.neighbours (omega arith) (omega (arith, h.rowed.wide_rows)) h.rowed.rows;
      degrees = cells_by G.banks (degree G) s.degrees h.rowed.wide_degrees h.rowed.degrees;
      waves_are = cells_by G.banks (wave G) s.waves (omega (arith, h.banks, h.wide_waves)) h.waves;
      counts = table_by 24 G.banks (λ b c. standing (wave G) c (earlier_neighbours G b)) s.counts (omega arith) (omega (arith, h.counted.wide_counts)) h.counted.cell;
      ranks = cells_by G.banks G.rank s.ranks h.ranked.wide h.ranked.cells;
    });
    tally = e;
  }

-- the waves of memory that holds a plan
pub held_small : {G : Graph} {s : Slices} {n : ℕ} → Held G s n → (x : ℕ) → x < n → get_or s.waves x 0 < 24
held_small {G} h x l =
    let k : x < G.banks = omega (arith, h.banks) in
    omega (arith, h.waves x k, wave_le G x k, fewer_earlier G x, h.rowed.small x k)
