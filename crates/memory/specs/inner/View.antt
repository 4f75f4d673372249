-- The plan of G, cell by cell, as facts: what the proofs read off memory that holds a plan.
use Rattle.std.specs.Prelude.{List, ◌≡◌, ℕ, ◌+◌, ◌*◌, ◌<◌, ◌≤◌, T, length, get_or}
use Rattle.rule.specs.Graph.{Graph, neighbours, degree, earlier_neighbours}
use Rattle.rule.specs.Wave.{wave}
use Rattle.memory.specs.inner.Counts.{standing}
use Rattle.memory.specs.Plan.{Slices}

-- `long_enough`, slice by slice
pub record Long (n : ℕ) (s : Slices) : Type 0 where
  pub neighbours : 23 * n ≤ length s.neighbours
  pub degrees : n ≤ length s.degrees
  pub waves : n ≤ length s.waves
  pub counts : 24 * n ≤ length s.counts
  pub ranks : n ≤ length s.ranks

-- the ranks of G
pub record Ranked (G : Graph) (rs : List ℕ) : Type 0 where
  pub wide : G.banks ≤ length rs
  pub cells : (b : ℕ) → b < G.banks → get_or rs b 0 ≡ G.rank b

-- the rows and degrees of G, as far as its neighbours go, and its ranks
pub record Shown (G : Graph) (ns ds rs : List ℕ) : Type 0 where
  pub ranked : Ranked G rs
  pub few : G.banks ≤ 1024
  pub wide_rows : G.banks * 23 ≤ length ns
  pub wide_degrees : G.banks ≤ length ds
  pub degrees : (b : ℕ) → b < G.banks → get_or ds b 0 ≡ degree G b
  pub small : (b : ℕ) → b < G.banks → degree G b ≤ 23
  pub rows : (b i : ℕ) → b < G.banks → i < degree G b → get_or ns (b * 23 + i) 0 ≡ get_or (neighbours G b) i 0
  pub symmetric : (x y : ℕ) → x < G.banks → y < G.banks → G.clash x y ≡ G.clash y x

-- the whole rows and degrees of G, whose clashes go both ways and join different banks
pub record Rowed (G : Graph) (ns ds : List ℕ) : Type 0 where
  pub few : G.banks ≤ 1024
  pub wide_rows : G.banks * 23 ≤ length ns
  pub wide_degrees : G.banks ≤ length ds
  pub degrees : (b : ℕ) → b < G.banks → get_or ds b 0 ≡ degree G b
  pub small : (b : ℕ) → b < G.banks → degree G b ≤ 23
  pub rows : (b i : ℕ) → b < G.banks → i < 23 → get_or ns (b * 23 + i) 0 ≡ get_or (neighbours G b) i 65535
  pub symmetric : (x y : ℕ) → x < G.banks → y < G.banks → G.clash x y ≡ G.clash y x
  pub apart : (x : ℕ) → x < G.banks → T (G.clash x x) → ⊥

-- Counts of G, where bank b sees the wave `view b v` of bank v
pub record Counted (G : Graph) (cs : List ℕ) (view : ℕ → ℕ → ℕ) : Type 0 where
  pub wide_counts : G.banks * 24 ≤ length cs
  pub cell : (b c : ℕ) → b < G.banks → c < 24 → get_or cs (b * 24 + c) 0 ≡ standing (view b) c (earlier_neighbours G b)

-- the slices of n banks hold the plan of G
pub record Held (G : Graph) (s : Slices) (n : ℕ) : Type 0 where
  pub banks : n ≡ G.banks
  pub rowed : Rowed G s.neighbours s.degrees
  pub wide_waves : n ≤ length s.waves
  pub waves : (x : ℕ) → x < G.banks → get_or s.waves x 0 ≡ wave G x
  pub counted : Counted G s.counts (λ b v. wave G v)
  pub ranked : Ranked G s.ranks
  pub low : (x : ℕ) → x < G.banks → G.rank x ≤ 9999
