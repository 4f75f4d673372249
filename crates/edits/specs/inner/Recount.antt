-- Counts of the seeds, counted anew.
use Rattle.std.specs.Prelude.{true, List, ◌≡◌, ℕ, ◌+◌, ◌*◌, ◌<◌, ◌≤◌, T, length, get_or}
use Rattle.rule.specs.Graph.{Graph, earlier_neighbours}
use Rattle.memory.specs.Cells.{Beyond}
use Rattle.memory.specs.inner.Counts.{standing}
use Rattle.memory.specs.Plan.{Slices, slices_of}
use Rattle.memory.specs.inner.Test.{counts_of}
use Rattle.memory.specs.inner.View.{Shown}
use Rattle.queue.specs.Queue.{waits, Queue, Enqueued}

-- the part of b in Counts is these counts, and no other cell differs
pub record Recounted (cs cs' : List ℕ) (b : ℕ) (counts : ℕ → ℕ) : Type 0 where
  pub cells : (c : ℕ) → c < 24 → get_or cs' (b * 24 + c) 0 ≡ counts c
  pub below : (j : ℕ) → j < b * 24 → get_or cs' j 0 ≡ get_or cs j 0
  pub above : (j : ℕ) → b * 24 + 24 ≤ j → get_or cs' j 0 ≡ get_or cs j 0

-- that is done for b
abbrev pub Recounts : List ℕ → List ℕ → List ℕ → List ℕ → List ℕ → List ℕ → ℕ → Type 0
Recounts ns ds ws cs rs cs' b = Recounted cs cs' b (counts_of ns ds rs ws b)

-- Counts of the banks in the queue are those of G with the stored waves, and every other cell is as in `was`
pub record Recounting (G : Graph) (s : Slices) (was q : List ℕ) (n : ℕ) : Type 0 where
  pub banks : n ≡ G.banks
  pub shown : Shown G s.neighbours s.degrees s.ranks
  pub wide_waves : n ≤ length s.waves
  pub small : (x : ℕ) → x < n → get_or s.waves x 0 < 24
  pub wide_counts : G.banks * 24 ≤ length s.counts
  pub queue : Queue G q
  pub right : (x c : ℕ) → x < G.banks → T (waits G q x) → c < 24
      → get_or s.counts (x * 24 + c) 0 ≡ standing (λ v. get_or s.waves v 0) c (earlier_neighbours G x)
  pub kept : (x c : ℕ) → x < G.banks → (T (waits G q x) → ⊥) → c < 24 → get_or s.counts (x * 24 + c) 0 ≡ get_or was (x * 24 + c) 0
  pub beyond : Beyond (G.banks * 24) s.counts was

-- the slices with these Counts
abbrev pub with_counts : Slices → List ℕ → Slices
with_counts s cs = slices_of s.neighbours s.degrees s.waves cs s.ranks

-- the same with v, which is put into the queue
pub record SeedQueued (G : Graph) (s : Slices) (was q q' : List ℕ) (n v : ℕ) : Type 0 where
  pub counts : Recounting G s was q' n
  pub put : Enqueued G q q' v true
