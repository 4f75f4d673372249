-- Seven slices that keep their lengths: what a loop's invariant says of them.
use mathlib.Core.Path.{◌≡◌, refl, ◌∙◌}
use lib.ListN.{length}
use Rattle.memory.specs.Memory.{Memory}

pub record SameLengths (m m' : Memory) : Type 0 where
  pub neighbours : length m'.slices.neighbours ≡ length m.slices.neighbours
  pub degrees : length m'.slices.degrees ≡ length m.slices.degrees
  pub waves : length m'.slices.waves ≡ length m.slices.waves
  pub counts : length m'.slices.counts ≡ length m.slices.counts
  pub ranks : length m'.slices.ranks ≡ length m.slices.ranks
  pub trail : length m'.trail ≡ length m.trail
  pub moved : length m'.moved ≡ length m.moved

pub same : (m : Memory) → SameLengths m m
same m = record { neighbours = refl; degrees = refl; waves = refl; counts = refl; ranks = refl; trail = refl; moved = refl }

pub then : (m m' m'' : Memory) → SameLengths m m' → SameLengths m' m'' → SameLengths m m''
then m m' m'' a b = record {
  neighbours = b.neighbours ∙ a.neighbours;
  degrees = b.degrees ∙ a.degrees;
  waves = b.waves ∙ a.waves;
  counts = b.counts ∙ a.counts;
  ranks = b.ranks ∙ a.ranks;
  trail = b.trail ∙ a.trail;
  moved = b.moved ∙ a.moved;
}
