-- `most` is the most of the waves so far.
use Rattle.memory.specs.inner.Counts.{most_of}
use mathlib.Core.Path.{◌≡◌}
use Rattle.memory.proofs.count.wave_count.Given as goal

abbrev pub invariant-loop-wave : goal.invariant-loop-wave
invariant-loop-wave l = l.most ≡ most_of l.waves l.wave-index
