-- Lent memory as the contracts name it: all that a call is lent, by what its slices hold.
use Rattle.std.specs.Prelude.{List, ℕ}
use Rattle.memory.specs.declared.Tally.{Tally}
use Rattle.memory.specs.declared.PlanMemory.{PlanMemory}
use Rattle.memory.specs.Plan.{Slices, slices_of}
use Rattle.memory.specs.Memory.{Memory, memory_of}

-- plan slices, trail, moved, and the tally, which goes by value
abbrev pub given : List ℕ → List ℕ → List ℕ → List ℕ → List ℕ → List ℕ → List ℕ → Tally → Memory
given n d w c k r m t = memory_of (slices_of n d w c k) r m t

-- what the slices hold that are lent for reading
abbrev pub slices_in : PlanMemory → Slices
slices_in p = slices_of p.neighbours.now p.degrees.now p.waves.now p.counts.now p.ranks.now
