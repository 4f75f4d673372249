-- What the calls add, strike and set_cap answer and leave, of what they are lent (01, "Calls" and "The questions"; 02, N9: the cap).
use Rattle.std.specs.Prelude.{◌&&◌, [], ◌∷◌, ℕ, zero, suc, leb}
use Rattle.rule.specs.declared.Kind.{Kind}
use Rattle.memory.specs.declared.Tally.{Tally}
use Rattle.memory.specs.Plan.{Slices, long_enough, holds, graph_in}
use Rattle.memory.specs.Memory.{Memory}
use Rattle.planner.specs.Questions.{◌else◌, first_no}
use Rattle.planner.specs.Calls.{memory_number, EditResult, refused}
use Rattle.capped_edits.specs.Capped.{capped_of}

-- by the number of the first no
unfoldable pub checked_by : ℕ → Kind → ℕ → ℕ → Memory → EditResult
checked_by zero k a b m = capped_of k (graph_in m.tally.banks m.slices) a b m
checked_by (suc c) k a b m = refused (suc c) m

-- the calls add and strike, of any memory
unfoldable pub edit : Kind → ℕ → ℕ → Memory → EditResult
edit k a b m = checked_by (memory_number m) k a b m

-- questions 3 to 5 of set_cap; then: is the cap from 1 to 24, and is it not below the waves in use?
unfoldable pub set_cap_number : ℕ → Slices → Tally → ℕ
set_cap_number cap s t =
    first_no
    ((leb t.banks 1024 else 1)
    ∷ (long_enough t.banks s else 2)
    ∷ (holds s t else 3)
    ∷ (leb 1 cap && leb cap 24 else 19)
    ∷ (leb t.waves cap else 20)
    ∷ [])

-- what set_cap leaves
pub record CapResult : Type 0 where
  pub number : ℕ
  pub tally : Tally

abbrev pub cap_result : ℕ → Tally → CapResult
cap_result number tally = record { number = number; tally = tally }

-- the tally with another cap
abbrev pub with_cap : ℕ → Tally → Tally
with_cap cap t = record { banks = t.banks; clashes = t.clashes; waves = t.waves; cap = cap }

-- by the number of the first no
unfoldable pub set_cap_by : ℕ → ℕ → Tally → CapResult
set_cap_by zero cap t = cap_result 0 (with_cap cap t)
set_cap_by (suc c) cap t = cap_result (suc c) t

-- the call set_cap: the tally with that cap, or the number, and the tally as it was
unfoldable pub set_cap : ℕ → Slices → Tally → CapResult
set_cap cap s t = set_cap_by (set_cap_number cap s t) cap t
