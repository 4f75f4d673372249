-- What each function answers and leaves, by the definition of its call. Where the tally or the result slice is short: 2, and all as it was.
use Rattle.std.specs.Prelude.{List, [], ◌∷◌, ℕ, zero, suc, ◌*◌, length, get_or, take, drop}
use Rattle.memory.specs.declared.Tally.{Tally}
use Rattle.memory.specs.Cells.{over}
use Rattle.memory.specs.Plan.{Slices}
use Rattle.planner.specs.Calls.{plan_number, bank_number, wave_of, clashes_of}
use Rattle.wave_bounds.specs.Calls.{bound_of}
use Rattle.direct_rule.specs.Calls.{direct_number, rule_wave_of}
use Rattle.c_cells.specs.CellMemory.{tally_in, short_number, roomed}

-- what a call that reads one bank or the bound answers and leaves
pub record ReadAnswered : Type 0 where
  pub number : ℕ
  pub result : List ℕ

abbrev pub read_answered : ℕ → List ℕ → ReadAnswered
read_answered number result = record { number = number; result = result }

-- the wave is the result
unfoldable pub wave_done : ℕ → Slices → Tally → List ℕ → ReadAnswered
wave_done b s t result = read_answered (bank_number b s t) (over (wave_of b s t ∷ []) result)

-- wave_plan_wave_of
unfoldable pub wave_call : ℕ → Slices → List ℕ → List ℕ → ReadAnswered
wave_call b s tally result = roomed (short_number 1 (length tally) (length result)) (λ c. read_answered c result) (wave_done b s (tally_in tally) result)

-- where the row of b starts, or 0, by the number of the first no
unfoldable pub row_start : ℕ → ℕ → ℕ
row_start zero b = 23 * b
row_start (suc c) b = 0

-- the filled part of the row, its start and its length, is the result
unfoldable pub clashes_done : ℕ → Slices → Tally → List ℕ → ReadAnswered
clashes_done b s t result =
    read_answered (bank_number b s t) (over (row_start (bank_number b s t) b ∷ length (clashes_of b s t) ∷ []) result)

-- wave_plan_clashes_of
unfoldable pub clashes_call : ℕ → Slices → List ℕ → List ℕ → ReadAnswered
clashes_call b s tally result = roomed (short_number 2 (length tally) (length result)) (λ c. read_answered c result) (clashes_done b s (tally_in tally) result)

-- the bound is the result
unfoldable pub bound_done : Slices → Tally → List ℕ → ReadAnswered
bound_done s t result = read_answered (plan_number s t) (over (bound_of s t ∷ []) result)

-- wave_plan_wave_bound
unfoldable pub bound_call : Slices → List ℕ → List ℕ → ReadAnswered
bound_call s tally result = roomed (short_number 1 (length tally) (length result)) (λ c. read_answered c result) (bound_done s (tally_in tally) result)

-- the wave read straight off is the result
unfoldable pub direct_done : ℕ → Slices → Tally → List ℕ → ReadAnswered
direct_done b s t result = read_answered (direct_number b s t) (over (rule_wave_of b s t ∷ []) result)

-- wave_plan_wave_by_rule
unfoldable pub direct_call : ℕ → Slices → List ℕ → List ℕ → ReadAnswered
direct_call b s tally result = roomed (short_number 1 (length tally) (length result)) (λ c. read_answered c result) (direct_done b s (tally_in tally) result)

-- the part of a slice that two cells name by its start and its length
unfoldable pub part_named : List ℕ → List ℕ → List ℕ
part_named cells slice = take (get_or cells 1 0) (drop (get_or cells 0 0) slice)
