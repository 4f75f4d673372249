-- An edit of memory that holds a plan, under the cap of its tally (02, N9): the question of the cap beside those of the edit.
use Rattle.std.specs.Prelude.{[], ◌∷◌, ℕ, zero, suc, leb}
use Rattle.rule.specs.Graph.{Graph}
use Rattle.rule.specs.Wave.{wave_count}
use Rattle.rule.specs.Reach.{edited}
use Rattle.rule.specs.declared.Kind.{Kind}
use Rattle.memory.specs.Memory.{Memory}
use Rattle.planner.specs.Questions.{◌else◌, first_no}
use Rattle.planner.specs.Calls.{edit_number, EditResult, edit_by}

-- by the number of the first no; without one, is the plan of so many waves within the cap?
unfoldable pub cap_by : ℕ → ℕ → ℕ → ℕ
cap_by zero waves cap = first_no ((leb waves cap else 20) ∷ [])
cap_by (suc c) waves cap = suc c

-- questions 7 to 11 of an edit of the plan of G, then whether the rule needs no more waves after it than the cap
unfoldable pub capped_number : ℕ → Kind → Graph → ℕ → ℕ → ℕ
capped_number cap k G a b = cap_by (edit_number k G a b) (wave_count (edited k G a b)) cap

-- an edit of memory that holds the plan of G, under the cap of its tally
unfoldable pub capped_of : Kind → Graph → ℕ → ℕ → Memory → EditResult
capped_of k G a b m = edit_by (capped_number m.tally.cap k G a b) k G a b m
