-- What the call wave_by_rule answers of what it is lent (02, N11).
use Rattle.std.specs.Prelude.{[], ◌∷◌, ℕ, ltb, leb}
use Rattle.memory.specs.declared.Tally.{Tally}
use Rattle.memory.specs.Plan.{Slices, long_enough, graph_in, holds}
use Rattle.planner.specs.Questions.{◌else◌, first_no}
use Rattle.planner.specs.Calls.{wave_by}

-- questions 3 to 5, then whether the plan has at most 16 banks, then question 7
unfoldable pub direct_number : ℕ → Slices → Tally → ℕ
direct_number b s t =
    first_no
    ((leb t.banks 1024 else 1)
    ∷ (long_enough t.banks s else 2)
    ∷ (holds s t else 3)
    ∷ (leb t.banks 16 else 22)
    ∷ (ltb b t.banks else 4)
    ∷ [])

-- the rule wave of b, of the clashes that the rows name and of the ranks; or 0 with the number
unfoldable pub rule_wave_of : ℕ → Slices → Tally → ℕ
rule_wave_of b s t = wave_by (direct_number b s t) b (graph_in t.banks s)
