-- The line that the program doubt prints for a bank (02, N11).
use Rattle.std.specs.Prelude.{cond, List, [], ◌∷◌, ◌++◌, map, ℕ, zero, suc, get_or}
use Rattle.rule.specs.Graph.{earlier}
use Rattle.memory.specs.declared.Tally.{Tally}
use Rattle.memory.specs.Plan.{Slices, graph_in}
use Rattle.planner.specs.Calls.{wave_of, clashes_of}
use Rattle.direct_rule.specs.Calls.{direct_number, rule_wave_of}
use Rattle.text.specs.Text.{joined}
use Rattle.wave_lines.specs.Lines.{letters}
use Rattle.list_program.specs.Answers.{named, refused_text}

-- a text and the letter of wave w
unfoldable pub lettered : List ℕ → ℕ → List ℕ
lettered text w = text ++ (get_or letters w 0 ∷ [])

-- `BANK b KEPT x READ y`
unfoldable pub head_text : ℕ → ℕ → ℕ → List ℕ
head_text b kept read =
    named (66 ∷ 65 ∷ 78 ∷ 75 ∷ 32 ∷ []) b
    ++ (lettered (32 ∷ 75 ∷ 69 ∷ 80 ∷ 84 ∷ 32 ∷ []) kept ++ lettered (32 ∷ 82 ∷ 69 ∷ 65 ∷ 68 ∷ 32 ∷ []) read)

-- ` FROM v z`: a bank and its letter
unfoldable pub from_text : ℕ → ℕ → List ℕ
from_text v w = named (32 ∷ 70 ∷ 82 ∷ 79 ∷ 77 ∷ 32 ∷ []) v ++ lettered (32 ∷ []) w

-- neighbour v with its letter, read straight off, if it is earlier than b
unfoldable pub link_text : ℕ → Slices → Tally → ℕ → List ℕ
link_text b s t v = cond (earlier (graph_in t.banks s) v b) (from_text v (rule_wave_of v s t)) []

-- of these banks, the earlier ones with their letters
unfoldable pub links_text : ℕ → Slices → Tally → List ℕ → List ℕ
links_text b s t vs = joined (map (link_text b s t) vs)

-- by the number of the first no: both letters and the earlier neighbours, or `BANK b REFUSED c`
unfoldable pub line_by : ℕ → ℕ → Slices → Tally → List ℕ
line_by zero b s t = head_text b (wave_of b s t) (rule_wave_of b s t) ++ (links_text b s t (clashes_of b s t) ++ (10 ∷ []))
line_by (suc c) b s t = refused_text (66 ∷ 65 ∷ 78 ∷ 75 ∷ 32 ∷ []) b (suc c)

-- the line of bank b
unfoldable pub line_of : ℕ → Slices → Tally → List ℕ
line_of b s t = line_by (direct_number b s t) b s t
