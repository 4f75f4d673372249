-- The waves of a plan as lines (01, "The sheet"): a letter and its banks.
use Rattle.std.specs.Prelude.{◌||◌, not, List, map, ℕ, ◌+◌, eqb, length, get_or}
use Rattle.rule.specs.Lists.{upto, filter}
use Rattle.rule.specs.Graph.{Graph}
use Rattle.rule.specs.Wave.{wave, wave_count, banks_by}
use Rattle.text.specs.Text.{joined}

-- the wave letters: A to Z without I and O
unfoldable pub letters : List ℕ
letters = filter (λ x. not (eqb x 73 || eqb x 79)) (map (λ i. 65 + i) (upto 26))

-- a wave's line: its letter and its banks
pub record Line : Type 0 where
  pub letter : ℕ
  pub banks : List ℕ

-- the line of wave c
abbrev pub line_by : (ℕ → ℕ) → ℕ → ℕ → Line
line_by w n c = record { letter = get_or letters c 0; banks = banks_by w n c }

-- a line for each of k waves from 0
abbrev pub lines_by : (ℕ → ℕ) → ℕ → ℕ → List Line
lines_by w n k = map (line_by w n) (upto k)

-- those of a plan: its waves are the rule's
abbrev pub line_of : Graph → ℕ → Line
line_of G c = line_by (wave G) G.banks c

unfoldable pub lines_of : Graph → List Line
lines_of G = lines_by (wave G) G.banks (wave_count G)

-- the banks on the lines, in the order in which they stand there
unfoldable pub banks_shown : Graph → List ℕ
banks_shown G = joined (map (λ (l : Line). l.banks) (lines_of G))

-- how often x stands in the list
unfoldable pub times : ℕ → List ℕ → ℕ
times x xs = length (filter (eqb x) xs)
