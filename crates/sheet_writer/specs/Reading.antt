-- Reading a sheet: its lines, on each a letter and the banks after its spaces, and its foot.
use Rattle.std.specs.Prelude.{List, [], ◌∷◌, map, ℕ, ◌-◌, length, get_or, take, drop}
use Rattle.text.specs.Numbers.{value_from}
use Rattle.text.specs.Text.{rows, parts, joined}
use Rattle.wave_lines.specs.Lines.{Line}
use Rattle.wave_lines.specs.Foot.{Totals, totals_on}

-- a wave by the parts of its line: the letter, and the numbers after it
unfoldable pub wave_of_parts : List (List ℕ) → Line
wave_of_parts [] = record { letter = 0; banks = [] }
wave_of_parts (p ∷ ps) = record { letter = get_or p 0 0; banks = map (value_from 0) ps }

-- the wave on a line
unfoldable pub wave_on : List ℕ → Line
wave_on line = wave_of_parts (parts line)

-- all lines but the first and the last
unfoldable pub between : List (List ℕ) → List (List ℕ)
between lines = take (length lines - 2) (drop 1 lines)

-- the waves on the sheet
unfoldable pub waves_read : List ℕ → List Line
waves_read sheet = map wave_on (between (rows sheet))

-- the banks on the sheet, line by line
unfoldable pub banks_read : List ℕ → List ℕ
banks_read sheet = joined (map (λ (l : Line). l.banks) (waves_read sheet))

-- the number of waves that the first line says, after its space
unfoldable pub count_read : List ℕ → ℕ
count_read sheet = value_from 0 (get_or (parts (get_or (rows sheet) 0 [])) 1 [])

-- the numbers of its foot, which is the last line
unfoldable pub totals_read : List ℕ → Totals
totals_read sheet = totals_on (get_or (rows sheet) (length (rows sheet) - 1) [])
