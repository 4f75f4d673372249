-- What the program crew prints (02, N13): a line for each step of a day.
use Rattle.std.specs.Prelude.{List, [], ◌∷◌, ◌++◌, map, ℕ, suc, get_or}
use Rattle.rule.specs.Graph.{Graph}
use Rattle.rule.specs.Wave.{wave}
use Rattle.text.specs.Numbers.{decimal}
use Rattle.text.specs.Text.{joined}
use Rattle.wave_lines.specs.Lines.{letters}
use Rattle.sheet_writer.specs.Sheet.{bank_text}
use Rattle.crews.specs.Day.{day}

-- `k X`: the number of a step, and the letter of wave w
unfoldable pub head_text : ℕ → ℕ → List ℕ
head_text k w = decimal k ++ (32 ∷ get_or letters w 0 ∷ [])

-- the line of step k, which serves these banks: its number, the letter of the wave of the lowest, and the banks
unfoldable pub step_text : Graph → ℕ → List ℕ → List ℕ
step_text G k banks = head_text k (wave G (get_or banks 0 0)) ++ (joined (map bank_text banks) ++ (10 ∷ []))

-- a line for each of these steps, which are counted from k
unfoldable pub lines_from : Graph → ℕ → List (List ℕ) → List ℕ
lines_from G k [] = []
lines_from G k (banks ∷ steps) = step_text G k banks ++ lines_from G (suc k) steps

-- the lines of the day of q couriers
unfoldable pub day_text : ℕ → Graph → List ℕ
day_text q G = lines_from G 1 (day q G)
