-- The lines by the cells of the waves and of the steps: what the functions that write them leave.
use Rattle.std.specs.Prelude.{List, [], ◌∷◌, ◌++◌, map, ℕ, ◌+◌, get_or}
use Rattle.rule.specs.Lists.{upto}
use Rattle.text.specs.Text.{joined}
use Rattle.wave_lines.specs.inner.Cells.{members_of}
use Rattle.sheet_writer.specs.inner.Cells.{members_text}
use Rattle.crew_lines.specs.Lines.{head_text}

-- the lowest of n banks that is served in step k, or 0; ss are the step cells
unfoldable pub lowest_in : List ℕ → ℕ → ℕ → ℕ
lowest_in ss k n = get_or (members_of ss k n) 0 0

-- the line of step k of n banks; ws are the wave cells
unfoldable pub step_in : List ℕ → List ℕ → ℕ → ℕ → List ℕ
step_in ws ss n k = head_text k (get_or ws (lowest_in ss k n) 0) ++ (members_text ss k n ++ (10 ∷ []))

-- the lines of so many steps, from 1
unfoldable pub steps_in : List ℕ → List ℕ → ℕ → ℕ → List ℕ
steps_in ws ss n total = joined (map (λ i. step_in ws ss n (i + 1)) (upto total))
