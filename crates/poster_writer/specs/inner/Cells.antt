-- The poster's text by the wave cells: what the functions under `write_poster` leave.
use mathlib.Core.List.{List, map, flat_map}
use Rattle.std.specs.Prelude.{ℕ}
use Rattle.rule.specs.Lists.{upto}
use Rattle.text.specs.Text.{joined}
use Rattle.wave_lines.specs.inner.Cells.{members_of}
use Rattle.poster_lines.specs.inner.Lines.{lines_with}

-- the text of wave c of n banks; ws are the wave cells
unfoldable pub poster_wave : List ℕ → ℕ → ℕ → List ℕ
poster_wave ws n c = joined (lines_with c (members_of ws c n))

-- the text of the first k waves
unfoldable pub poster_waves : List ℕ → ℕ → ℕ → List ℕ
poster_waves ws n k = joined (map (poster_wave ws n) (upto k))

-- the lines of the first k waves
unfoldable pub cell_lines : List ℕ → ℕ → ℕ → List (List ℕ)
cell_lines ws n k = flat_map (λ c. lines_with c (members_of ws c n)) (upto k)
