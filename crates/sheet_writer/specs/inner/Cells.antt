-- The sheet's text by the wave cells: what the functions under `write_sheet` leave.
use Rattle.std.specs.Prelude.{cond, List, [], map, ℕ, eqb}
use Rattle.rule.specs.Lists.{upto}
use Rattle.text.specs.Text.{joined}
use Rattle.wave_lines.specs.inner.Cells.{members_of, line_in}
use Rattle.sheet_writer.specs.Sheet.{bank_text, line_text}

-- bank b, whose wave is w, on the line of wave c
unfoldable pub member_text : ℕ → ℕ → ℕ → List ℕ
member_text w c b = cond (eqb w c) (bank_text b) []

-- the first n banks on the line of wave c; ws are the wave cells
unfoldable pub members_text : List ℕ → ℕ → ℕ → List ℕ
members_text ws c n = joined (map bank_text (members_of ws c n))

-- the line of wave c of n banks
unfoldable pub sheet_wave : List ℕ → ℕ → ℕ → List ℕ
sheet_wave ws n c = line_text (line_in ws n c)

-- the lines of the first k waves
unfoldable pub sheet_waves : List ℕ → ℕ → ℕ → List ℕ
sheet_waves ws n k = joined (map (sheet_wave ws n) (upto k))
