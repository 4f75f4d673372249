-- The lines of the waves by the wave cells.
use Rattle.std.specs.Prelude.{List, ℕ, eqb, get_or}
use Rattle.rule.specs.Lists.{upto, filter}
use Rattle.wave_lines.specs.Lines.{letters, Line}

-- those of the first n banks that are of wave c; ws are the wave cells
unfoldable pub members_of : List ℕ → ℕ → ℕ → List ℕ
members_of ws c n = filter (λ b. eqb (get_or ws b 0) c) (upto n)

-- the line of wave c of n banks
abbrev pub line_in : List ℕ → ℕ → ℕ → Line
line_in ws n c = record { letter = get_or letters c 0; banks = members_of ws c n }
