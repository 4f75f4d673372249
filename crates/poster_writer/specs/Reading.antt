-- Reading a poster: what stands on its pages, line by line and column by column.
use Rattle.std.specs.Prelude.{Bool, cond, not, List, [], ◌∷◌, ◌++◌, map, ◌≢◌, ◌≡◌, ℕ, ◌/◌, T, eqb, length, get_or, take, drop}
use Rattle.rule.specs.Lists.{filter, memb}
use Rattle.text.specs.Numbers.{value_from}
use Rattle.text.specs.Text.{joined}
use Rattle.wave_lines.specs.Lines.{Line}
use Rattle.wave_lines.specs.Foot.{Totals, totals_on}
use Rattle.poster_lines.specs.Poster.{pieces}

-- the lines of the pages, 40 characters and a line feed each
unfoldable pub lines_on : List ℕ → List (List ℕ)
lines_on pages = pieces (length pages / 41) 41 pages

-- the number that digits give, if there are any
unfoldable pub number_in : List ℕ → List ℕ
number_in [] = []
number_in (d ∷ ds) = value_from 0 (d ∷ ds) ∷ []

-- the bank in five columns, if they are not all spaces
unfoldable pub bank_in : List ℕ → List ℕ
bank_in columns = number_in (filter (λ x. not (eqb x 32)) columns)

-- the banks on a line: seven times five columns after the first two
unfoldable pub banks_on : List ℕ → List ℕ
banks_on line = joined (map bank_in (pieces 7 5 (drop 2 line)))

-- is it the foot? all other lines have a space as their second character
unfoldable pub is_foot : List ℕ → Bool
is_foot line = not (eqb (get_or line 1 0) 32)

-- the lines above the foot
unfoldable pub above_foot : List (List ℕ) → List (List ℕ)
above_foot [] = []
above_foot (l ∷ ls) = cond (is_foot l) [] (l ∷ above_foot ls)

-- the banks on the pages, line by line
unfoldable pub banks_read : List ℕ → List ℕ
banks_read pages = joined (map banks_on (above_foot (lines_on pages)))

-- the first character of a line
abbrev pub mark : List ℕ → ℕ
mark line = get_or line 0 0

-- the banks on the lines that continue the wave before them: they start with a space
unfoldable pub continued : List (List ℕ) → List ℕ
continued [] = []
continued (l ∷ ls) = cond (eqb (mark l) 32) (banks_on l ++ continued ls) []

-- the waves on the lines: each starts at a letter, and has the banks of its line and of those that continue it
unfoldable pub grouped : List (List ℕ) → List Line
grouped [] = []
grouped (l ∷ ls) = cond (eqb (mark l) 32) (grouped ls) (record { letter = mark l; banks = banks_on l ++ continued ls } ∷ grouped ls)

-- the waves on the pages
unfoldable pub waves_read : List ℕ → List Line
waves_read pages = grouped (above_foot (lines_on pages))

-- the numbers of the foot, which is the line after those above it
unfoldable pub totals_read : List ℕ → Totals
totals_read pages = totals_on (get_or (lines_on pages) (length (above_foot (lines_on pages))) [])

-- a line of the poster with this foot: 40 characters, none a line feed, then a line feed; the second is a space if it is not the foot
pub record Row (foot l : List ℕ) : Type 0 where
  pub long : length l ≡ 41
  pub space : l ≢ foot → get_or l 1 0 ≡ 32
  pub inside : T (memb 10 (take 40 l)) → ⊥
  pub feed : get_or l 40 0 ≡ 10
