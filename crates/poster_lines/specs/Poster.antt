-- The gate poster of a plan (02, N3 and N7): the sheet's waves and its foot in lines of 40 characters and a line feed, 50 lines a page.
use mathlib.Core.List.{List, [], ◌∷◌, ◌++◌, map, flat_map}
use Rattle.std.specs.Prelude.{ℕ, zero, suc, ◌+◌, ◌-◌, ◌/◌, ◌%◌, length, take, drop, replicate}
use Rattle.rule.specs.Graph.{Graph}
use Rattle.memory.specs.Plan.{clash_count}
use Rattle.text.specs.Text.{joined}
use Rattle.text.specs.Numbers.{decimal}
use Rattle.wave_lines.specs.Lines.{Line, lines_of}
use Rattle.wave_lines.specs.Foot.{foot_text}

-- a list cut into `count` pieces of `size`
unfoldable pub pieces : {A : Type 0} → ℕ → ℕ → List A → List (List A)
pieces zero size xs = []
pieces (suc count) size xs = take size xs ∷ pieces count size (drop size xs)

-- the banks of a wave, up to seven for each line
unfoldable pub sevens : List ℕ → List (List ℕ)
sevens bs = pieces ((length bs + 6) / 7) 7 bs

-- a bank, right-aligned in five columns
unfoldable pub right_aligned : ℕ → List ℕ
right_aligned b = replicate (5 - length (decimal b)) 32 ++ decimal b

-- spaces to the end, 40 characters, and a line feed
unfoldable pub padded : List ℕ → List ℕ
padded text = text ++ (replicate (40 - length text) 32 ++ (10 ∷ []))

-- a line: its mark, a space, and its banks
unfoldable pub poster_line : ℕ → List ℕ → List ℕ
poster_line mark bs = padded (mark ∷ 32 ∷ joined (map right_aligned bs))

-- a line for each piece; the first has the mark, and the next ones, where the wave is continued, a space
unfoldable pub marked : ℕ → List (List ℕ) → List (List ℕ)
marked mark [] = []
marked mark (bs ∷ rest) = poster_line mark bs ∷ marked 32 rest

-- the lines of a wave: the first is marked by its letter
unfoldable pub wave_lines : Line → List (List ℕ)
wave_lines l = marked l.letter (sevens l.banks)

-- the sheet's foot, `TOTAL n m`
unfoldable pub foot_line : ℕ → ℕ → List ℕ
foot_line n m = padded (foot_text n m)

-- the lines of all waves, in the sheet's order, then the foot
unfoldable pub poster_lines : Graph → List (List ℕ)
poster_lines G = flat_map wave_lines (lines_of G) ++ (foot_line G.banks (clash_count G) ∷ [])

-- lines of 40 spaces that fill the last page of 50
unfoldable pub filled : List (List ℕ) → List (List ℕ)
filled lines = lines ++ replicate ((50 - length lines % 50) % 50) (padded [])

-- the poster
unfoldable pub poster : Graph → List ℕ
poster G = joined (filled (poster_lines G))
