-- The lines of one wave: what the functions that write them leave.
use Rattle.std.specs.Prelude.{List, ℕ, zero, suc, ◌<◌, T, get_or}
use Rattle.rule.specs.Lists.{memb}
use Rattle.wave_lines.specs.Lines.{letters}
use Rattle.poster_lines.specs.Poster.{sevens, marked}

-- all of them can be banks of a plan
abbrev pub Small : List ℕ → Type 0
Small bs = (b : ℕ) → T (memb b bs) → b < 1024

-- the mark of line i of a wave with this letter
unfoldable pub mark_at : ℕ → ℕ → ℕ
mark_at letter zero = letter
mark_at letter (suc i) = 32

-- the lines of wave c with these banks
unfoldable pub lines_with : ℕ → List ℕ → List (List ℕ)
lines_with c bs = marked (get_or letters c 0) (sevens bs)
