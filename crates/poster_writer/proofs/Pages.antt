-- Lines filled up to whole pages.
use mathlib.Core.List.{List, [], ◌++◌}
use mathlib.Core.Path.{◌≡◌, ap, ◌∙◌}
use Prim.Native.Nat.{ℕ, ◌+◌, ◌*◌, ◌-◌, ◌/◌, ◌%◌}
use native.Mathlib.Omega.{arith}
use lib.ListN.{length, replicate, length-append}
use Rattle.text.specs.Text.{joined}
use Rattle.text.proofs.Joined.{joined_append}
use Rattle.poster_lines.specs.Poster.{padded, filled}
use Rattle.poster_lines.proofs.Each.{Each}
use Rattle.poster_lines.proofs.Columns.{length_rows, length_blanks}

-- the pages of so many lines
abbrev pub pages : ℕ → ℕ
pages lines = (lines + 49) / 50

-- a text of lines and the filling
pub filled_text : (ls : List (List ℕ)) → joined (filled ls) ≡ joined ls ++ joined (replicate (50 * pages (length ls) - length ls) (padded []))
unfolding filled
filled_text ls =
    let count : ℕ = length ls in
    let e : (50 - count % 50) % 50 ≡ 50 * pages count - count = omega arith in
    joined_append ls (replicate ((50 - count % 50) % 50) (padded [])) ∙ ap (λ (n : ℕ). joined ls ++ joined (replicate n (padded []))) e

pub length_filled : (ls : List (List ℕ)) → Each (λ l. length l ≡ 41) ls → length (joined (filled ls)) ≡ 2050 * pages (length ls)
length_filled ls rows =
    let fill : ℕ = 50 * pages (length ls) - length ls in
    let parts = length-append (joined ls) (joined (replicate fill (padded []))) in
    omega (arith, ap length (filled_text ls), length_rows ls rows, length_blanks fill)
