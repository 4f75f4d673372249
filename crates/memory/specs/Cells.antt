-- Slices by their cells.
use Rattle.std.specs.Prelude.{Bool, true, false, ◌&&◌, List, [], ◌∷◌, ◌++◌, map, ◌≡◌, ℕ, ◌≤◌, eqb, length, get_or, drop}
use Rattle.rule.specs.Lists.{upto}

-- `size` cells, each by its place
unfoldable pub cells : ℕ → (ℕ → ℕ) → List ℕ
cells size at = map at (upto size)

-- the slice with these cells at its front; the cells beyond stay
unfoldable pub over : List ℕ → List ℕ → List ℕ
over front slice = front ++ drop (length front) slice

-- does the slice begin with these cells?
unfoldable pub starts : List ℕ → List ℕ → Bool
starts [] slice = true
starts (x ∷ xs) [] = false
starts (x ∷ xs) (y ∷ ys) = eqb x y && starts xs ys

-- the cells from place k on are as they were
pub record Beyond (k : ℕ) (now was : List ℕ) : Type 0 where
  pub long : length now ≡ length was
  pub same : (i : ℕ) → k ≤ i → get_or now i 0 ≡ get_or was i 0
