-- The names under which states are kept (02, N5), eight bytes each, and their places on the shelf.
use Rattle.std.specs.Prelude.{Bool, true, false, cond, ◌&&◌, List, [], ◌∷◌, ℕ, eqb, ltb}

-- are they the same bytes?
unfoldable pub same : List ℕ → List ℕ → Bool
same [] [] = true
same [] (y ∷ ys) = false
same (x ∷ xs) [] = false
same (x ∷ xs) (y ∷ ys) = eqb x y && same xs ys

-- `MORNING `
abbrev pub morning : List ℕ
morning = 77 ∷ 79 ∷ 82 ∷ 78 ∷ 73 ∷ 78 ∷ 71 ∷ 32 ∷ []

-- `NOON    `
abbrev pub noon : List ℕ
noon = 78 ∷ 79 ∷ 79 ∷ 78 ∷ 32 ∷ 32 ∷ 32 ∷ 32 ∷ []

-- `CLOSE   `
abbrev pub close : List ℕ
close = 67 ∷ 76 ∷ 79 ∷ 83 ∷ 69 ∷ 32 ∷ 32 ∷ 32 ∷ []

-- the place of a name, from 0; 3 for any other bytes
unfoldable pub place_of : List ℕ → ℕ
place_of name = cond (same name morning) 0 (cond (same name noon) 1 (cond (same name close) 2 3))

-- is it one of the three names?
unfoldable pub known : List ℕ → Bool
known name = ltb (place_of name) 3
