-- Text in pieces: bytes into rows, rows into parts (01, "The list"), and texts put together.
use Rattle.std.specs.Prelude.{cond, List, [], ◌∷◌, ◌++◌, ℕ, eqb}

-- the byte c in front of the first piece
unfoldable pub onto : ℕ → List (List ℕ) → List (List ℕ)
onto c [] = (c ∷ []) ∷ []
onto c (p ∷ ps) = (c ∷ p) ∷ ps

-- a row ends at a line feed (byte 10) or at the end of the bytes; nothing after a final line feed is no row
unfoldable pub rows : List ℕ → List (List ℕ)
rows [] = []
rows (c ∷ cs) = cond (eqb c 10) ([] ∷ rows cs) (onto c (rows cs))

-- the parts of a row, one space (byte 32) between two: where another space stands, a part is empty
unfoldable pub parts : List ℕ → List (List ℕ)
parts [] = [] ∷ []
parts (c ∷ cs) = cond (eqb c 32) ([] ∷ parts cs) (onto c (parts cs))

-- one after the other
unfoldable pub joined : List (List ℕ) → List ℕ
joined [] = []
joined (t ∷ ts) = t ++ joined ts
