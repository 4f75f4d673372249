-- Places in bytes: where a byte is found, and where a text is put.
use Rattle.std.specs.Prelude.{cond, List, [], ◌∷◌, ◌++◌, ◌≡◌, ℕ, suc, ◌+◌, ◌≤◌, eqb, length, take, drop}

-- how many bytes stand before the first c, or in all
unfoldable pub before : ℕ → List ℕ → ℕ
before c [] = 0
before c (x ∷ xs) = cond (eqb x c) 0 (suc (before c xs))

-- r is the place of the first c from `from` on, or the length
pub record Finds (bytes : List ℕ) (from c r : ℕ) : Type 0 where
  pub is : r ≡ from + before c (drop from bytes)
  pub low : from ≤ r
  pub high : r ≤ length bytes

-- the slice with the text at place `at`
unfoldable pub put : List ℕ → ℕ → List ℕ → List ℕ
put text at out = take at out ++ (text ++ drop (at + length text) out)

-- the text was written at `at`, and r is the place after it
pub record Puts (text : List ℕ) (at : ℕ) (out : List ℕ) (r : ℕ) (out' : List ℕ) : Type 0 where
  pub next : r ≡ at + length text
  pub left : out' ≡ put text at out

-- an output has room for the text at `at`
abbrev pub Room : List ℕ → ℕ → List ℕ → Type 0
Room text at out = at + length text ≤ length out
