-- The questions of 01, of which the first no wins.
use Rattle.std.specs.Prelude.{Bool, cond, List, [], ◌∷◌, ℕ}

-- a question's answer, and the number that a no gets
pub record Question : Type 0 where
  pub holds : Bool
  pub number : ℕ

abbrev pub ◌else◌ : Bool → ℕ → Question
b else c = record { holds = b; number = c }

infixl 20 ◌else◌
-- the number of the first no, or 0
unfoldable pub first_no : List Question → ℕ
first_no [] = 0
first_no (q ∷ qs) = cond q.holds (first_no qs) q.number
