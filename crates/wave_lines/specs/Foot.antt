-- The foot of the texts of a plan (02, N7): its banks and its clashes, as it is written and as it is read.
use Rattle.std.specs.Prelude.{List, [], ◌∷◌, ◌++◌, ℕ, get_or}
use Rattle.text.specs.Text.{parts}
use Rattle.text.specs.Numbers.{value_from, decimal}

-- `TOTAL n m`
unfoldable pub foot_text : ℕ → ℕ → List ℕ
foot_text n m = (84 ∷ 79 ∷ 84 ∷ 65 ∷ 76 ∷ 32 ∷ []) ++ (decimal n ++ (32 ∷ decimal m))

-- the two numbers of a foot
pub record Totals : Type 0 where
  pub banks : ℕ
  pub clashes : ℕ

abbrev pub totals_of : ℕ → ℕ → Totals
totals_of n m = record { banks = n; clashes = m }

-- the numbers on a foot: after its first and after its second space
unfoldable pub totals_on : List ℕ → Totals
totals_on line = totals_of (value_from 0 (get_or (parts line) 1 [])) (value_from 0 (get_or (parts line) 2 []))
