-- Numbers as text: read (01, "The list") and printed in decimal.
use Rattle.std.specs.Prelude.{Option, Some, None, Bool, true, cond, ◌&&◌, List, [], ◌∷◌, ◌++◌, ℕ, zero, suc, ◌+◌, ◌*◌, ◌-◌, ◌/◌, ◌%◌, leb, ltb, length}

-- are they all digits (bytes 48 to 57)?
unfoldable pub digits : List ℕ → Bool
digits [] = true
digits (c ∷ cs) = leb 48 c && (leb c 57 && digits cs)

-- is the part a number: 1 to 4 digits, leading zeros allowed?
unfoldable pub is_number : List ℕ → Bool
is_number p = leb 1 (length p) && (leb (length p) 4 && digits p)

-- the value of v followed by digits
unfoldable pub value_from : ℕ → List ℕ → ℕ
value_from v [] = v
value_from v (c ∷ cs) = value_from (10 * v + (c - 48)) cs

-- what a part reads as where a number belongs
unfoldable pub number : List ℕ → Option ℕ
number p = cond (is_number p) (Some (value_from 0 p)) None

-- the digits of x, the highest first, if it has no more than `depth`
unfoldable pub decimal_in : ℕ → ℕ → List ℕ
decimal_in zero x = []
decimal_in (suc depth) x = cond (ltb x 10) ((48 + x) ∷ []) (decimal_in depth (x / 10) ++ ((48 + x % 10) ∷ []))

-- x in decimal: it has at most x + 1 digits
unfoldable pub decimal : ℕ → List ℕ
decimal x = decimal_in (suc x) x
