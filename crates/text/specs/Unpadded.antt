-- The form that numbers had before padding: for the theorem that lists of that form read as they did.
use Rattle.std.specs.Prelude.{Option, Some, None, Bool, cond, ◌&&◌, ◌||◌, not, List, ℕ, leb, eqb, length, get_or}
use Rattle.text.specs.Numbers.{digits, is_number, value_from}

-- 1 to 4 digits, without leading zeros except 0 itself
unfoldable pub is_unpadded : List ℕ → Bool
is_unpadded p = leb 1 (length p) && (leb (length p) 4 && ((leb (length p) 1 || not (eqb (get_or p 0 0) 48)) && digits p))

-- what a part of that form reads as
unfoldable pub unpadded_number : List ℕ → Option ℕ
unpadded_number p = cond (is_unpadded p) (Some (value_from 0 p)) None

-- is the part no number, or one of that form?
unfoldable pub is_plain : List ℕ → Bool
is_plain p = not (is_number p) || is_unpadded p
