-- What a row says where no number can be padded, a K row too: for the theorem that rows without padding read as they did before padding.
use Rattle.std.specs.Prelude.{Bool, true, ◌&&◌, List, [], ◌∷◌, ℕ}
use Rattle.text.specs.Text.{parts}
use Rattle.text.specs.Unpadded.{unpadded_number, is_plain}
use Rattle.list_rows.specs.declared.row.Row.{Row}
use Rattle.list_rows.specs.Rows.{from_parts}

-- `row_of` with the unpadded form in the place of `number`
unfoldable pub unpadded_row : List ℕ → Row
unpadded_row r = from_parts unpadded_number (parts r)

-- has none of these parts a zero in front of a number?
unfoldable pub all_plain : List (List ℕ) → Bool
all_plain [] = true
all_plain (p ∷ ps) = is_plain p && all_plain ps

-- all numbers of the row have the unpadded form
unfoldable pub plain_row : List ℕ → Bool
plain_row r = all_plain (parts r)
