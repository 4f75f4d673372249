-- What a row says (01, "The list"): `N n`, `+ a b`, `- a b`, `D b`, `K b r` (02, N6), or nothing that reads; and what the rows of a list say, which may
-- start with `V 2` (02, N12).
use Rattle.std.specs.Prelude.{Option, Some, None, Bool, true, false, cond, ◌&&◌, List, [], ◌∷◌, map, ℕ, eqb, length, get_or, drop}
use Rattle.rule.specs.Numbers.{bank}
use Rattle.rule.specs.declared.Kind.TheVariants.{Adding, Striking}
use Rattle.rule.specs.declared.Entry.TheVariants.{Clash, Rank}
use Rattle.text.specs.Text.{rows, parts}
use Rattle.text.specs.Numbers.{number}
use Rattle.list_rows.specs.declared.row.Change.{Change}
use Rattle.list_rows.specs.declared.row.Change.TheVariants.{One, StrikeAll}
use Rattle.list_rows.specs.declared.row.Row.{Row}
use Rattle.list_rows.specs.declared.row.Row.TheVariants.{Banks, Edit, Unreadable, Retired}

-- is the part this one byte?
unfoldable pub is_byte : ℕ → List ℕ → Bool
is_byte c p = eqb (length p) 1 && eqb (get_or p 0 0) c

-- two parts: `N n` (N is byte 78) and `D b` (D is byte 68)
unfoldable pub two_parts : List ℕ → Option ℕ → Row
two_parts head None = Unreadable
two_parts head (Some x) = cond (is_byte 78 head) (Banks x) (cond (is_byte 68 head) (Edit (StrikeAll (bank x))) Unreadable)

-- three parts: `+ a b` (+ is byte 43), `- a b` (- is byte 45) and `K b r` (K is byte 75)
unfoldable pub three_parts : List ℕ → Option ℕ → Option ℕ → Row
three_parts head None y = Unreadable
three_parts head (Some a) None = Unreadable
three_parts head (Some a) (Some b) =
    cond (is_byte 43 head) (Edit (One (Clash Adding (bank a) (bank b))))
    (cond (is_byte 45 head) (Edit (One (Clash Striking (bank a) (bank b)))) (cond (is_byte 75 head) (Edit (One (Rank (bank a) b))) Unreadable))

-- by the number of parts, where `read` says what a part is as a number
unfoldable pub from_parts : (List ℕ → Option ℕ) → List (List ℕ) → Row
from_parts read [] = Unreadable
from_parts read (h ∷ []) = Unreadable
from_parts read (h ∷ x ∷ []) = two_parts h (read x)
from_parts read (h ∷ x ∷ y ∷ []) = three_parts h (read x) (read y)
from_parts read (h ∷ x ∷ y ∷ z ∷ ps) = Unreadable

-- what a row says, of its bytes without the line feed
unfoldable pub row_of : List ℕ → Row
row_of r = from_parts number (parts r)

-- is the row `V 2`: three bytes and nothing else?
unfoldable pub is_v2 : List ℕ → Bool
is_v2 r = eqb (length r) 3 && (eqb (get_or r 0 0) 86 && (eqb (get_or r 1 0) 32 && eqb (get_or r 2 0) 50))

-- what a row's edit is in a V 2 list: D is not taken
unfoldable pub retire_change : Change → Row
retire_change (One e) = Edit (One e)
retire_change (StrikeAll b) = Retired

-- and what a row says there
unfoldable pub retire : Row → Row
retire (Banks n) = Banks n
retire (Edit c) = retire_change c
retire Unreadable = Unreadable
retire Retired = Retired

-- what a row that says `say` by itself says in a list, which is a V 2 list or not
unfoldable pub say_in : (List ℕ → Row) → Bool → List ℕ → Row
say_in say false r = say r
say_in say true r = retire (say r)

-- do these rows start with `V 2`?
unfoldable pub start_v2 : List (List ℕ) → Bool
start_v2 [] = false
start_v2 (r ∷ rs) = is_v2 r

-- the rows from the N row on
unfoldable pub from_n : Bool → List (List ℕ) → List (List ℕ)
from_n false rs = rs
from_n true rs = drop 1 rs

-- the number of the N row
unfoldable pub n_row : Bool → ℕ
n_row false = 1
n_row true = 2

-- is it a V 2 list?
abbrev pub list_v2 : List ℕ → Bool
list_v2 bytes = start_v2 (rows bytes)

-- what the rows of a list say from the N row on, each by itself saying `say`
abbrev pub rows_by : (List ℕ → Row) → List ℕ → List Row
rows_by say bytes = map (say_in say (list_v2 bytes)) (from_n (list_v2 bytes) (rows bytes))

abbrev pub rows_of : List ℕ → List Row
rows_of bytes = rows_by row_of bytes

-- which row of it the N row is
abbrev pub first_row : List ℕ → ℕ
first_row bytes = n_row (list_v2 bytes)
