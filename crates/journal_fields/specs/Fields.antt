-- The fields of a journal (02, N2, N6 and N10): a one-byte tag, a two-byte length and the value, low byte first.
use Rattle.std.specs.Prelude.{Bool, true, false, cond, ◌&&◌, ◌||◌, not, List, [], ◌∷◌, ◌++◌, Result, Ok, Err}
use Rattle.std.specs.Prelude.{ℕ, zero, suc, ◌+◌, ◌*◌, ◌/◌, ◌%◌, ltb, leb, eqb, length, get_or, drop}
use Rattle.rule.specs.Numbers.{bank}
use Rattle.rule.specs.declared.Kind.{Kind}
use Rattle.rule.specs.declared.Kind.TheVariants.{Adding, Striking}
use Rattle.rule.specs.declared.Entry.{Entry}
use Rattle.rule.specs.declared.Entry.TheVariants.{Clash, Rank}
use Rattle.journal_fields.specs.declared.field.Fault.{Fault}
use Rattle.journal_fields.specs.declared.field.Fault.TheVariants.{Wrong, Misnumbered, Short}

-- how many bytes: a tag and a length, and the first field
abbrev pub head_size : ℕ
head_size = 3

abbrev pub first_size : ℕ
first_size = head_size + 2

-- an edit number, an entry's value and its field: a journal has numbers in all its entries or in none
abbrev pub number_size : Bool → ℕ
number_size false = 0
number_size true = 4

abbrev pub value_size : Bool → ℕ
value_size numbered = number_size numbered + 4

abbrev pub entry_size : Bool → ℕ
entry_size numbered = head_size + value_size numbered

-- the tags of the first field and of a rank: 4E hex and 4B hex
abbrev pub first_tag : ℕ
first_tag = 78

abbrev pub rank_tag : ℕ
rank_tag = 75

-- the tag of an edit: 2B hex for add and 2D hex for strike
unfoldable pub kind_tag : Kind → ℕ
kind_tag Adding = 43
kind_tag Striking = 45

-- an entry's tag, and the two numbers of its value: the banks in the order given, or the bank and its rank
unfoldable pub tag_of : Entry → ℕ
tag_of (Clash kind a b) = kind_tag kind
tag_of (Rank b r) = rank_tag

unfoldable pub first_in : Entry → ℕ
first_in (Clash kind a b) = a.0
first_in (Rank b r) = b.0

unfoldable pub second_in : Entry → ℕ
second_in (Clash kind a b) = b.0
second_in (Rank b r) = r

-- a 16-bit number as two bytes, the low one first
unfoldable pub two_bytes : ℕ → List ℕ
two_bytes x = x % 256 ∷ x / 256 ∷ []

-- the number at places i and i + 1
unfoldable pub number_at : ℕ → List ℕ → ℕ
number_at i bytes = get_or bytes i 0 + 256 * get_or bytes (i + 1) 0

-- a 32-bit number as four bytes, and the number at place i and the three after it
unfoldable pub four_bytes : ℕ → List ℕ
four_bytes x = two_bytes (x % 65536) ++ two_bytes (x / 65536)

unfoldable pub four_at : ℕ → List ℕ → ℕ
four_at i bytes = number_at i bytes + 65536 * number_at (i + 2) bytes

-- a field: its tag, the length of its value, its value
unfoldable pub field_bytes : ℕ → List ℕ → List ℕ
field_bytes tag value = tag ∷ (two_bytes (length value) ++ value)

-- the first field: its value is n
unfoldable pub first_bytes : ℕ → List ℕ
first_bytes n = field_bytes first_tag (two_bytes n)

-- an edit number, where entries have one
unfoldable pub number_bytes : Bool → ℕ → List ℕ
number_bytes false i = []
number_bytes true i = four_bytes i

-- the field of entry i: its tag, its number and its two numbers
unfoldable pub entry_bytes : Bool → ℕ → Entry → List ℕ
entry_bytes numbered i e = field_bytes (tag_of e) (number_bytes numbered i ++ (two_bytes (first_in e) ++ two_bytes (second_in e)))

-- the fields of entries from entry i on, one after the other
unfoldable pub entries_bytes : Bool → ℕ → List Entry → List ℕ
entries_bytes numbered i [] = []
entries_bytes numbered i (e ∷ es) = entry_bytes numbered i e ++ entries_bytes numbered (suc i) es

-- the journal of n banks and these entries, counted from 1
unfoldable pub journal_bytes : Bool → ℕ → List Entry → List ℕ
journal_bytes numbered n es = first_bytes n ++ entries_bytes numbered 1 es

-- is the first field whole, with its tag and length right?
unfoldable pub has_first : List ℕ → Bool
has_first bytes = leb first_size (length bytes) && (eqb (get_or bytes 0 0) first_tag && eqb (number_at 1 bytes) 2)

-- the banks that it names
unfoldable pub banks_in : List ℕ → ℕ
banks_in bytes = number_at head_size bytes

-- is the tag an entry's?
unfoldable pub is_entry_tag : ℕ → Bool
is_entry_tag tag = eqb tag (kind_tag Adding) || (eqb tag (kind_tag Striking) || eqb tag rank_tag)

-- the kind of an edit that has this tag
unfoldable pub kind_of : ℕ → Kind
kind_of tag = cond (eqb tag (kind_tag Adding)) Adding Striking

-- the entry of this tag and these two numbers
unfoldable pub entry_of : ℕ → ℕ → ℕ → Entry
entry_of tag x y = cond (eqb tag rank_tag) (Rank (bank x) y) (Clash (kind_of tag) (bank x) (bank y))

-- is its rank, if it sets one, at most 9,999?
unfoldable pub rank_fits : Entry → Bool
rank_fits (Clash kind a b) = true
rank_fits (Rank b r) = leb r 9999

-- are the entries of these bytes, those after the first field, numbered? Not if the first has length 4; a journal without entries is new
unfoldable pub numbered : List ℕ → Bool
numbered bytes = ltb (length bytes) head_size || not (eqb (number_at 1 bytes) (value_size false))

-- are the tag and the length an entry's?
unfoldable pub is_entry : Bool → List ℕ → Bool
is_entry numbered bytes = is_entry_tag (get_or bytes 0 0) && eqb (number_at 1 bytes) (value_size numbered)

-- the entry of a whole field
unfoldable pub entry_in : Bool → List ℕ → Entry
entry_in numbered bytes =
    let place = head_size + number_size numbered in
    entry_of (get_or bytes 0 0) (number_at place bytes) (number_at (place + 2) bytes)

-- its edit number: in the field, or, for entry i, implied by its place
unfoldable pub number_in : Bool → ℕ → List ℕ → ℕ
number_in false i bytes = i
number_in true i bytes = four_at head_size bytes

-- a whole field, by its entry: a rank above 9,999 is wrong, then comes whether its number is the next
unfoldable pub whole_of : Bool → Entry → Result Entry Fault
whole_of next e = cond (rank_fits e) (cond next (Ok e) (Err Misnumbered)) (Err Wrong)

-- what stands at the front, where entry i is due: less than a tag and a length, or a right tag and length with a short value, is left over
unfoldable pub field_of : Bool → ℕ → List ℕ → Result Entry Fault
field_of numbered i bytes =
    let whole = whole_of (eqb (number_in numbered i bytes) i) (entry_in numbered bytes) in
    let short = ltb (length bytes) (entry_size numbered) in
    cond (ltb (length bytes) head_size) (Err Short) (cond (is_entry numbered bytes) (cond short (Err Short) whole) (Err Wrong))

-- what the bytes after the first field read as: the entries, then the number of a field that ends them, 14 or 21, or so many bytes left over
pub record Fields : Type 0 where
  pub entries : List Entry
  pub wrong : ℕ
  pub left_over : ℕ

-- by what stands at the front of this many bytes
unfoldable pub fields_by : Result Entry Fault → ℕ → Fields → Fields
fields_by (Ok e) size rest = record { entries = e ∷ rest.entries; wrong = rest.wrong; left_over = rest.left_over }
fields_by (Err Wrong) size rest = record { entries = []; wrong = 14; left_over = 0 }
fields_by (Err Misnumbered) size rest = record { entries = []; wrong = 21; left_over = 0 }
fields_by (Err Short) size rest = record { entries = []; wrong = 0; left_over = size }

-- the fields from entry i on, if they are no more than `depth`
unfoldable pub fields_in : ℕ → Bool → ℕ → List ℕ → Fields
fields_in zero numbered i bytes = fields_by (Err Short) (length bytes) (record { entries = []; wrong = 0; left_over = 0 })
fields_in (suc depth) numbered i bytes =
    fields_by (field_of numbered i bytes) (length bytes) (fields_in depth numbered (suc i) (drop (entry_size numbered) bytes))

-- the fields from entry i on: no more than there are bytes
unfoldable pub fields_from : Bool → ℕ → List ℕ → Fields
fields_from numbered i bytes = fields_in (length bytes) numbered i bytes

-- all fields: the first tells whether they are numbered, and they count from 1
unfoldable pub fields : List ℕ → Fields
fields bytes = fields_from (numbered bytes) 1 bytes

-- does an entry set a rank?
unfoldable pub is_rank : Entry → Bool
is_rank (Clash kind a b) = false
is_rank (Rank b r) = true

-- does no rank follow the edit of a clash? One has come before if `begun`.
unfoldable pub ranks_from : Bool → List Entry → Bool
ranks_from begun [] = true
ranks_from begun (Clash kind a b ∷ es) = ranks_from true es
ranks_from begun (Rank b r ∷ es) = not begun && ranks_from begun es

-- does none, from the first entry on?
unfoldable pub ranks_first : List Entry → Bool
ranks_first es = ranks_from false es
