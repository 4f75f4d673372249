-- The list of the same edits as a journal's: `N n`, then a row for each entry, numbers without zeros in front.
use Rattle.std.specs.Prelude.{List, [], ◌∷◌, ◌++◌, ℕ}
use Rattle.text.specs.Numbers.{decimal}
use Rattle.rule.specs.declared.Entry.{Entry}
use Rattle.list_rows.specs.declared.row.Change.TheVariants.{One}
use Rattle.list_rows.specs.declared.row.Row.{Row}
use Rattle.list_rows.specs.declared.row.Row.TheVariants.{Edit}
use Rattle.journal_fields.specs.Fields.{tag_of, first_in, second_in}

-- the two numbers of a row
unfoldable pub pair_text : ℕ → ℕ → List ℕ
pair_text a b = decimal a ++ (32 ∷ decimal b)

-- `+ a b`, `- a b` or `K b r`: the tag is the row's first byte, 43, 45 or 75
unfoldable pub entry_text : Entry → List ℕ
entry_text e = tag_of e ∷ 32 ∷ pair_text (first_in e) (second_in e)

-- the rows of entries, each with a line feed
unfoldable pub entries_text : List Entry → List ℕ
entries_text [] = []
entries_text (e ∷ es) = entry_text e ++ (10 ∷ entries_text es)

-- the list
unfoldable pub list_text : ℕ → List Entry → List ℕ
list_text n es = (78 ∷ 32 ∷ decimal n) ++ (10 ∷ entries_text es)

-- what the row of an entry says
abbrev pub entry_row : Entry → Row
entry_row e = Edit (One e)
