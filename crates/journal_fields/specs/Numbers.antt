-- The numbers of the questions about a journal's bytes (02, N2, N6 and N10).
use Rattle.std.specs.Prelude.{◌&&◌, List, [], ◌∷◌, ℕ, zero, suc, leb, eqb, length, take, drop}
use Rattle.planner.specs.Questions.{◌else◌, first_no}
use Rattle.journal_fields.specs.declared.field.Fault.{Fault}
use Rattle.journal_fields.specs.declared.field.Fault.TheVariants.{Wrong, Misnumbered, Short}
use Rattle.journal_fields.specs.Fields.{first_size, has_first, Fields, fields, ranks_first}

-- the first number that is not 0
unfoldable pub first_of : List ℕ → ℕ
first_of [] = 0
first_of (zero ∷ cs) = first_of cs
first_of (suc c ∷ cs) = suc c

-- has the slice space for `size` bytes, and are they at most 60,000?
unfoldable pub space_number : ℕ → List ℕ → ℕ
space_number size journal = first_no ((leb size (length journal) && leb size 60000 else 15) ∷ [])

-- are the journal's first `size` bytes at most 60,000, within the slice, and do they start with the first field?
unfoldable pub head_number : ℕ → List ℕ → ℕ
head_number size journal =
    first_no ((leb size 60000 else 9) ∷ (leb size (length journal) && has_first (take size journal) else 13) ∷ [])

-- the number of a field that is no entry, as recording gives it
unfoldable pub refusal : Fault → ℕ
refusal Wrong = 14
refusal Misnumbered = 21
refusal Short = 14

-- field by field, since entries come before what ends them: does no rank follow an edit, is no field wrong, and is nothing left over?
unfoldable pub later_number : Fields → ℕ
later_number f =
    first_of (first_no ((ranks_first f.entries else 18) ∷ []) ∷ f.wrong ∷ first_no ((eqb f.left_over 0 else 14) ∷ []) ∷ [])

-- the same of its fields after the first
unfoldable pub fields_number : ℕ → List ℕ → ℕ
fields_number size journal = later_number (fields (drop first_size (take size journal)))
