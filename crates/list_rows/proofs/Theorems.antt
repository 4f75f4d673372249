-- Theorems on rows: what to cite.
use mathlib.Core.List.{List, ◌∷◌}
use mathlib.Core.Path.{◌≡◌}
use Prim.Native.Nat.{ℕ}
use lib.Dec.{T}
use Rattle.list_rows.specs.declared.row.Row.TheVariants.{Unreadable}
use Rattle.list_rows.specs.Rows.{row_of}
use Rattle.list_rows.specs.Unpadded.{unpadded_row, plain_row}
use Rattle.list_rows.proofs.Forms as Forms
use Rattle.list_rows.proofs.Kept as Kept

-- a row all of whose numbers have the unpadded form reads as it did
pub row_kept : (r : List ℕ) → T (plain_row r) → row_of r ≡ unpadded_row r
row_kept = Kept.plain_kept

-- and so does every row that read before numbers could be padded
pub read_row_kept : (r : List ℕ) → (unpadded_row r ≡ Unreadable → ⊥) → row_of r ≡ unpadded_row r
read_row_kept = Kept.read_kept

-- a row that starts with a V, `V 2` too, is none of the forms
pub v_row : (r : List ℕ) → row_of (86 ∷ r) ≡ Unreadable
v_row = Forms.v_row
