-- Rows of the unpadded form read as they did.
use mathlib.Core.Bool.{◌&&◌}
use mathlib.Core.List.{List, [], ◌∷◌}
use mathlib.Core.Path.{◌≡◌, refl, ap, ap₂}
use Prim.Native.Nat.{ℕ}
use lib.Dec.{T}
use Rattle.rule.proofs.Booleans.{and_l, and_r}
use Rattle.std.proofs.Common.{Option, Some, None}
use Rattle.text.specs.Text.{parts}
use Rattle.text.specs.Numbers.{number}
use Rattle.text.specs.Unpadded.{unpadded_number, is_plain}
use Rattle.text.proofs.Theorems.{number_kept, number_same}
use Rattle.list_rows.specs.declared.row.Row.TheVariants.{Unreadable}
use Rattle.list_rows.specs.Rows.{two_parts, three_parts, from_parts, row_of}
use Rattle.list_rows.specs.Unpadded.{unpadded_row, all_plain, plain_row}

parts_same : (ps : List (List ℕ)) → T (all_plain ps) → from_parts number ps ≡ from_parts unpadded_number ps
unfolding from_parts all_plain
parts_same [] t = refl
parts_same (h ∷ []) t = refl
parts_same (h ∷ x ∷ []) t =
    let rest = and_r (is_plain h) (is_plain x && all_plain []) t in
    ap (two_parts h) (number_same x (and_l (is_plain x) (all_plain []) rest))
parts_same (h ∷ x ∷ y ∷ []) t =
    let rest = and_r (is_plain h) (is_plain x && (is_plain y && all_plain [])) t in
    let last = and_r (is_plain x) (is_plain y && all_plain []) rest in
    ap₂ (three_parts h) (number_same x (and_l (is_plain x) (is_plain y && all_plain []) rest)) (number_same y (and_l (is_plain y) (all_plain []) last))
parts_same (h ∷ x ∷ y ∷ z ∷ ps) t = refl

-- a row without padding
pub plain_kept : (r : List ℕ) → T (plain_row r) → row_of r ≡ unpadded_row r
unfolding plain_row row_of unpadded_row
plain_kept r t = parts_same (parts r) t

-- a number that read before, in a row that read before
two_kept : (h x : List ℕ) (n : Option ℕ) → unpadded_number x ≡ n → (two_parts h n ≡ Unreadable → ⊥) → two_parts h (number x) ≡ two_parts h n
unfolding two_parts
two_kept h x None e n = absurd (n refl)
two_kept h x (Some v) e n = ap (two_parts h) (number_kept x v e)

three_kept : (h x y : List ℕ) (n m : Option ℕ) → unpadded_number x ≡ n → unpadded_number y ≡ m → (three_parts h n m ≡ Unreadable → ⊥)
    → three_parts h (number x) (number y) ≡ three_parts h n m
unfolding three_parts
three_kept h x y None m e f n = absurd (n refl)
three_kept h x y (Some v) None e f n = absurd (n refl)
three_kept h x y (Some v) (Some w) e f n = ap₂ (three_parts h) (number_kept x v e) (number_kept y w f)

parts_kept : (ps : List (List ℕ)) → (from_parts unpadded_number ps ≡ Unreadable → ⊥) → from_parts number ps ≡ from_parts unpadded_number ps
unfolding from_parts
parts_kept [] n = refl
parts_kept (h ∷ []) n = refl
parts_kept (h ∷ x ∷ []) n = two_kept h x (unpadded_number x) refl n
parts_kept (h ∷ x ∷ y ∷ []) n = three_kept h x y (unpadded_number x) (unpadded_number y) refl refl n
parts_kept (h ∷ x ∷ y ∷ z ∷ ps) n = refl

-- a row that read before
pub read_kept : (r : List ℕ) → (unpadded_row r ≡ Unreadable → ⊥) → row_of r ≡ unpadded_row r
unfolding row_of unpadded_row
read_kept r n = parts_kept (parts r) n
