-- The ranks that rows name are at most 9,999: a number has at most four digits.
use mathlib.Core.Bool.{Bool, true, false, cond}
use mathlib.Core.List.{List, [], ◌∷◌, map}
use mathlib.Core.Path.{◌≡◌, refl}
use Prim.Native.Nat.{ℕ, zero, suc, ◌≤◌}
use lib.ListN.{take}
use Rattle.std.proofs.Common.{Option, Some, None}
use Rattle.text.specs.Text.{rows, parts}
use Rattle.text.specs.Numbers.{number}
use Rattle.text.proofs.Theorems.{number_small}
use Rattle.list_rows.specs.declared.row.Row.{Row}
use Rattle.list_rows.specs.declared.row.Row.TheVariants.{Banks, Edit, Unreadable, Retired}
use Rattle.rule.specs.Numbers.{bank}
use Rattle.list_rows.specs.declared.row.Change.{Change}
use Rattle.list_rows.specs.declared.row.Change.TheVariants.{One, StrikeAll}
use Rattle.rule.specs.declared.Kind.TheVariants.{Adding, Striking}
use Rattle.rule.specs.declared.Entry.TheVariants.{Clash, Rank}
use Rattle.list_rows.specs.Rows.{is_byte, two_parts, three_parts, from_parts, row_of, retire_change, retire, say_in, from_n, list_v2, rows_of}
use Rattle.list_pass.specs.inner.Steps.{ChangeFits}

abbrev pub RowFits : Row → Type 0
RowFits (Banks n) = Unit {0}
RowFits (Edit c) = ChangeFits c
RowFits Unreadable = Unit {0}
RowFits Retired = Unit {0}

abbrev pub AllFit : List Row → Type 0
AllFit [] = Unit {0}
AllFit (r ∷ rs) = RowFits r × AllFit rs

either : (t : Bool) (x y : Row) → RowFits x → RowFits y → RowFits (cond t x y)
either true x y p q = p
either false x y p q = q

two_fit : (head : List ℕ) (x : Option ℕ) → RowFits (two_parts head x)
unfolding two_parts
two_fit head None = tt
two_fit head (Some x) =
    let strike = Edit (StrikeAll (bank x)) in
    either (is_byte 78 head) (Banks x) (cond (is_byte 68 head) strike Unreadable) tt (either (is_byte 68 head) strike Unreadable tt tt)

three_fit : (head : List ℕ) (x y : Option ℕ) → ((v : ℕ) → y ≡ Some v → v ≤ 9999) → RowFits (three_parts head x y)
unfolding three_parts
three_fit head None y small = tt
three_fit head (Some a) None small = tt
three_fit head (Some a) (Some b) small =
    let add = Edit (One (Clash Adding (bank a) (bank b))) in
    let strike = Edit (One (Clash Striking (bank a) (bank b))) in
    let rank = Edit (One (Rank (bank a) b)) in
    let last = cond (is_byte 75 head) rank Unreadable in
    either (is_byte 43 head) add (cond (is_byte 45 head) strike last) tt
    (either (is_byte 45 head) strike last tt (either (is_byte 75 head) rank Unreadable (small b refl) tt))

parts_fit : (ps : List (List ℕ)) → RowFits (from_parts number ps)
unfolding from_parts
parts_fit [] = tt
parts_fit (h ∷ []) = tt
parts_fit (h ∷ x ∷ []) = two_fit h (number x)
parts_fit (h ∷ x ∷ y ∷ []) = three_fit h (number x) (number y) (number_small y)
parts_fit (h ∷ x ∷ y ∷ z ∷ ps) = tt

change_fit : (c : Change) → ChangeFits c → RowFits (retire_change c)
unfolding retire_change
change_fit (One e) f = f
change_fit (StrikeAll b) f = tt

retire_fit : (r : Row) → RowFits r → RowFits (retire r)
unfolding retire
retire_fit (Banks n) f = tt
retire_fit (Edit c) f = change_fit c f
retire_fit Unreadable f = tt
retire_fit Retired f = tt

pub row_fits : (v : Bool) (r : List ℕ) → RowFits (say_in row_of v r)
unfolding say_in row_of
row_fits true r = retire_fit (row_of r) (parts_fit (parts r))
row_fits false r = parts_fit (parts r)

pub edit_fits : (v : Bool) (r : List ℕ) (x : Row) → x ≡ say_in row_of v r → RowFits x
edit_fits v r x e = rw e (row_fits v r)

map_fits : (v : Bool) (rs : List (List ℕ)) → AllFit (map (say_in row_of v) rs)
map_fits v [] = tt
map_fits v (r ∷ rs) = (row_fits v r, map_fits v rs)

pub rows_fit : (bytes : List ℕ) → AllFit (rows_of bytes)
rows_fit bytes = map_fits (list_v2 bytes) (from_n (list_v2 bytes) (rows bytes))

-- the later rows
pub later_fit : (bytes : List ℕ) (r : Row) (rs : List Row) → rows_of bytes ≡ r ∷ rs → AllFit rs
later_fit bytes r rs e = let f : AllFit (r ∷ rs) = rw e at (rows_fit bytes) in f.1

pub take_fit : (k : ℕ) (rs : List Row) → AllFit rs → AllFit (take k rs)
take_fit zero rs f = tt
take_fit (suc k) [] f = tt
take_fit (suc k) (r ∷ rs) f = (f.0, take_fit k rs f.1)
