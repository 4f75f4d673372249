-- Theorems on text: what to cite.
use mathlib.Core.Bool.{cond}
use mathlib.Core.List.{List, [], ◌∷◌, ◌++◌}
use mathlib.Core.Path.{◌≡◌, ap}
use Prim.Native.Nat.{ℕ, ◌+◌, ◌-◌, ◌≤◌, ◌<◌}
use native.Mathlib.Omega.{arith}
use lib.Dec.{T, eqb}
use lib.ListN.{length, get_or, take, drop}
use borrow.Author.Tests.{ne_eqb}
use Rattle.std.proofs.Common.{Some, None}
use Rattle.text.specs.Text.{onto, rows}
use Rattle.text.specs.Numbers.{value_from, number, decimal}
use Rattle.text.specs.Unpadded.{unpadded_number, is_plain}
use Rattle.text.specs.Places.{Finds}
use Rattle.text.proofs.Numbers as Numbers
use Rattle.text.proofs.Decimal
use Rattle.text.proofs.Pieces

-- the first row from place a on ends at e, the first line feed or the end; the others start after it
pub rows_at : (l : List ℕ) (a e : ℕ) → a < length l → Finds l a 10 e → rows (drop a l) ≡ take (e - a) (drop a l) ∷ rows (drop (e + 1) l)
rows_at = Pieces.rows_at

-- bytes that end in c, no line feed, have the same rows as these bytes with a line feed after them
pub final_feed : (bytes : List ℕ) (c : ℕ) → (c ≡ 10 → ⊥) → rows ((bytes ++ (c ∷ [])) ++ (10 ∷ [])) ≡ rows (bytes ++ (c ∷ []))
unfolding rows onto
final_feed [] c n = rw (ne_eqb c 10 n)
final_feed (x ∷ xs) c n = ap (λ (r : List (List ℕ)). cond (eqb x 10) ([] ∷ r) (onto x r)) (final_feed xs c n)

-- a part that the unpadded form takes for a number has the same value now
pub number_kept : (p : List ℕ) (x : ℕ) → unpadded_number p ≡ Some x → number p ≡ Some x
number_kept = Numbers.number_kept

-- and one that has no zero in front, or is no number, reads as it did
pub number_same : (p : List ℕ) → T (is_plain p) → number p ≡ unpadded_number p
number_same = Numbers.number_same

-- a printed number has the value that was printed
pub printed_value : (x : ℕ) → value_from 0 (decimal x) ≡ x
printed_value = Decimal.decimal_value

-- it reads back below 10,000, and from there on it has too many digits
pub reads_back : (x : ℕ) → x < 10000 → number (decimal x) ≡ Some x
reads_back = Decimal.reads_back

pub reads_not : (x : ℕ) → 10000 ≤ x → number (decimal x) ≡ None
reads_not = Decimal.reads_not

-- what reads as a number is at most 9,999
pub number_small : (p : List ℕ) (x : ℕ) → number p ≡ Some x → x ≤ 9999
number_small = Numbers.number_small

-- it has no zero in front: 0 alone starts with one
pub no_zero_in_front : (x : ℕ) → 1 ≤ x → get_or (decimal x) 0 0 ≡ 48 → ⊥
no_zero_in_front x some e = omega (arith, Decimal.first_digit x some)

-- so it is of the unpadded form
pub printed_unpadded : (x : ℕ) → x < 10000 → unpadded_number (decimal x) ≡ Some x
printed_unpadded = Decimal.reads_unpadded
