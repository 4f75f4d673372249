-- Texts without a certain byte: a row and its line feed, a part and its space.
use mathlib.Core.Bool.{true, ◌&&◌}
use mathlib.Core.List.{List, [], ◌∷◌, ◌++◌}
use mathlib.Core.Path.{◌≡◌, refl, ap}
use native.Mathlib.Omega.{arith}
use Prim.Native.Nat.{ℕ, ◌<◌}
use lib.Dec.{leb}
use borrow.Author.Tests.{leb-true, ne_eqb}
use Rattle.rule.proofs.Booleans.{both_true}
use Rattle.text.specs.Text.{onto, rows, parts}
use Rattle.text.specs.Numbers.{digits, decimal}
use Rattle.text.proofs.Decimal.{decimal_digits}

-- none of the bytes is c
abbrev pub Without : ℕ → List ℕ → Type 0
Without c [] = Unit {0}
Without c (x ∷ xs) = (x ≡ c → ⊥) × Without c xs

pub without_append : (c : ℕ) (xs ys : List ℕ) → Without c xs → Without c ys → Without c (xs ++ ys)
without_append c [] ys p q = q
without_append c (x ∷ xs) ys p q = (p.0, without_append c xs ys p.1 q)

-- digits are neither line feeds nor spaces
digits_without : (c : ℕ) → c < 48 → (p : List ℕ) → digits p ≡ true → Without c p
unfolding digits
digits_without c h [] e = tt
digits_without c h (x ∷ xs) e =
    let p = both_true (leb 48 x) (leb x 57 && digits xs) e in
    let q = both_true (leb x 57) (digits xs) p.1 in
    ((λ k. omega (arith, leb-true 48 x p.0)), digits_without c h xs q.1)

pub decimal_without : (c : ℕ) → c < 48 → (x : ℕ) → Without c (decimal x)
decimal_without c h x = digits_without c h (decimal x) (decimal_digits x)

-- a row and its line feed, a part and its space, a last part
pub rows_feed : (r rest : List ℕ) → Without 10 r → rows (r ++ (10 ∷ rest)) ≡ r ∷ rows rest
unfolding rows onto
rows_feed [] rest w = refl
rows_feed (c ∷ r) rest w = rw (ne_eqb c 10 w.0) (ap (onto c) (rows_feed r rest w.1))

pub parts_space : (p rest : List ℕ) → Without 32 p → parts (p ++ (32 ∷ rest)) ≡ p ∷ parts rest
unfolding parts onto
parts_space [] rest w = refl
parts_space (c ∷ p) rest w = rw (ne_eqb c 32 w.0) (ap (onto c) (parts_space p rest w.1))

pub parts_last : (p : List ℕ) → Without 32 p → parts p ≡ p ∷ []
unfolding parts onto
parts_last [] w = refl
parts_last (c ∷ p) w = rw (ne_eqb c 32 w.0) (ap (onto c) (parts_last p w.1))
