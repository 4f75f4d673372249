-- What a row reads as by its spaces, and that a row that starts with a V is none of the forms.
use mathlib.Core.Bool.{Bool, true, false, cond, ◌&&◌}
use mathlib.Core.List.{List, [], ◌∷◌}
use mathlib.Core.Path.{◌≡◌, refl, ap, ◌∙◌}
use Prim.Native.Nat.{ℕ, ◌+◌, ◌-◌, ◌≤◌, ◌<◌}
use lib.Dec.{eqb}
use lib.ListN.{length, take, drop}
use Rattle.std.proofs.Common.{Option, Some, None}
use Rattle.text.specs.Text.{onto, parts}
use Rattle.text.specs.Numbers.{number}
use Rattle.text.specs.Places.{Finds}
use Rattle.text.proofs.Pieces.{parts_at, parts_end}
use Rattle.list_rows.specs.declared.row.Row.TheVariants.{Unreadable}
use Rattle.list_rows.specs.Rows.{is_byte, two_parts, three_parts, from_parts, row_of}

-- a row has some part
some_part : (s : List ℕ) → (p : (List ℕ) × List (List ℕ)) × (parts s ≡ p.0 ∷ p.1)
unfolding parts onto
some_part [] = (([], []), refl)
some_part (c ∷ cs) = go (eqb c 32) (some_part cs)
  where
    go : (b : Bool) → (p : (List ℕ) × List (List ℕ)) × (parts cs ≡ p.0 ∷ p.1)
        → (p : (List ℕ) × List (List ℕ)) × (cond b ([] ∷ parts cs) (onto c (parts cs)) ≡ p.0 ∷ p.1)
    go true r = (([], parts cs), refl)
    go false r = ((c ∷ r.0.0, r.0.1), ap (onto c) r.1)

-- a row of one part, of two, of three, of more: a, b and d are the places of its first spaces, or its length
module _ (s : List ℕ) (a : ℕ) (p : Finds s 0 32 a) where
  pub row_one : length s ≤ a → Unreadable ≡ row_of s
  unfolding row_of from_parts
  row_one h = rw (parts_end s 0 a p h)

  module _ (h : a < length s) (b : ℕ) (q : Finds s (a + 1) 32 b) where
    pub row_two : length s ≤ b → two_parts (take (a - 0) s) (number (take (b - (a + 1)) (drop (a + 1) s))) ≡ row_of s
    unfolding row_of from_parts
    row_two k = rw (parts_at s 0 a p h, parts_end s (a + 1) b q k)

    module _ (k : b < length s) (d : ℕ) (r : Finds s (b + 1) 32 d) where
      pub row_three : length s ≤ d
          → three_parts (take (a - 0) s) (number (take (b - (a + 1)) (drop (a + 1) s))) (number (take (d - (b + 1)) (drop (b + 1) s))) ≡ row_of s
      unfolding row_of from_parts
      row_three l = rw (parts_at s 0 a p h, parts_at s (a + 1) b q k, parts_end s (b + 1) d r l)

      pub row_more : d < length s → Unreadable ≡ row_of s
      unfolding row_of from_parts
      row_more l = rw (parts_at s 0 a p h, parts_at s (a + 1) b q k, parts_at s (b + 1) d r l, (some_part (drop (d + 1) s)).1)

-- a part that starts with a V is none of the letters
no_letter : (c : ℕ) (p : List ℕ) → eqb 86 c ≡ false → is_byte c (86 ∷ p) ≡ false
unfolding is_byte
no_letter c p e = rw e (none (eqb (length (86 ∷ p)) 1))
  where
    none : (b : Bool) → (b && false) ≡ false
    none true = refl
    none false = refl

v_two : (p : List ℕ) (n : Option ℕ) → two_parts (86 ∷ p) n ≡ Unreadable
unfolding two_parts
v_two p None = refl
v_two p (Some x) = rw (no_letter 78 p refl, no_letter 68 p refl)

v_three : (p : List ℕ) (n k : Option ℕ) → three_parts (86 ∷ p) n k ≡ Unreadable
unfolding three_parts
v_three p None k = refl
v_three p (Some a) None = refl
v_three p (Some a) (Some b) = rw (no_letter 43 p refl, no_letter 45 p refl, no_letter 75 p refl)

v_parts : (p : List ℕ) (ps : List (List ℕ)) → from_parts number ((86 ∷ p) ∷ ps) ≡ Unreadable
unfolding from_parts
v_parts p [] = refl
v_parts p (x ∷ []) = v_two p (number x)
v_parts p (x ∷ y ∷ []) = v_three p (number x) (number y)
v_parts p (x ∷ y ∷ z ∷ ps) = refl

pub v_row : (r : List ℕ) → row_of (86 ∷ r) ≡ Unreadable
unfolding row_of parts onto
v_row r = let s = some_part r in ap (λ (ps : List (List ℕ)). from_parts number (onto 86 ps)) s.1 ∙ v_parts s.0.0 s.0.1
