-- An entry's field, as it is written: tag and length, edit number, and the two numbers.
use mathlib.Core.Bool.{Bool, true, false}
use mathlib.Core.List.{List, [], ◌∷◌, ◌++◌}
use mathlib.Core.Path.{◌≡◌, refl, sym, ap, ap₂, ◌∙◌, subst}
use Prim.Native.Nat.{ℕ, ◌+◌, ◌%◌, ◌≤◌, ◌<◌}
use native.Mathlib.Omega.{arith}
use lib.ListN.{length, get_or}
use Rattle.std.specs.Int.{w16, to_le_bytes}
use Rattle.text.specs.Places.{Puts}
use Rattle.text.proofs.Putting.{puts_three}
use Rattle.journal_fields.specs.Fields.{number_size, value_size, entry_size, two_bytes, field_bytes, number_bytes}
use Rattle.journal_fields.proofs.Entries.{length_number, length_value}

-- a value's length has no high byte
value_low : (w : Bool) → two_bytes (value_size w) ≡ value_size w ∷ 0 ∷ []
unfolding two_bytes
value_low true = refl
value_low false = refl

-- two numbers as four bytes, each as `to_le_bytes` gives them
bytes_of : (x : ℕ) (b : List ℕ) → x < 65536 → b ≡ to_le_bytes w16 x → get_or b 0 0 ∷ get_or b 1 0 ∷ [] ≡ two_bytes x
unfolding two_bytes
bytes_of x b h e = rw e (ap (λ (k : ℕ). x % 256 ∷ k ∷ []) (omega arith))

pub pair_of : (x y : ℕ) (a b : List ℕ) → x < 65536 → y < 65536 → a ≡ to_le_bytes w16 x → b ≡ to_le_bytes w16 y
    → get_or a 0 0 ∷ get_or a 1 0 ∷ get_or b 0 0 ∷ get_or b 1 0 ∷ [] ≡ two_bytes x ++ two_bytes y
pair_of x y a b h k d e = ap₂ ◌++◌ (bytes_of x a h d) (bytes_of y b k e)

module _ (w : Bool) (tag i x y at : ℕ) (out : List ℕ) (room : at + entry_size w ≤ length out) (v : ℕ) (size : v ≡ value_size w) where
  abbrev pair : List ℕ
  pair = two_bytes x ++ two_bytes y

  text : (tag ∷ v ∷ 0 ∷ []) ++ (number_bytes w i ++ pair) ≡ field_bytes tag (number_bytes w i ++ pair)
  unfolding field_bytes
  text =
      ap (λ (k : ℕ). tag ∷ k ∷ 0 ∷ (number_bytes w i ++ pair)) size
      ∙ ap (λ (l : List ℕ). tag ∷ (l ++ (number_bytes w i ++ pair))) (sym (value_low w))
      ∙ ap (λ (k : ℕ). tag ∷ (two_bytes k ++ (number_bytes w i ++ pair))) (sym (length_value w i x y))

  module _ (r₁ : ℕ) (out₁ : List ℕ) (l₁ : length out₁ ≡ length out) (head : Puts (tag ∷ v ∷ 0 ∷ []) at out r₁ out₁) where
    -- room for the number, and then for the pair
    pub number_room : r₁ + number_size w ≤ length out₁
    number_room = omega (arith, head.next, l₁, room)

    module _ (r₂ : ℕ) (out₂ : List ℕ) (l₂ : length out₂ ≡ length out₁) (number : Puts (number_bytes w i) r₁ out₁ r₂ out₂) where
      pub pair_room : r₂ + 4 ≤ length out₂
      pair_room = omega (arith, head.next, number.next, length_number w i, l₁, l₂, room)

      pub field_put : (r₃ : ℕ) (out₃ four : List ℕ) → four ≡ pair → Puts four r₂ out₂ r₃ out₃ → Puts (field_bytes tag (number_bytes w i ++ pair)) at out r₃ out₃
      unfolding two_bytes
      field_put r₃ out₃ four is p =
          subst (λ (l : List ℕ). Puts l at out r₃ out₃) text
          (puts_three (tag ∷ v ∷ 0 ∷ []) (number_bytes w i) pair at out (omega (arith, length_number w i, room)) r₁ r₂ r₃ out₁ out₂ out₃ l₁ head number (rw is at p))
