-- The foot of a text: how long it is, written in its pieces and read again.
use mathlib.Core.List.{List, [], ◌∷◌, ◌++◌, append_assoc}
use mathlib.Core.Path.{◌≡◌, ap, ◌∙◌}
use Prim.Native.Nat.{ℕ, ◌+◌, ◌≤◌}
use native.Mathlib.Omega.{arith}
use lib.ListN.{length, length-append}
use Rattle.text.specs.Text.{parts}
use Rattle.text.specs.Numbers.{decimal}
use Rattle.text.specs.Places.{Puts}
use Rattle.text.proofs.Decimal.{decimal_value}
use Rattle.text.proofs.Putting.{puts_then, puts_three}
use Rattle.text.proofs.Without.{Without, without_append, decimal_without, parts_space, parts_last}
use Rattle.wave_lines.specs.Foot.{foot_text, totals_of, totals_on}

-- its first part
abbrev word : List ℕ
word = 84 ∷ 79 ∷ 84 ∷ 65 ∷ 76 ∷ []

word_without : (c : ℕ) → c ≤ 32 → Without c word
word_without c h = ((λ e. omega arith), ((λ e. omega arith), ((λ e. omega arith), ((λ e. omega arith), ((λ e. omega arith), tt)))))

module _ (n m : ℕ) where
  pub length_foot : length (foot_text n m) ≡ 7 + (length (decimal n) + length (decimal m))
  unfolding foot_text
  length_foot = omega (arith, length-append (decimal n) (32 ∷ decimal m))

  pub foot_without : Without 10 (foot_text n m)
  unfolding foot_text
  foot_without =
      without_append 10 (84 ∷ 79 ∷ 84 ∷ 65 ∷ 76 ∷ 32 ∷ []) (decimal n ++ (32 ∷ decimal m))
      (without_append 10 word (32 ∷ []) (word_without 10 (omega arith)) ((λ e. omega arith), tt))
      (without_append 10 (decimal n) (32 ∷ decimal m) (decimal_without 10 (omega arith) n) ((λ e. omega arith), decimal_without 10 (omega arith) m))

  -- in its four pieces
  pub puts_foot : (at : ℕ) (out : List ℕ) → at + (7 + (length (decimal n) + length (decimal m))) ≤ length out
      → (r₁ r₂ r₃ r₄ : ℕ) (out₁ out₂ out₃ out₄ : List ℕ) → length out₁ ≡ length out → length out₂ ≡ length out₁
      → Puts (84 ∷ 79 ∷ 84 ∷ 65 ∷ 76 ∷ 32 ∷ []) at out r₁ out₁ → Puts (decimal n) r₁ out₁ r₂ out₂
      → Puts (32 ∷ []) r₂ out₂ r₃ out₃ → Puts (decimal m) r₃ out₃ r₄ out₄ → Puts (foot_text n m) at out r₄ out₄
  unfolding foot_text
  puts_foot at out room r₁ r₂ r₃ r₄ out₁ out₂ out₃ out₄ same same₂ p₁ p₂ p₃ p₄ =
      let first : r₁ ≡ at + 6 = p₁.next in
      let second : r₂ ≡ r₁ + length (decimal n) = p₂.next in
      let rest = puts_then (32 ∷ []) (decimal m) r₂ out₂ (omega arith) r₃ r₄ out₃ out₄ p₃ p₄ in
      puts_three (84 ∷ 79 ∷ 84 ∷ 65 ∷ 76 ∷ 32 ∷ []) (decimal n) (32 ∷ decimal m) at out (omega arith) r₁ r₂ r₄ out₁ out₂ out₄ same p₁ p₂ rest

  -- its parts, at the end of a line and before a space
  foot_last : parts (foot_text n m) ≡ word ∷ decimal n ∷ decimal m ∷ []
  unfolding foot_text
  foot_last =
      parts_space word (decimal n ++ (32 ∷ decimal m)) (word_without 32 (omega arith))
      ∙ ap (◌∷◌ word)
      (parts_space (decimal n) (decimal m) (decimal_without 32 (omega arith) n)
      ∙ ap (◌∷◌ (decimal n)) (parts_last (decimal m) (decimal_without 32 (omega arith) m)))

  foot_space : (rest : List ℕ) → parts (foot_text n m ++ (32 ∷ rest)) ≡ word ∷ decimal n ∷ decimal m ∷ parts rest
  unfolding foot_text
  foot_space rest =
      parts_space word ((decimal n ++ (32 ∷ decimal m)) ++ (32 ∷ rest)) (word_without 32 (omega arith))
      ∙ ap (◌∷◌ word)
      (ap parts (append_assoc (decimal n) (32 ∷ decimal m) (32 ∷ rest))
      ∙ parts_space (decimal n) (decimal m ++ (32 ∷ rest)) (decimal_without 32 (omega arith) n)
      ∙ ap (◌∷◌ (decimal n)) (parts_space (decimal m) rest (decimal_without 32 (omega arith) m)))

  -- the numbers on it
  pub totals_on-law : totals_on (foot_text n m) ≡ totals_of n m
  unfolding totals_on
  totals_on-law = rw (foot_last, decimal_value n, decimal_value m)

  pub totals_padded : (rest : List ℕ) → totals_on (foot_text n m ++ (32 ∷ rest)) ≡ totals_of n m
  unfolding totals_on
  totals_padded rest = rw (foot_space rest, decimal_value n, decimal_value m)
