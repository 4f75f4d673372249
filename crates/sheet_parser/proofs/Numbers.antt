-- Numbers in decimal as they are read: digit by digit, and that where no digit follows a text is that of one number alone.
use mathlib.Core.Bool.{true, ◌&&◌}
use mathlib.Core.List.{List, [], ◌∷◌, ◌++◌, append_assoc}
use mathlib.Core.Logic.{inl, inr}
use mathlib.Core.Path.{◌≡◌, refl, sym, ap, ap₂, subst, ◌∙◌}
use Prim.Native.Nat.{ℕ, suc, ◌+◌, ◌*◌, ◌-◌, ◌/◌, ◌%◌, ◌≤◌, ◌<◌}
use native.Mathlib.Numerals.{add-one}
use native.Mathlib.Omega.{arith}
use lib.Dec.{leb}
use lib.ListN.{length, get_or, drop, length-drop, drop_of_length-le, get_or-append}
use lib.Seq.{drop-cons, get_or-drop}
use borrow.Author.Tests.{leb-true}
use Rattle.rule.proofs.Booleans.{both_true, lt_or_ge}
use Rattle.text.specs.Numbers.{digits, value_from, decimal}
use Rattle.text.proofs.Decimal.{decimal_low, decimal_high, length_low, some_digit, few_digits, length_decimal, decimal_digits, decimal_value, first_digit}
use Rattle.sheet_parser.specs.inner.Numbers.{ByteAt, DigitAt, NoDigit, Begun, Stopped, NumberAt, NoNumber}

-- the first of a list, and the rest
pub cons_head : {x y : ℕ} {xs ys : List ℕ} → x ∷ xs ≡ y ∷ ys → x ≡ y
cons_head e = ap (λ (l : List ℕ). get_or l 0 0) e

pub cons_tail : {x y : ℕ} {xs ys : List ℕ} → x ∷ xs ≡ y ∷ ys → xs ≡ ys
cons_tail e = ap (λ (l : List ℕ). drop 1 l) e

-- a list of digits
digit_head : (c : ℕ) (cs : List ℕ) → digits (c ∷ cs) ≡ true → (48 ≤ c) × (c ≤ 57) × (digits cs ≡ true)
unfolding digits
digit_head c cs e =
    let p = both_true (leb 48 c) (leb c 57 && digits cs) e in
    let q = both_true (leb c 57) (digits cs) p.1 in
    (leb-true 48 c p.0, leb-true c 57 q.0, q.1)

-- digits up to where none follows
span_same : (a b X Y : List ℕ) → digits a ≡ true → digits b ≡ true → NoDigit X → NoDigit Y → a ++ X ≡ b ++ Y → (a ≡ b) × (X ≡ Y)
span_same [] [] X Y da db nx ny e = (refl, e)
span_same [] (y ∷ b) X Y da db nx ny e = let h = digit_head y b db in absurd (subst NoDigit e nx h.0 h.1)
span_same (x ∷ a) [] X Y da db nx ny e = let h = digit_head x a da in absurd (subst NoDigit (sym e) ny h.0 h.1)
span_same (x ∷ a) (y ∷ b) X Y da db nx ny e =
    let r = span_same a b X Y (digit_head x a da).2 (digit_head y b db).2 nx ny (cons_tail e) in
    (ap₂ ◌∷◌ (cons_head e) r.0, r.1)

span_longer : (a b X Y : List ℕ) (d : ℕ) → digits a ≡ true → digits b ≡ true → NoDigit X → 48 ≤ d → d ≤ 57 → a ++ X ≡ b ++ (d ∷ Y) → length b < length a
span_longer [] [] X Y d da db nx l h e = absurd (subst NoDigit e nx l h)
span_longer [] (y ∷ b) X Y d da db nx l h e = let g = digit_head y b db in absurd (subst NoDigit e nx g.0 g.1)
span_longer (x ∷ a) [] X Y d da db nx l h e = omega arith
span_longer (x ∷ a) (y ∷ b) X Y d da db nx l h e =
    omega (arith, span_longer a b X Y d (digit_head x a da).2 (digit_head y b db).2 nx l h (cons_tail e))

-- a text of two numbers, where no digit follows either
pub decimal_same : (x v : ℕ) (X Y : List ℕ) → NoDigit X → NoDigit Y → decimal x ++ X ≡ decimal v ++ Y → (x ≡ v) × (X ≡ Y)
decimal_same x v X Y nx ny e =
    let r = span_same (decimal x) (decimal v) X Y (decimal_digits x) (decimal_digits v) nx ny e in
    (sym (decimal_value x) ∙ ap (value_from 0) r.0 ∙ decimal_value v, r.1)

-- a byte and what follows it
module _ {s : List ℕ} {i : ℕ} where
  pub byte_then : {c : ℕ} → ByteAt s i c → drop i s ≡ c ∷ drop (i + 1) s
  byte_then b = rw (add-one i) (drop-cons s i 0 b.inside ∙ ap (λ (x : ℕ). x ∷ drop (suc i) s) b.is)

  pub then_byte : {c : ℕ} {rest : List ℕ} → drop i s ≡ c ∷ rest → ByteAt s i c
  then_byte e = record {
    inside = omega (arith, ap length e, length-drop i s);
    is = let place : i ≡ i + 0 = omega arith in ap (λ (k : ℕ). get_or s k 0) place ∙ sym (get_or-drop i s 0 0) ∙ ap (λ (l : List ℕ). get_or l 0 0) e;
  }

  digit_then : DigitAt s i → drop i s ≡ get_or s i 0 ∷ drop (i + 1) s
  digit_then d = byte_then (record { inside = d.inside; is = refl })

  -- a digit, or none
  pub no_digit : (DigitAt s i → ⊥) → NoDigit (drop i s)
  no_digit n =
      elim (lt_or_ge i (length s)) [
        | inl l ↦ subst NoDigit (sym (drop-cons s i 0 l)) (λ a b. n (record { inside = l; low = a; high = b }))
        | inr g ↦ subst NoDigit (sym (drop_of_length-le s g)) tt
      ]

  starts_digit : (p rest : List ℕ) → digits p ≡ true → 1 ≤ length p → drop i s ≡ p ++ rest → DigitAt s i
  starts_digit [] rest d l e = absurd (omega arith)
  starts_digit (y ∷ p) rest d l e =
      let h = digit_head y p d in
      let b = then_byte e in
      record { inside = b.inside; low = rw b.is h.0; high = rw b.is h.1 }

  pub no_number : (DigitAt s i → ⊥) → NoNumber s i
  no_number n x rest small ends e = n (starts_digit (decimal x) rest (decimal_digits x) (some_digit x) e)

-- the first digit, which is not 0
pub begun_first : {s : List ℕ} {at : ℕ} → DigitAt s at → 49 ≤ get_or s at 0 → Begun s at (get_or s at 0 - 48) (at + 1)
begun_first {s} {at} d l =
    let x : ℕ = get_or s at 0 in
    let h : x - 48 < 10 = omega (arith, d.high) in
    let e : 48 + (x - 48) ≡ x = omega arith in
    record {
      text = rw (decimal_low (x - 48) h, e) (digit_then d);
      some = omega arith;
      small = omega arith;
      after = omega arith;
      inside = omega (arith, d.inside);
    }

module _ {s : List ℕ} {at v next : ℕ} (b : Begun s at v next) where
  -- one more
  pub begun_next : v < 1000 → DigitAt s next → Begun s at (10 * v + (get_or s next 0 - 48)) (next + 1)
  begun_next l d =
      let x : ℕ = get_or s next 0 in
      let y : ℕ = 10 * v + (x - 48) in
      let low : 48 ≤ x = d.low in
      let high : x ≤ 57 = d.high in
      let tens : y / 10 ≡ v = omega (arith, b.some) in
      let one : 48 + y % 10 ≡ x = omega (arith, b.some) in
      record {
        text =
            b.text ∙ ap (λ (l : List ℕ). decimal v ++ l) (digit_then d)
            ∙ sym (append_assoc (decimal v) (x ∷ []) (drop (next + 1) s))
            ∙ sym (ap (λ (l : List ℕ). l ++ drop (next + 1) s)
            (decimal_high y (omega (arith, b.some)) ∙ ap₂ (λ (t o : ℕ). decimal t ++ (o ∷ [])) tens one));
        some = omega (arith, b.some);
        small = omega arith;
        after = omega (arith, b.after);
        inside = omega (arith, d.inside);
      }

  -- it does not go on, or has four digits; a fifth is that of no number up to 9,999
  pub stopped : ((v < 1000) × DigitAt s next → ⊥) → Stopped s at v next
  stopped n = record {
    text = b.text;
    small = b.small;
    after = b.after;
    inside = b.inside;
    whole = λ d x rest small ends e.
        elim (lt_or_ge v 1000) [
          | inl l ↦ n (l, d)
          | inr g ↦
              let longer = span_longer (decimal x) (decimal v) rest (drop (next + 1) s) (get_or s next 0) (decimal_digits x) (decimal_digits v) ends d.low d.high
              (sym e ∙ b.text ∙ ap (λ (l : List ℕ). decimal v ++ l) (digit_then d)) in
              omega (arith, longer, few_digits 3 x (omega arith), length_decimal 3 v g (omega (arith, b.small)))
        ];
  }

-- a 0 is a number by itself
pub zero_alone : {s : List ℕ} {at : ℕ} → DigitAt s at → get_or s at 0 ≡ 48 → Stopped s at 0 (at + 1)
zero_alone {s} {at} d z =
    let text : drop at s ≡ decimal 0 ++ drop (at + 1) s =
    rw (decimal_low 0 (omega arith)) (digit_then d ∙ ap (λ (x : ℕ). x ∷ drop (at + 1) s) z) in
    record {
      text = text;
      small = omega arith;
      after = omega arith;
      inside = omega (arith, d.inside);
      whole = λ f x rest small ends e.
          let longer = span_longer (decimal x) (decimal 0) rest (drop (at + 1 + 1) s) (get_or s (at + 1) 0) (decimal_digits x) (decimal_digits 0) ends f.low f.high
          (sym e ∙ text ∙ ap (λ (l : List ℕ). decimal 0 ++ l) (digit_then f)) in
          let first : get_or (decimal x) 0 0 ≡ 48 =
          sym (get_or-append (decimal x) rest 0 0 (some_digit x)) ∙ ap (λ (l : List ℕ). get_or l 0 0) (sym e ∙ digit_then d) ∙ z in
          elim (lt_or_ge x 10) [
            | inl l ↦ omega (arith, longer, length_low x l, length_low 0 (omega arith))
            | inr g ↦ omega (arith, first_digit x (omega arith))
          ];
    }

-- no digit follows
pub number_at : {s : List ℕ} {at v next : ℕ} → Stopped s at v next → (DigitAt s next → ⊥) → NumberAt s at v next
number_at p n = record { text = p.text; ends = no_digit n; small = p.small; after = p.after; inside = p.inside }
