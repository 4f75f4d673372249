-- How long a sheet is: each bank stands on it once, so the waves do not matter but for their number.
use mathlib.Core.List.{List, [], ◌∷◌, ◌++◌, map}
use mathlib.Core.Logic.{inl, inr}
use mathlib.Core.Path.{◌≡◌, refl, sym, ap, ◌∙◌}
use Prim.Native.Nat.{ℕ, zero, suc, ◌+◌, ◌*◌, ◌-◌, ◌≤◌, ◌<◌}
use native.Mathlib.Omega.{arith}
use lib.ListN.{length, length-append}
use Rattle.rule.specs.Lists.{upto}
use Rattle.rule.specs.Graph.{Graph}
use Rattle.rule.specs.Wave.{wave_count, banks_of}
use Rattle.rule.proofs.Booleans.{lt_or_ge}
use Rattle.rule.proofs.Lists.{length_upto}
use Rattle.memory.specs.Plan.{clash_count, Clashes}
use Rattle.text.specs.Text.{joined}
use Rattle.text.specs.Numbers.{decimal}
use Rattle.text.proofs.Decimal.{length_low, few_digits, length_decimal}
use Rattle.text.proofs.Joined.{texts_next}
use Rattle.wave_lines.specs.Lines.{Line, line_of, lines_of}
use Rattle.wave_lines.proofs.Shown.{total, total_append, shown_total, count_lines-law}
use Rattle.wave_lines.proofs.Plans.{few_waves, few_clashes}
use Rattle.wave_lines.proofs.Totals.{length_foot}
use Rattle.sheet_writer.specs.Sheet.{bank_text, line_text, head_text, last_text, sheet_of, sheet}
use Rattle.sheet_writer.proofs.Texts.{length_head, length_last}

-- the bytes of bank b on its line
size : ℕ → ℕ
size b = length (bank_text b)

texts_total : (bs : List ℕ) → length (joined (map bank_text bs)) ≡ total size bs
unfolding joined total size
texts_total [] = refl
texts_total (b ∷ bs) = omega (arith, length-append (bank_text b) (joined (map bank_text bs)), texts_total bs)

length_line : (l : Line) → length (line_text l) ≡ 2 + total size l.banks
unfolding line_text
length_line l = omega (arith, length-append (joined (map bank_text l.banks)) (10 ∷ []), texts_total l.banks)

length_lines : (G : Graph) (cs : List ℕ)
    → length (joined (map line_text (map (line_of G) cs))) ≡ 2 * length cs + total size (joined (map (banks_of G) cs))
unfolding joined total
length_lines G [] = refl
length_lines G (c ∷ cs) =
    let first = length-append (line_text (line_of G c)) (joined (map line_text (map (line_of G) cs))) in
    let sum = total_append size (banks_of G c) (joined (map (banks_of G) cs)) in
    omega (arith, length_line (line_of G c), length_lines G cs)

pub length_sheet : (G : Graph) → length (sheet G)
    ≡ length (head_text (wave_count G)) + (2 * wave_count G + length (joined (map bank_text (upto G.banks)))) + length (last_text G.banks (clash_count G))
unfolding sheet sheet_of lines_of
length_sheet G =
    let k : ℕ = wave_count G in
    let last : List ℕ = last_text G.banks (clash_count G) in
    let lines : List ℕ = joined (map line_text (map (line_of G) (upto k))) in
    let head : List ℕ = head_text (length (map (line_of G) (upto k))) in
    let parts = length-append head (lines ++ last) in
    let more = length-append lines last in
    let count = ap (λ (n : ℕ). length (head_text n)) (count_lines-law G) in
    omega (arith, length_lines G (upto k), length_upto k, shown_total G size, texts_total (upto G.banks))

-- the bytes of n banks: 2 for each, and 1 more for each from 10, from 100 and from 1,000 on
pub length_banks : (n : ℕ) → n ≤ 10000 → length (joined (map bank_text (upto n))) ≡ 2 * n + ((n - 10) + ((n - 100) + (n - 1000)))
length_banks zero h = unfold upto joined in refl
length_banks (suc n) h =
    let next : length (joined (map bank_text (upto (suc n)))) ≡ length (joined (map bank_text (upto n))) + length (bank_text n) =
    ap length (texts_next bank_text n) ∙ length-append (joined (map bank_text (upto n))) (bank_text n) in
    let one : length (bank_text n) ≡ 1 + length (decimal n) = unfold bank_text in omega arith in
    let before = length_banks n (omega arith) in
    elim (lt_or_ge n 10) [
      | inl l ↦ omega (arith, length_low n l)
      | inr g ↦ elim (lt_or_ge n 100) [
        | inl l ↦ omega (arith, length_decimal 1 n g l)
        | inr g ↦ elim (lt_or_ge n 1000) [
          | inl l ↦ omega (arith, length_decimal 2 n g l)
          | inr g ↦ omega (arith, length_decimal 3 n g (omega arith))
        ]
      ]
    ]

-- a number that is their closed form
pub closed_form : (n r : ℕ) → n ≤ 1024 → r ≡ 2 * n + ((n - 10) + ((n - 100) + (n - 1000)))
    → (r ≡ length (joined (map bank_text (upto n)))) × (r ≤ 4010)
closed_form n r h e = (e ∙ sym (length_banks n (omega arith)), omega arith)

-- the first line
pub head_low : (k : ℕ) → k < 10 → length (head_text k) ≡ 8
head_low k h = omega (arith, length_head k, length_low k h)

pub head_high : (k : ℕ) → 10 ≤ k → k < 100 → length (head_text k) ≡ 9
head_high k g h = omega (arith, length_head k, length_decimal 1 k g h)

-- the longest sheet: 1,024 banks in 24 waves, and 10,000 clashes or more
pub sheet_fits : (G : Graph) → Clashes G → length (sheet G) ≤ 4084
sheet_fits G clashes =
    let k : ℕ = wave_count G in
    let few : k ≤ 24 = few_waves G clashes in
    let most : G.banks ≤ 1024 = clashes.most in
    let head : length (head_text k) ≤ 9 =
    elim (lt_or_ge k 10) [ inl l ↦ omega (arith, head_low k l) | inr g ↦ omega (arith, head_high k g (omega arith)) ] in
    let banks = few_digits 3 G.banks (omega arith) in
    let clash = few_digits 4 (clash_count G) (omega (arith, few_clashes G clashes)) in
    omega (arith, length_sheet G, length_banks G.banks (omega arith), length_last G.banks (clash_count G), length_foot G.banks (clash_count G))
