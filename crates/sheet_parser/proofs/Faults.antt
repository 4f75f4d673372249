-- One line alone is at fault.
use mathlib.Core.List.{List, ◌++◌, map, append_assoc}
use mathlib.Core.Logic.{inl, inr}
use mathlib.Core.Path.{◌≡◌, sym, ap, subst, ◌∙◌}
use Prim.Native.Nat.{ℕ, zero, suc, ◌+◌, ◌-◌, ◌<◌}
use native.Mathlib.Omega.{arith}
use Rattle.rule.proofs.Booleans.{lt_or_ge}
use Rattle.text.specs.Text.{joined}
use Rattle.wave_lines.specs.Lines.{line_by, lines_by}
use Rattle.sheet_writer.specs.Sheet.{line_text, head_text}
use Rattle.sheet_parser.specs.Sheets.{Begins, Fault}
use Rattle.sheet_parser.proofs.Sheets.{lines_next, lines_map}

-- lines that begin a sheet do so with the last left off
begins_fewer : {n : ℕ} {s : List ℕ} {c : ℕ} → Begins n s (suc c) → Begins n s c
begins_fewer {n} {s} {c} b =
    let w : ℕ → ℕ = b.wave in
    let last : List ℕ = line_text (line_by w n c) in
    record {
      count = b.count;
      wave = w;
      rest = last ++ b.rest;
      few = b.few;
      lines = omega (arith, b.lines);
      none_empty = λ i h. b.none_empty i (omega arith);
      text =
          b.text
          ∙ ap (λ (l : List ℕ). head_text b.count ++ l)
          (ap (λ (l : List ℕ). l ++ b.rest) (lines_map w n (suc c) ∙ lines_next w n c ∙ ap (λ (l : List ℕ). l ++ last) (sym (lines_map w n c)))
          ∙ append_assoc (joined (map line_text (lines_by w n c))) last b.rest);
    }

begins_below : {n : ℕ} {s : List ℕ} (c d : ℕ) → Begins n s (d + c) → Begins n s c
begins_below c zero b = let e : 0 + c ≡ c = omega arith in subst (Begins _ _) e b
begins_below c (suc d) b = let e : suc d + c ≡ suc (d + c) = omega arith in begins_below c d (begins_fewer (subst (Begins _ _) e b))

not_before : {n : ℕ} {s : List ℕ} {l k : ℕ} → Fault n s l → Fault n s k → l < k → ⊥
not_before {n} {s} {l} {k} a b h =
    let before = b.before (k - 2) (omega (arith, a.some)) in
    let e : k - 2 ≡ (k - 2 - (l - 1)) + (l - 1) = omega (arith, a.some) in
    a.at (l - 1) (omega (arith, a.some)) (begins_below (l - 1) (k - 2 - (l - 1)) (subst (Begins n s) e before))

pub fault_one : {n : ℕ} {s : List ℕ} {l k : ℕ} → Fault n s l → Fault n s k → l ≡ k
fault_one {l} {k} a b =
    elim (lt_or_ge l k) [
      | inl h ↦ absurd (not_before a b h)
      | inr g ↦ elim (lt_or_ge k l) [ inl h ↦ absurd (not_before b a h) | inr h ↦ omega arith ]
    ]
