-- The sheet of memory that holds a plan.
use mathlib.Core.List.{List, ◌++◌, map, map-map}
use mathlib.Core.Path.{◌≡◌, sym, ap, ap₂, ◌∙◌}
use Prim.Native.Nat.{ℕ, ◌+◌, ◌*◌, ◌≤◌}
use native.Mathlib.Omega.{arith}
use lib.ListN.{length, length-append}
use Rattle.rule.specs.Lists.{upto}
use Rattle.rule.specs.Graph.{Graph}
use Rattle.memory.specs.declared.Tally.{Tally}
use Rattle.memory.specs.Cells.{over}
use Rattle.memory.specs.Plan.{Slices, clash_count, PlanOf}
use Rattle.text.specs.Text.{joined}
use Rattle.text.specs.Places.{Puts}
use Rattle.text.proofs.Putting.{put_front, puts_three}
use Rattle.wave_lines.specs.Lines.{Line, lines_of}
use Rattle.wave_lines.specs.Foot.{foot_text}
use Rattle.wave_lines.specs.inner.Cells.{line_in}
use Rattle.wave_lines.proofs.Plans.{plan_banks, plan_count, plan_clashes, lines_are}
use Rattle.wave_lines.proofs.Shown.{count_lines-law}
use Rattle.sheet_writer.specs.Sheet.{bank_text, line_text, head_text, last_text, sheet_of, sheet}
use Rattle.sheet_writer.specs.inner.Cells.{sheet_wave, sheet_waves}
use Rattle.sheet_writer.proofs.Texts.{length_last}
use Rattle.sheet_writer.proofs.Lengths.{length_sheet}

-- what memory that holds the plan of G says of its sheet
module _ (G : Graph) (s : Slices) (t : Tally) (p : PlanOf G s t) where
  abbrev head : List ℕ
  head = head_text t.waves

  abbrev lines : List ℕ
  lines = sheet_waves s.waves t.banks t.waves

  lines_text-law : lines ≡ joined (map line_text (lines_of G))
  unfolding sheet_waves sheet_wave
  lines_text-law =
      ap joined (sym (map-map line_text (line_in s.waves t.banks) (upto t.waves))) ∙ ap (λ (ls : List Line). joined (map line_text ls)) (lines_are G s t p)

  abbrev last : List ℕ
  last = last_text t.banks t.clashes

  last_text-law : last ≡ last_text G.banks (clash_count G)
  last_text-law = ap₂ last_text (plan_banks G s t p) (plan_clashes G s t p)

  pub sheet_is : head_text t.waves ++ (sheet_waves s.waves t.banks t.waves ++ last_text t.banks t.clashes) ≡ sheet G
  unfolding sheet sheet_of
  sheet_is =
      ap₂ (λ (h ls : List ℕ). h ++ ls) (ap head_text (plan_count G s t p ∙ sym (count_lines-law G))) (ap₂ (λ (ls f : List ℕ). ls ++ f) lines_text-law last_text-law)

  pub sheet_parts : length (head_text t.waves) + (length (sheet_waves s.waves t.banks t.waves) + length (last_text t.banks t.clashes))
      ≡ length (sheet G)
  sheet_parts = omega (arith, length-append head (lines ++ last), length-append lines last, ap length sheet_is)

  -- the bytes before the foot, those of the foot, and its line feed
  pub sheet_bytes : (before foot : ℕ) → before ≡ length (head_text t.waves) + (2 * t.waves + length (joined (map bank_text (upto t.banks))))
      → foot ≡ length (foot_text t.banks t.clashes) → before + foot + 1 ≡ length (sheet G)
  sheet_bytes before foot e f =
      let all : length head + (2 * t.waves + length (joined (map bank_text (upto t.banks)))) + length last ≡ length (sheet G) =
      rw (plan_count G s t p, plan_banks G s t p, plan_clashes G s t p) (sym (length_sheet G)) in
      omega (arith, all, length_last t.banks t.clashes)

  pub sheet_written : (out : List ℕ) → length (sheet G) ≤ length out → (r₁ r₂ r₃ : ℕ) (out₁ out₂ out₃ : List ℕ) → length out₁ ≡ length out
      → Puts (head_text t.waves) 0 out r₁ out₁ → Puts (sheet_waves s.waves t.banks t.waves) r₁ out₁ r₂ out₂
      → Puts (last_text t.banks t.clashes) r₂ out₂ r₃ out₃ → out₃ ≡ over (sheet G) out
  unfolding over
  sheet_written out room r₁ r₂ r₃ out₁ out₂ out₃ same a b c =
      let all = puts_three head lines last 0 out (omega (arith, sheet_parts)) r₁ r₂ r₃ out₁ out₂ out₃ same a b c in
      all.left ∙ put_front (head ++ (lines ++ last)) out ∙ ap (λ (text : List ℕ). over text out) sheet_is
