-- The poster of memory that holds a plan: its lines are those of the wave cells.
use mathlib.Core.List.{List, [], ◌∷◌, ◌++◌, map, flat_map, append_assoc, append-nil}
use mathlib.Core.Path.{◌≡◌, refl, sym, ap, ap₂, ◌∙◌}
use Prim.Native.Nat.{ℕ, ◌+◌, ◌*◌, ◌-◌, ◌≤◌}
use native.Mathlib.Omega.{arith}
use lib.ListN.{length, replicate, length-append}
use Rattle.rule.specs.Lists.{upto}
use Rattle.rule.specs.Graph.{Graph}
use Rattle.memory.specs.declared.Tally.{Tally}
use Rattle.memory.specs.Cells.{over}
use Rattle.memory.specs.Plan.{Slices, PlanOf}
use Rattle.text.specs.Text.{joined}
use Rattle.text.specs.Places.{Puts}
use Rattle.text.proofs.Joined.{joined_append}
use Rattle.text.proofs.Putting.{put_front, puts_three}
use Rattle.wave_lines.specs.Lines.{lines_of}
use Rattle.wave_lines.specs.Foot.{foot_text}
use Rattle.wave_lines.specs.inner.Cells.{members_of, line_in}
use Rattle.wave_lines.proofs.Plans as WaveLines
use Rattle.poster_lines.specs.Poster.{padded, wave_lines, foot_line, poster_lines, filled, poster}
use Rattle.poster_lines.specs.inner.Lines.{lines_with}
use Rattle.poster_lines.proofs.Columns.{length_padded, length_rows}
use Rattle.poster_writer.specs.inner.Cells.{poster_waves, cell_lines}
use Rattle.poster_writer.proofs.Cells.{text_is}
use Rattle.poster_writer.proofs.Pages.{pages, filled_text}
use Rattle.poster_writer.proofs.ReadBack.{foot_short}
use Rattle.poster_writer.proofs.Shown.{waves_41, length_poster}

flat_map_map : {A B : Type 0} (f : ℕ → List B) (g : A → List B) (h : ℕ → A) → ((x : ℕ) → f x ≡ g (h x)) → (xs : List ℕ)
    → flat_map f xs ≡ flat_map g (map h xs)
unfolding flat_map
flat_map_map f g h e [] = refl
flat_map_map {B = B} f g h e (x ∷ xs) = ap₂ (λ (l r : List B). l ++ r) (e x) (flat_map_map f g h e xs)

module _ (G : Graph) (s : Slices) (t : Tally) (p : PlanOf G s t) where
  abbrev cell_lines-law : List (List ℕ)
  cell_lines-law = cell_lines s.waves t.banks t.waves

  waves_are : cell_lines-law ≡ flat_map wave_lines (lines_of G)
  unfolding cell_lines lines_with wave_lines
  waves_are =
      flat_map_map (λ c. lines_with c (members_of s.waves c t.banks)) wave_lines (line_in s.waves t.banks) (λ c. refl) (upto t.waves)
      ∙ ap (flat_map wave_lines) (WaveLines.lines_are G s t p)

  pub lines_are : cell_lines s.waves t.banks t.waves ++ (foot_line t.banks t.clashes ∷ []) ≡ poster_lines G
  unfolding poster_lines
  lines_are =
      ap₂ (λ (ls : List (List ℕ)) (foot : List ℕ). ls ++ (foot ∷ [])) waves_are
      (ap₂ foot_line (WaveLines.plan_banks G s t p) (WaveLines.plan_clashes G s t p))

  count_are : length (poster_lines G) ≡ length cell_lines-law + 1
  count_are = sym (ap length lines_are) ∙ length-append cell_lines-law (foot_line t.banks t.clashes ∷ [])

  -- the poster's length by the count of lines
  pub plan_bytes : length (poster G) ≡ 2050 * pages (length (cell_lines s.waves t.banks t.waves) + 1)
  plan_bytes = length_poster G p.clashes ∙ ap (λ (n : ℕ). 2050 * pages n) count_are

  pub plan_text-law : length (poster_waves s.waves t.banks t.waves) ≡ 41 * length (cell_lines s.waves t.banks t.waves)
  plan_text-law =
      ap length (text_is s.waves t.banks t.waves) ∙ rw waves_are (length_rows (flat_map wave_lines (lines_of G)) (waves_41 G p.clashes))

  -- the foot has room in its line
  pub plan_foot : length (foot_text t.banks t.clashes) ≤ 40
  plan_foot =
      let most = WaveLines.plan_most G s t p in
      let few = WaveLines.few_clashes G p.clashes in
      omega (arith, foot_short t.banks t.clashes (omega arith) (omega (arith, WaveLines.plan_clashes G s t p)))

  pub foot_bytes : length (foot_line t.banks t.clashes) ≡ 41
  unfolding foot_line
  foot_bytes = length_padded (foot_text t.banks t.clashes) plan_foot

  -- the waves, then the foot, then the filling
  pub poster_written : (out : List ℕ) → length (poster G) ≤ length out → (lines : ℕ) → lines ≡ length (cell_lines s.waves t.banks t.waves) + 1
      → (r₁ r₂ r₃ : ℕ) (out₁ out₂ out₃ : List ℕ) → length out₁ ≡ length out → Puts (poster_waves s.waves t.banks t.waves) 0 out r₁ out₁
      → Puts (foot_line t.banks t.clashes) r₁ out₁ r₂ out₂
      → Puts (joined (replicate (50 * pages lines - lines) (padded []))) r₂ out₂ r₃ out₃
      → out₃ ≡ over (poster G) out
  unfolding poster over joined
  poster_written out room lines e r₁ r₂ r₃ out₁ out₂ out₃ kept a b c =
      let text : List ℕ = poster_waves s.waves t.banks t.waves in
      let foot : List ℕ = foot_line t.banks t.clashes in
      let same : lines ≡ length (poster_lines G) = e ∙ sym count_are in
      let filling : List ℕ = joined (replicate (50 * pages lines - lines) (padded [])) in
      let above : text ++ foot ≡ joined (poster_lines G) =
      ap₂ (λ (l r : List ℕ). l ++ r) (text_is s.waves t.banks t.waves) (sym (append-nil foot))
      ∙ sym (joined_append cell_lines-law (foot ∷ []))
      ∙ ap joined lines_are in
      let whole : text ++ (foot ++ filling) ≡ joined (filled (poster_lines G)) =
      sym (append_assoc text foot filling)
      ∙ ap₂ (λ (l : List ℕ) (n : ℕ). l ++ joined (replicate (50 * pages n - n) (padded []))) above same
      ∙ sym (filled_text (poster_lines G)) in
      let long = length-append text (foot ++ filling) in
      let more = length-append foot filling in
      let all = puts_three text foot filling 0 out (omega (arith, ap length whole)) r₁ r₂ r₃ out₁ out₂ out₃ kept a b c in
      all.left ∙ put_front (text ++ (foot ++ filling)) out ∙ ap (λ (l : List ℕ). over l out) whole
