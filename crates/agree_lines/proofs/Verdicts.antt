-- The verdict's parts: what its number says, the planner's own sheet, the wave of a bank, and the lines by the number.
use mathlib.Core.Bool.{Bool, true, false, cond, ◌&&◌, not}
use mathlib.Core.List.{List, [], ◌∷◌}
use mathlib.Core.Logic.{inl, inr}
use mathlib.Core.Path.{◌≡◌, refl, sym, ap, subst, ◌∙◌}
use native.Mathlib.Omega.{arith}
use Prim.Native.Nat.{ℕ, ◌≤◌, ◌<◌}
use lib.Dec.{leb, eqb}
use Rattle.std.specs.Cmp.Lexicographic.{pointwise}
use Rattle.std.specs.Prelude.{Result, Ok, Err}
use lib.ListN.{length, get_or, take, drop, length-append}
use lib.Seq.{take_at}
use borrow.Author.Tests.{leb-true, eq-eqb, ne_eqb}
use Rattle.rule.specs.declared.refusal.Refusal.{Refusal}
use Rattle.rule.proofs.Refusals.{refused_some}
use Rattle.memory.specs.declared.Tally.{Tally}
use Rattle.memory.specs.Cells.{over}
use Rattle.memory.specs.Plan.{Slices, long_enough, graph_in, holds}
use Rattle.planner.specs.Questions.{first_no}
use Rattle.planner.specs.Calls.{plan_number}
use Rattle.planner.proofs.Numbers.{number_plan}
use Rattle.text.specs.Places.{Puts}
use Rattle.wave_lines.specs.Calls.{TextResult, text_result, written, write_text}
use Rattle.wave_lines.proofs.Writing.{text_fits}
use Rattle.sheet_writer.specs.Sheet.{sheet}
use Rattle.sheet_writer.proofs.Theorems.{sheet_fits}
use Rattle.sheet_parser.specs.Sheets.{wave_read, waves_count, same_bytes, is_sheet}
use Rattle.sheet_parser.specs.inner.Lines.{SheetRead}
use Rattle.sheet_parser.proofs.Decision.{read_wave, accepted}
use Rattle.sheet_reader.specs.Calls.{any_clash, sheet_number, Verdict, Answered}
use Rattle.sheet_reader.proofs.Theorems.{named_clash}
use Rattle.list_program.specs.Answers.{refusal_text}
use Rattle.agree_lines.specs.Lines.{accepted_text, no_sheet_text, many_text, clash_text, waves_text}
use Rattle.agree_lines.specs.Verdicts.{is_own, verdict_text}

-- what the number says
module _ (s : Slices) (t : Tally) (bytes : List ℕ) where
  plan_by : (a b c : Bool) (r : ℕ) → cond a (cond b (cond c r 3) 2) 1 ≡ 0 → ◌≡◌ {A = ℕ} (cond a (cond b (cond c 0 3) 2) 1) 0
  plan_by true true true r e = refl
  plan_by true true false r e = absurd (omega arith)
  plan_by true false c r e = absurd (omega arith)
  plan_by false b c r e = absurd (omega arith)

  pub plan_held : sheet_number s t bytes ≡ 0 → plan_number s t ≡ 0
  unfolding sheet_number plan_number first_no
  plan_held e =
      plan_by (leb t.banks 1024) (long_enough t.banks s) (holds s t)
      (cond (is_sheet t.banks t.clashes bytes)
      (cond (not (any_clash (graph_in t.banks s) (wave_read bytes)) && leb (waves_count bytes) t.waves) 0 27) 26) e

  sheet_by-law : (a b c d : Bool) (r : ℕ) → cond a (cond b (cond c (cond d r 26) 3) 2) 1 ≡ 27
      → (a ≡ true) × (d ≡ true) × ◌≡◌ {A = ℕ} (cond a (cond b (cond c 0 3) 2) 1) 0
  sheet_by-law true true true true r e = (refl, refl, refl)
  sheet_by-law true true true false r e = absurd (omega arith)
  sheet_by-law true true false d r e = absurd (omega arith)
  sheet_by-law true false c d r e = absurd (omega arith)
  sheet_by-law false b c d r e = absurd (omega arith)

  module _ (judged : sheet_number s t bytes ≡ 27) where
    read_by : (leb t.banks 1024 ≡ true) × (is_sheet t.banks t.clashes bytes ≡ true) × (plan_number s t ≡ 0)
    unfolding sheet_number plan_number first_no
    read_by =
        sheet_by-law (leb t.banks 1024) (long_enough t.banks s) (holds s t) (is_sheet t.banks t.clashes bytes)
        (cond (not (any_clash (graph_in t.banks s) (wave_read bytes)) && leb (waves_count bytes) t.waves) 0 27) judged

    pub sheet_read : (is_sheet t.banks t.clashes bytes ≡ true) × (t.banks ≤ 1024)
    sheet_read = (read_by.1, leb-true t.banks 1024 read_by.0)

    pub plan_judged : plan_number s t ≡ 0
    plan_judged = read_by.2

-- the library's comparison is the definition's
same_pointwise : (xs ys : List ℕ) → pointwise eqb xs ys ≡ same_bytes xs ys
unfolding same_bytes
same_pointwise [] [] = refl
same_pointwise [] (y ∷ ys) = refl
same_pointwise (x ∷ xs) [] = refl
same_pointwise (x ∷ xs) (y ∷ ys) = ap (λ (b : Bool). eqb x y && b) (same_pointwise xs ys)

-- the planner's own sheet
module _ (s : Slices) (t : Tally) (held : plan_number s t ≡ 0) where
  abbrev own : List ℕ
  own = sheet (graph_in t.banks s)

  module _ (out : List ℕ) (room : 4084 ≤ length out) where
    is : written 0 (length own) (over own out) ≡ write_text sheet s t out
    is =
        let fits = sheet_fits (graph_in t.banks s) (number_plan s t held).clashes in
        text_fits sheet s t out (sym held) (omega arith) own refl

    -- it is written
    pub own_written : (e : Refusal) {out' : List ℕ} → text_result (Err e) out' ≡ write_text sheet s t out → ⊥
    own_written e wrote = refused_some e (ap (λ (r : TextResult). r.answer.number) (wrote ∙ sym is))

    module _ {n : ℕ} {out' : List ℕ} (wrote : text_result (Ok n) out' ≡ write_text sheet s t out) where
      own_length : n ≡ length (sheet (graph_in t.banks s))
      own_length = ap (λ (r : TextResult). r.answer.length) (wrote ∙ sym is)

      pub own_inside : n ≤ length out'
      unfolding over
      own_inside =
          omega (arith, own_length, ap (λ (r : TextResult). length r.out) (wrote ∙ sym is), length-append own (drop (length own) out))

      pub own_bytes : take n out' ≡ sheet (graph_in t.banks s)
      unfolding over
      own_bytes =
          ap (λ (r : TextResult). take r.answer.length r.out) (wrote ∙ sym is)
          ∙ take_at own (drop (length own) out) (length own) refl

  pub own_text : (bytes : List ℕ) {part : List ℕ} {r : Bool} → part ≡ sheet (graph_in t.banks s) → r ≡ pointwise eqb bytes part → r ≡ is_own s t bytes
  unfolding is_own
  own_text bytes {part} e compared = compared ∙ same_pointwise bytes part ∙ ap (same_bytes bytes) e

-- the wave of a bank on a sheet
module _ (n m : ℕ) (bytes : List ℕ) (sheet : is_sheet n m bytes ≡ true) where
  pub read_ok : (cells : List ℕ) (r : Result ℕ ℕ) → SheetRead r bytes cells n m → (b : ℕ) → b < n → (get_or cells b 0 ≡ wave_read bytes b) × (get_or cells b 0 < 24)
  read_ok cells (Ok k) read b l = (sym (read_wave read b l), omega (arith, read.waves.below b l, read.waves.few))
  read_ok cells (Err line) read b l = absurd (read.0 _ _ (accepted n m bytes sheet))

-- the lines by the number
module _ (s : Slices) (t : Tally) (bytes : List ℕ) (v : Verdict) where
  pub text_accepted : {own : Bool} → own ≡ is_own s t bytes → v.number ≡ 0 → accepted_text own ≡ verdict_text s t bytes v
  unfolding verdict_text
  text_accepted is e = ap accepted_text is ∙ rw e

  pub text_no_sheet : v.number ≡ 26 → no_sheet_text v.line ≡ verdict_text s t bytes v
  unfolding verdict_text
  text_no_sheet e = rw e

  pub text_waves : v.number ≡ 27 → waves_text v.first v.second (wave_read bytes v.first) t.waves ≡ verdict_text s t bytes v
  unfolding verdict_text
  text_waves e = rw e

  pub text_refused : (v.number ≡ 0 → ⊥) → (v.number ≡ 26 → ⊥) → (v.number ≡ 27 → ⊥) → refusal_text v.number 0 ≡ verdict_text s t bytes v
  unfolding verdict_text
  text_refused a b c = rw (ne_eqb v.number 0 a, ne_eqb v.number 26 b, ne_eqb v.number 27 c)

-- two banks that are named
pub bank_below : (s : Slices) (t : Tally) (bytes : List ℕ) {v : Verdict} → Answered s t bytes v → v.number ≡ 27 → v.first < v.second → v.first < t.banks
unfolding graph_in
bank_below s t bytes is e apart =
    let number = sym is.number ∙ e in
    elim (named_clash s t bytes (plan_judged s t bytes number) number) [
      | inl pair ↦ omega (arith, is.first, pair.low)
      | inr none ↦ absurd (omega (arith, is.first, none.0, is.second, none.1))
    ]

module _ (a b w k : ℕ) where
  pub waves_many : a ≡ b → many_text k ≡ waves_text a b w k
  unfolding waves_text
  waves_many e = rw (eq-eqb a b e)

  pub waves_clash : a < b → clash_text a b w ≡ waves_text a b w k
  unfolding waves_text
  waves_clash l = let other : a ≡ b → ⊥ = λ e. omega arith in rw (ne_eqb a b other)

-- the same text
pub as_text : {text text' out out' : List ℕ} {r : ℕ} → text ≡ text' → Puts text 0 out r out' → Puts text' 0 out r out'
as_text {out = out} {out' = out'} {r = r} e p = subst (λ (x : List ℕ). Puts x 0 out r out') e p
