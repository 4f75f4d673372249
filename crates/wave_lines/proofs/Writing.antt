-- What writing a text of the plan answers: by the number of the first no.
use mathlib.Core.Bool.{Bool, true, false}
use mathlib.Core.List.{List, [], ◌∷◌}
use mathlib.Core.Path.{◌≡◌, refl, sym, ap, ap₂, ◌∙◌}
use Prim.Native.Nat.{ℕ, zero, suc, ◌≤◌, ◌<◌}
use native.Mathlib.Omega.{arith}
use lib.Dec.{T, leb}
use lib.ListN.{length, drop, length-append}
use lib.Seq.{take_at}
use borrow.Author.Tests.{le-leb, lt-leb}
use Rattle.std.specs.Prelude.{Result, Ok, Err}
use Rattle.rule.specs.declared.refusal.Refusal.{Refusal}
use Rattle.rule.specs.declared.refusal.Refusal.TheVariants.{ShortOutput}
use Rattle.rule.specs.Graph.{Graph}
use Rattle.rule.specs.Refusals.{number_of, value_or}
use Rattle.rule.proofs.Refusals.{refused_some}
use Rattle.memory.specs.declared.Tally.{Tally}
use Rattle.memory.specs.Cells.{over}
use Rattle.memory.specs.Plan.{Slices, long_enough, graph_in, cap_fits, holds, Clashes, PlanOf}
use Rattle.planner.specs.Questions.{◌else◌, first_no}
use Rattle.planner.specs.Calls.{plan_number}
use Rattle.planner.proofs.Numbers.{held_number, number_plan}
use Rattle.wave_lines.specs.Calls.{text_number, TextResult, written, text_result, text_by, write_text, written_bytes}

-- question 12 comes after questions 3 to 5: their number stays, and where they have none it decides
sooner : (a b c d : Bool) (n : ℕ) → n ≡ first_no ((a else 1) ∷ (b else 2) ∷ (c else 3) ∷ []) → (n ≡ 0 → ⊥)
    → first_no ((a else 1) ∷ (b else 2) ∷ (c else 3) ∷ (d else 12) ∷ []) ≡ n
unfolding first_no
sooner true true true d n e z = absurd (z e)
sooner true true false d n e z = sym e
sooner true false c d n e z = sym e
sooner false b c d n e z = sym e

last : (a b c d : Bool) → 0 ≡ first_no ((a else 1) ∷ (b else 2) ∷ (c else 3) ∷ [])
    → first_no ((a else 1) ∷ (b else 2) ∷ (c else 3) ∷ (d else 12) ∷ []) ≡ first_no ((d else 12) ∷ [])
unfolding first_no
last true true true d e = refl
last true true false d e = absurd (omega arith)
last true false c d e = absurd (omega arith)
last false b c d e = absurd (omega arith)

passed : (a b c d : Bool) → first_no ((a else 1) ∷ (b else 2) ∷ (c else 3) ∷ (d else 12) ∷ []) ≡ 0
    → first_no ((a else 1) ∷ (b else 2) ∷ (c else 3) ∷ []) ≡ 0
unfolding first_no
passed true true true d e = refl
passed true true false d e = e
passed true false c d e = e
passed false b c d e = e

refused : (n : ℕ) (text out : List ℕ) → (n ≡ 0 → ⊥) → written n 0 out ≡ text_by n text out
unfolding text_by
refused zero text out z = absurd (z refl)
refused (suc c) text out z = refl

-- the answered length is one of bytes in the output
within : (n : ℕ) (text out : List ℕ) → (text_by n text out).answer.length ≤ length (text_by n text out).out
unfolding text_by over
within zero text out = omega (arith, length-append text (drop (length text) out))
within (suc c) text out = omega arith

module _ (text : Graph → List ℕ) (s : Slices) (t : Tally) (out : List ℕ) where
  abbrev bytes : List ℕ
  bytes = text (graph_in t.banks s)

  -- the questions, one by one
  abbrev few : Bool
  few = leb t.banks 1024

  abbrev long : Bool
  long = long_enough t.banks s

  abbrev held : Bool
  held = holds s t

  abbrev room : Bool
  room = leb (length bytes) (length out)

  pub written_within : (write_text text s t out).answer.length ≤ length (write_text text s t out).out
  unfolding write_text
  written_within = within (text_number bytes s t out) bytes out

  -- a refusal by questions 3 to 5
  pub text_refused : (e : Refusal) → number_of e ≡ plan_number s t → text_result (Err e) out ≡ write_text text s t out
  unfolding write_text text_number plan_number
  text_refused e h =
      refused (number_of e) bytes out (refused_some e)
      ∙ ap (λ (k : ℕ). text_by k bytes out) (sym (sooner few long held room (number_of e) h (refused_some e)))

  number_12 : 0 ≡ plan_number s t → text_number bytes s t out ≡ first_no ((leb (length bytes) (length out) else 12) ∷ [])
  unfolding text_number plan_number
  number_12 e = last few long held room e

  -- the output is too short
  pub text_short : 0 ≡ plan_number s t → length out < length (text (graph_in t.banks s))
      → text_result (Err ShortOutput) out ≡ write_text text s t out
  unfolding write_text text_by first_no
  text_short e h = rw (number_12 e, lt-leb (length bytes) (length out) h)

  -- the text is written
  pub text_done-law : 0 ≡ plan_number s t → length (text (graph_in t.banks s)) ≤ length out → (r : ℕ) (out' : List ℕ)
      → r ≡ length (text (graph_in t.banks s)) → out' ≡ over (text (graph_in t.banks s)) out
      → text_result (Ok r) out' ≡ write_text text s t out
  unfolding write_text text_by first_no
  text_done-law e h r out' er eo =
      rw (number_12 e, le-leb (length bytes) (length out) h)
      (ap₂ (λ (k : ℕ) (o : List ℕ). written 0 k o) er eo)

  -- the same text, got otherwise
  pub text_fits : 0 ≡ plan_number s t → length (text (graph_in t.banks s)) ≤ length out → (same : List ℕ) → same ≡ text (graph_in t.banks s)
      → text_result (Ok (length same)) (over same out) ≡ write_text text s t out
  text_fits e h same is = text_done-law e h (length same) (over same out) (ap length is) (ap (λ (l : List ℕ). over l out) is)

  -- where no plan's text has more than `most` bytes, no answered length is above it
  module _ (most : ℕ) (fits : (G : Graph) → Clashes G → length (text G) ≤ most) where
    by_number : (c : ℕ) → text_number bytes s t out ≡ c → (text_by c bytes out).answer.length ≤ most
    unfolding text_by text_number plan_number
    by_number zero e =
        fits (graph_in t.banks s) (number_plan s t (passed few long held room e)).clashes
    by_number (suc c) e = omega arith

    pub written_most : (write_text text s t out).answer.length ≤ most
    unfolding write_text
    written_most = by_number (text_number bytes s t out) refl

    pub answer_most : (answer : Result ℕ Refusal) (out' : List ℕ) → text_result answer out' ≡ write_text text s t out → value_or answer 0 ≤ most
    answer_most answer out' e = omega (arith, ap (λ (x : TextResult). x.answer.length) e, written_most)

-- a text that depends on nothing but the clashes whose plan memory holds, and has at most `most` bytes: an output of `most` is never too short
pub never_short : (text : Graph → List ℕ) (most : ℕ) → ((G : Graph) → Clashes G → length (text G) ≤ most)
    → ((G H : Graph) (s : Slices) (t : Tally) → PlanOf G s t → PlanOf H s t → text G ≡ text H)
    → (G : Graph) (s : Slices) (t : Tally) (out : List ℕ) → PlanOf G s t → T (cap_fits t) → most ≤ length out
    → text_result (Ok (length (text G))) (over (text G) out) ≡ write_text text s t out
never_short text most fits one G s t out held cap room =
    let checked = held_number G s t held cap in
    let plan = number_plan s t checked in
    let H = graph_in t.banks s in
    text_fits text s t out (sym checked) (omega (arith, fits H plan.clashes)) (text G) (one G H s t held plan)

-- what is written where no refusal is due: memory holds a plan, and the text is that plan's
module _ (text : Graph → List ℕ) (s : Slices) (t : Tally) (out : List ℕ) where
  plan_by : (c : ℕ) → text_number (text (graph_in t.banks s)) s t out ≡ c → (text_by c (text (graph_in t.banks s)) out).answer.number ≡ 0
      → PlanOf (graph_in t.banks s) s t
  unfolding text_by text_number plan_number
  plan_by zero e z =
      number_plan s t (passed (few text s t out) (long text s t out) (held text s t out) (room text s t out) e)
  plan_by (suc c) e z = absurd (omega (arith, z))

  pub written_plan : (write_text text s t out).answer.number ≡ 0 → PlanOf (graph_in t.banks s) s t
  unfolding write_text
  written_plan z = plan_by (text_number (text (graph_in t.banks s)) s t out) refl z

  front_by : (c : ℕ) → (text_by c (text (graph_in t.banks s)) out).answer.number ≡ 0
      → written_bytes (text_by c (text (graph_in t.banks s)) out) ≡ text (graph_in t.banks s)
  unfolding text_by over
  front_by zero e = let bytes = text (graph_in t.banks s) in take_at bytes (drop (length bytes) out) (length bytes) refl
  front_by (suc c) e = absurd (omega (arith, e))

  pub written_text : ((G H : Graph) (s : Slices) (t : Tally) → PlanOf G s t → PlanOf H s t → text G ≡ text H)
      → (G : Graph) → PlanOf G s t → (write_text text s t out).answer.number ≡ 0 → written_bytes (write_text text s t out) ≡ text G
  unfolding write_text
  written_text one G held e =
      front_by (text_number (text (graph_in t.banks s)) s t out) e
      ∙ sym (one G (graph_in t.banks s) s t held (written_plan e))
