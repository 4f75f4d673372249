-- The refusal's text, and the answer to a list by what its reading left.
use mathlib.Core.List.{List, [], ◌∷◌, ◌++◌}
use mathlib.Core.Path.{◌≡◌, refl, sym, ap, ap₂, ◌∙◌, subst}
use Prim.Native.Nat.{ℕ, zero, suc, ◌+◌, ◌≤◌, ◌<◌}
use native.Mathlib.Omega.{arith}
use lib.ListN.{length, length-append}
use denote.Ref.{MutBor}
use Rattle.std.specs.Prelude.{Result, Ok, Err, IfOk}
use Rattle.std.specs.Result.{result_unwrap_or}
use Rattle.rule.specs.declared.refusal.Refusal.{Refusal}
use Rattle.rule.specs.Graph.{Graph}
use Rattle.rule.specs.Refusals.{value_or}
use Rattle.memory.specs.declared.PlanMemory.{PlanMemory}
use Rattle.memory.specs.Lent.{slices_in}
use Rattle.memory.specs.Cells.{over}
use Rattle.text.specs.Numbers.{decimal}
use Rattle.text.specs.Places.{Puts}
use Rattle.text.proofs.Decimal.{few_digits}
use Rattle.text.proofs.Putting.{puts_three, put_front}
use Rattle.list_pass.specs.Pass.{ListResult, read_list}
use Rattle.wave_lines.specs.Calls.{TextResult, write_text}
use Rattle.wave_lines.proofs.Writing.{written_within}
use Rattle.list_program.specs.Writing.{Writes, WritesWithin}
use Rattle.list_program.specs.Answers.{blank, refusal_text, named, answer_result, of_text, answer_by, answer_of}

-- how long a number after a text is
pub number_short : (x : ℕ) → x < 65536 → length (decimal x) ≤ 5
number_short x h = few_digits 4 x (omega arith)

pub length_named : (text : List ℕ) (x : ℕ) → x < 65536 → length (named text x) ≤ length text + 5
unfolding named
length_named text x h = omega (arith, length-append text (decimal x), number_short x h)

pub length_refusal : (c r : ℕ) → length (refusal_text c r) ≡ 8 + (length (decimal c) + (5 + (length (decimal r) + 1)))
unfolding refusal_text
length_refusal c r =
    let row : List ℕ = decimal r ++ (10 ∷ []) in
    omega (arith, length-append (decimal c) ((32 ∷ 82 ∷ 79 ∷ 87 ∷ 32 ∷ []) ++ row), length-append (decimal r) (10 ∷ []))

-- its five parts, one after the other
pub puts_refusal : (c r : ℕ) (out : List ℕ) → length (refusal_text c r) ≤ length out
    → (r₁ r₂ r₃ r₄ r₅ : ℕ) (out₁ out₂ out₃ out₄ out₅ : List ℕ) → length out₁ ≡ length out → length out₂ ≡ length out₁ → length out₃ ≡ length out₂
    → Puts (82 ∷ 69 ∷ 70 ∷ 85 ∷ 83 ∷ 69 ∷ 68 ∷ 32 ∷ []) 0 out r₁ out₁ → Puts (decimal c) r₁ out₁ r₂ out₂
    → Puts (32 ∷ 82 ∷ 79 ∷ 87 ∷ 32 ∷ []) r₂ out₂ r₃ out₃ → Puts (decimal r) r₃ out₃ r₄ out₄ → Puts (10 ∷ []) r₄ out₄ r₅ out₅
    → Puts (refusal_text c r) 0 out r₅ out₅
unfolding refusal_text
puts_refusal c r out room r₁ r₂ r₃ r₄ r₅ out₁ out₂ out₃ out₄ out₅ e₁ e₂ e₃ p₁ p₂ p₃ p₄ p₅ =
    let long = length_refusal c r in
    let n₁ : r₁ ≡ 0 + 8 = p₁.next in
    let n₂ : r₂ ≡ r₁ + length (decimal c) = p₂.next in
    let row : List ℕ = (32 ∷ 82 ∷ 79 ∷ 87 ∷ 32 ∷ []) ++ (decimal r ++ (10 ∷ [])) in
    puts_three (82 ∷ 69 ∷ 70 ∷ 85 ∷ 83 ∷ 69 ∷ 68 ∷ 32 ∷ []) (decimal c) row 0 out (omega (arith, length-append (decimal r) (10 ∷ []))) r₁ r₂ r₅ out₁ out₂ out₅ e₁ p₁
    p₂
    (puts_three (32 ∷ 82 ∷ 79 ∷ 87 ∷ 32 ∷ []) (decimal r) (10 ∷ []) r₂ out₂ (omega arith) r₃ r₄ r₅ out₃ out₄ out₅ e₃ p₃ p₄ p₅)

module _ (text : Graph → List ℕ) where
  refused : (n : ℕ) (l : ListResult) (out : List ℕ) → (n ≡ 0 → ⊥)
      → answer_result (length (refusal_text n l.answer.row)) (over (refusal_text n l.answer.row) out) ≡ answer_by text n l out
  unfolding answer_by
  refused zero l out z = absurd (z refl)
  refused (suc c) l out z = refl

  module _ (list out : List ℕ) (l : ListResult) (read : l ≡ read_list list blank) where
    by_reading : answer_by text l.answer.number l out ≡ answer_of text list out
    unfolding answer_of
    by_reading = ap (λ (l : ListResult). answer_by text l.answer.number l out) read

    -- a refused list
    pub answer_refused : (l.answer.number ≡ 0 → ⊥) → (r : ℕ) (out' : List ℕ) → Puts (refusal_text l.answer.number l.answer.row) 0 out r out'
        → answer_result r out' ≡ answer_of text list out
    unfolding over
    answer_refused z r out' p =
        let line : List ℕ = refusal_text l.answer.number l.answer.row in
        let e : r ≡ length line = omega (arith, p.next) in
        ap₂ (λ (n : ℕ) (o : List ℕ). answer_result n o) e (p.left ∙ put_front line out) ∙ refused l.answer.number l out z ∙ by_reading

    -- an accepted one
    pub answer_text-law : l.answer.number ≡ 0 → (w : TextResult) → w ≡ write_text text l.memory.slices l.memory.tally out → of_text w ≡ answer_of text list out
    unfolding answer_by
    answer_text-law z w e = ap of_text e ∙ ap (λ (n : ℕ). answer_by text n l out) (sym z) ∙ by_reading

    pub text_within : (w : TextResult) → w ≡ write_text text l.memory.slices l.memory.tally out → w.answer.length ≤ length w.out
    text_within w e = rw e (written_within text l.memory.slices l.memory.tally out)

-- the length of a text, 0 where none was written
pub unwrapped : (r : Result ℕ Refusal) → result_unwrap_or r 0 ≡ value_or r 0
unwrapped (Ok n) = refl
unwrapped (Err refusal) = refl

pub unwrapped_within : (r : Result ℕ Refusal) (most : ℕ) → IfOk r (λ n. n ≤ most) → result_unwrap_or r 0 ≤ most
unwrapped_within (Ok n) most h = h
unwrapped_within (Err refusal) most h = omega arith

-- a function that writes a text of a plan leaves it inside the output
pub writes_within : (post : PlanMemory → MutBor (List ℕ) → Result ℕ Refusal → MutBor (List ℕ) → Type 0) (text : Graph → List ℕ) → Writes post text → WritesWithin post
writes_within post text w p out (Err refusal) after e = tt
writes_within post text w p out (Ok n) after e =
    let Within : TextResult → Type 0 = λ x. x.answer.length ≤ length x.out in
    subst Within (sym (w p out (Ok n) after e)) (written_within text (slices_in p) p.tally out.now)
