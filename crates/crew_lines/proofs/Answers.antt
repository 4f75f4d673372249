-- What is printed for a list, by its number.
use mathlib.Core.List.{List}
use mathlib.Core.Logic.{◌≢◌}
use mathlib.Core.Path.{◌≡◌, refl, sym, ap, ◌∙◌}
use Prim.Native.Nat.{ℕ, zero, suc}
use Rattle.list_pass.specs.Pass.{ListResult, read_list}
use Rattle.list_program.specs.Answers.{blank, refusal_text}
use Rattle.crew_lines.specs.declared.plan.Question.{Question}
use Rattle.crew_lines.specs.Plans.{plan_text}
use Rattle.crew_lines.specs.Answers.{answer_by, answer_text}

-- a list, by its number
module _ (question : Question) (list : List ℕ) (l : ListResult) (read : l ≡ read_list list blank) where
  by_reading : answer_by l.answer.number question l ≡ answer_text question list
  unfolding answer_text
  by_reading = ap (λ (l : ListResult). answer_by l.answer.number question l) read

  refused : (n : ℕ) → n ≢ 0 → refusal_text n l.answer.row ≡ answer_by n question l
  unfolding answer_by
  refused zero z = absurd (z refl)
  refused (suc c) z = refl

  pub answer_refused : l.answer.number ≢ 0 → refusal_text l.answer.number l.answer.row ≡ answer_text question list
  answer_refused n = refused l.answer.number n ∙ by_reading

  pub answer_plan : l.answer.number ≡ 0 → plan_text question l.memory.slices l.memory.tally ≡ answer_text question list
  unfolding answer_by
  answer_plan z = ap (λ (n : ℕ). answer_by n question l) (sym z) ∙ by_reading
