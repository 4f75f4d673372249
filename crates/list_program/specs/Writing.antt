-- What a function that writes a text of a plan does, by what its calls may leave.
use Rattle.std.specs.Prelude.{List, ℕ, Result, IfOk, ◌≡◌, ◌≤◌, length}
use denote.Ref.{MutBor}
use Rattle.rule.specs.declared.refusal.Refusal.{Refusal}
use Rattle.rule.specs.Graph.{Graph}
use Rattle.memory.specs.declared.PlanMemory.{PlanMemory}
use Rattle.memory.specs.Lent.{slices_in}
use Rattle.wave_lines.specs.Calls.{text_result, write_text}

-- it writes this text
abbrev pub Writes : (PlanMemory → MutBor (List ℕ) → Result ℕ Refusal → MutBor (List ℕ) → Type 0) → (Graph → List ℕ) → Type 0
Writes post text =
    (p : PlanMemory) (out : MutBor (List ℕ)) (r : Result ℕ Refusal) (after : MutBor (List ℕ)) → post p out r after
    → text_result r after.now ≡ write_text text (slices_in p) p.tally out.now

-- the text that it says it wrote is inside the output
abbrev pub WritesWithin : (PlanMemory → MutBor (List ℕ) → Result ℕ Refusal → MutBor (List ℕ) → Type 0) → Type 0
WritesWithin post =
    (p : PlanMemory) (out : MutBor (List ℕ)) (r : Result ℕ Refusal) (after : MutBor (List ℕ)) → post p out r after → IfOk r (λ n. n ≤ length after.now)
