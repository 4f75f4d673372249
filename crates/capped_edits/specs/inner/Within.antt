-- An edit that is made and, where a refusal is due after it, unmade.
use Rattle.std.specs.Prelude.{List, ◌≡◌, ℕ, zero, suc, take}
use Rattle.rule.specs.Graph.{Graph}
use Rattle.rule.specs.declared.Kind.{Kind}
use Rattle.memory.specs.Cells.{over}
use Rattle.memory.specs.Memory.{Memory}
use Rattle.planner.specs.declared.Edited.{Edited}
use Rattle.planner.specs.Calls.{edit_result, EditResult, edit_by, accepted}
use Rattle.capped_edits.specs.Capped.{cap_by, capped_number}

-- the number so far, else the last
unfoldable pub or_last : ℕ → ℕ → ℕ
or_last zero last = last
or_last (suc c) last = suc c

-- all questions of an edit, the last of which got this number
abbrev pub within_number : ℕ → Kind → Graph → ℕ → ℕ → ℕ → ℕ
within_number cap k G a b last = or_last (capped_number cap k G a b) last

-- an edit of memory that holds the plan of G
unfoldable pub within_of : Kind → Graph → ℕ → ℕ → ℕ → Memory → EditResult
within_of k G a b last m = edit_by (within_number m.tally.cap k G a b last) k G a b m

-- the number of the questions that are asked once the edit is made, and led to so many waves
abbrev pub late_number : ℕ → ℕ → ℕ → ℕ
late_number waves cap last = or_last (cap_by 0 waves cap) last

-- an edit was made, or made and unmade: then plan and tally are as they were
pub record Tried (k : Kind) (G : Graph) (a b last : ℕ) (m : Memory) (r : Edited) (m' : Memory) : Type 0 where
  pub number : r.answer.number ≡ within_number m.tally.cap k G a b last
  pub made : r.answer.number ≡ 0 → edit_result r.answer m' ≡ accepted k G a b m
  pub slices : (r.answer.number ≡ 0 → ⊥) → m'.slices ≡ m.slices
  pub tally : (r.answer.number ≡ 0 → ⊥) → m'.tally ≡ m.tally

-- of an edit without a number, k cells were put at the front of a slice; of another, none
pub record Kept (number k : ℕ) (cells slice : List ℕ) (r : ℕ) (slice' : List ℕ) : Type 0 where
  pub some : number ≡ 0 → (r ≡ k) × (slice' ≡ over (take k cells) slice)
  pub none : (number ≡ 0 → ⊥) → (r ≡ 0) × (slice' ≡ slice)
