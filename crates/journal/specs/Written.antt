-- The journals that our calls wrote, for the theorem on edit numbers (02, N10).
use Rattle.std.specs.Prelude.{List, [], ◌∷◌, ◌++◌, ◌≡◌, ℕ, take}
use Rattle.rule.specs.declared.Kind.{Kind}
use Rattle.rule.specs.declared.Entry.{Entry}
use Rattle.memory.specs.declared.Tally.{Tally}
use Rattle.memory.specs.Plan.{Slices, graph_in}
use Rattle.memory.specs.Memory.{Memory}
use Rattle.journal.specs.Calls.{entry_for, start_entries, StartResult, started, RecordResult, recorded}

-- the journal that a call left
abbrev pub started_bytes : StartResult → List ℕ
started_bytes r = take r.answer.length r.journal

abbrev pub recorded_bytes : RecordResult → List ℕ
recorded_bytes r = take r.answer.length r.journal

-- a journal of n banks and these entries was started, or is such a one in which an edit was recorded
pub data Written : List ℕ → ℕ → List Entry → Type 0 where
  new : (s : Slices) (t : Tally) (journal : List ℕ) → (started s t journal).answer.number ≡ 0
      → Written (started_bytes (started s t journal)) t.banks (start_entries (graph_in t.banks s))
  more : (n : ℕ) (es : List Entry) (k : Kind) (a b : ℕ) (m : Memory) (size : ℕ) (journal : List ℕ)
      → Written (take size journal) n es → (recorded k a b m size journal).answer.number ≡ 0
      → Written (recorded_bytes (recorded k a b m size journal)) n (es ++ (entry_for k a b ∷ []))
