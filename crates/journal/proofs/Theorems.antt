-- Theorems on starting a journal and recording in it, each restated: what to cite. Their proofs are in the files beside this one.
use mathlib.Core.Bool.{true}
use mathlib.Core.List.{List, ◌∷◌}
use mathlib.Core.Path.{◌≡◌}
use Prim.Native.Nat.{ℕ, suc, ◌+◌, ◌*◌, ◌≤◌, ◌<◌}
use lib.ListN.{length, take, drop}
use Rattle.rule.specs.Graph.{Graph}
use Rattle.rule.specs.declared.Kind.{Kind}
use Rattle.rule.specs.declared.Entry.{Entry}
use Rattle.memory.specs.declared.Tally.{Tally}
use Rattle.memory.specs.Plan.{Slices, plan_in, tally_of, graph_in, Clashes}
use Rattle.memory.specs.Memory.{Memory}
use Rattle.planner.specs.Calls.{all_long, edit_result}
use Rattle.edit_calls.specs.Calls.{edit}
use Rattle.journal.specs.Calls.{start_bytes, started, RecordResult, recorded}
use Rattle.journal_fields.specs.Fields.{head_size, first_size, entry_size, four_at, journal_bytes, entry_in}
use Rattle.journal.specs.Written.{Written}
use Rattle.journal.specs.Present.{ReplaysTo, edit_answer}
use Rattle.journal_replay.specs.Replay.{replay_answer, replayed}
use Rattle.journal.proofs.NewJournals as NewJournals
use Rattle.journal.proofs.RecordedEdits as RecordedEdits
use Rattle.journal.proofs.Numbers as Numbers

-- 1. a new journal of the clashes and ranks of G replays with nothing refused or left over, to the plan of G and its tally with a cap of 24
module _ (G : Graph) (clashes : Clashes G) (m : Memory) (room : all_long G.banks m ≡ true) (within : length (start_bytes G) ≤ 60000) where
  pub start_answer : (replayed (start_bytes G) m).answer ≡ replay_answer 0 0 0
  start_answer = (NewJournals.start_ends G clashes m room within).answer

  pub start_slices : (replayed (start_bytes G) m).memory.slices ≡ plan_in G m.slices
  start_slices = (NewJournals.start_ends G clashes m room within).over.slices

  pub start_tally : (replayed (start_bytes G) m).memory.tally ≡ tally_of 24 G
  start_tally = (NewJournals.start_ends G clashes m room within).over.tally

-- and so does the one that the call leaves: to the plan cells of which it was started, and its tally in all but the cap
module _ (s : Slices) (t : Tally) (journal : List ℕ) (yes : (started s t journal).answer.number ≡ 0) where
  pub started_bytes-law : take (started s t journal).answer.length (started s t journal).journal ≡ start_bytes (graph_in t.banks s)
  started_bytes-law = NewJournals.started_bytes-law s t journal yes

  pub started_replays : (m : Memory) → all_long t.banks m ≡ true
      → ReplaysTo (take (started s t journal).answer.length (started s t journal).journal) m s t
  started_replays = NewJournals.started_replays s t journal yes

-- 2. an edit that is recorded is the edit of the call, answer and memory
module _ (k : Kind) (a b : ℕ) (m : Memory) (size : ℕ) (journal : List ℕ) (yes : (recorded k a b m size journal).answer.number ≡ 0) where
  abbrev after : RecordResult
  after = recorded k a b m size journal

  pub recorded_edit : edit k a b m ≡ edit_result (edit_answer after.answer) after.memory
  recorded_edit = RecordedEdits.recorded_edit k a b m size journal yes

  -- 3. and a journal that replayed with no refusal to the present plan does so after it, with nothing left over
  module _ (m₀ : Memory) (before : ReplaysTo (take size journal) m₀ m.slices m.tally) where
    pub recorded_replays : ReplaysTo (take after.answer.length after.journal) m₀ after.memory.slices after.memory.tally
    recorded_replays = RecordedEdits.recorded_replays k a b m size journal yes m₀ before

    pub recorded_answer : (replayed (take after.answer.length after.journal) m₀).answer ≡ replay_answer 0 0 0
    recorded_answer = RecordedEdits.recorded_answer k a b m size journal yes m₀ before

-- 4. a journal that our calls wrote is numbered and reads as its entries, and the edit with number suc i is the entry with i before it
module _ (bytes : List ℕ) (n : ℕ) (es : List Entry) (written : Written bytes n es) where
  pub written_bytes-law : bytes ≡ journal_bytes true n es
  written_bytes-law = (Numbers.written_is bytes n es written).bytes_are

  pub written_number : (i : ℕ) → i < length es
      → let field = drop (first_size + entry_size true * i) bytes in (four_at head_size field ≡ suc i) × (drop i es ≡ entry_in true field ∷ drop (suc i) es)
  written_number = Numbers.written_number bytes n es written
