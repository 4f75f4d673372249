-- What the functions under `record_core` promise.
use Rattle.std.specs.Prelude.{List, [], ◌∷◌, ◌≡◌, ℕ, ◌+◌}
use Rattle.planner.specs.declared.Answer.{Answer}
use Rattle.memory.specs.Memory.{Memory}
use Rattle.planner.specs.Calls.{memory_number}
use Rattle.planner.specs.inner.Held.{ReadyIn}
use Rattle.text.specs.Places.{put}
use Rattle.rule.specs.declared.Entry.{Entry}
use Rattle.journal.specs.declared.Recorded.{Recorded}
use Rattle.journal_fields.specs.Numbers.{first_of, head_number, fields_number}
use Rattle.journal.specs.Calls.{next_size, next_bytes, next_space}

-- the questions about the journal and the memory got r; without a no, memory holds a plan
pub record Checked (m : Memory) (size : ℕ) (journal : List ℕ) (r : ℕ) : Type 0 where
  pub number : r ≡ first_of (head_number size journal ∷ memory_number m ∷ fields_number size journal ∷ [])
  pub ready : r ≡ 0 → ReadyIn m
  pub head : r ≡ 0 → head_number size journal ≡ 0
  pub fields : r ≡ 0 → fields_number size journal ≡ 0

-- the journal's fields are whole, and there is space for one more
pub record AsksEntry (size : ℕ) (journal : List ℕ) : Type 0 where
  pub head : head_number size journal ≡ 0
  pub fields : fields_number size journal ≡ 0
  pub space : next_space size journal ≡ 0

-- the entry stands after the first `size` bytes, and the answer is that of the edit and the new length
pub record RecordedOf (e : Entry) (answer : Answer) (size : ℕ) (journal : List ℕ) (r : Recorded) (journal' : List ℕ) : Type 0 where
  pub is : r ≡ record { number = 0; moved = answer.moved; trail = answer.trail; length = size + next_size size journal }
  pub written : journal' ≡ put (next_bytes e size journal) size journal
