-- What the theorems on replays speak of: the clashes and ranks after entries, a refusal at a later field, and the bytes left over.
use Rattle.std.specs.Prelude.{List, [], ◌∷◌, ◌≡◌, ℕ, ◌+◌, ◌*◌, take, drop}
use Rattle.rule.specs.Graph.{Graph, empty, ranked}
use Rattle.rule.specs.Reach.{edited}
use Rattle.rule.specs.declared.Entry.{Entry}
use Rattle.rule.specs.declared.Entry.TheVariants.{Clash, Rank}
use Rattle.memory.specs.Plan.{PlanOf}
use Rattle.memory.specs.Memory.{Memory}
use Rattle.journal_fields.specs.Fields.{first_size, entry_size, banks_in, numbered, fields}
use Rattle.journal_replay.specs.Replay.{ReplayResult, replay_result, replay_answer, replayed}

-- the clashes and ranks after an entry to which no refusal is due: an edit of a clash, or the rank of a bank
unfoldable pub after_entry : Entry → Graph → Graph
after_entry (Clash k a b) G = edited k G a.0 b.0
after_entry (Rank b r) G = ranked G b.0 r

-- and after entries, in turn
unfoldable pub after_entries : List Entry → Graph → Graph
after_entries [] G = G
after_entries (e ∷ es) G = after_entries es (after_entry e G)

-- those of a journal: after its first i entries, and after all
abbrev pub after_first : ℕ → List ℕ → Graph
after_first i bytes = after_entries (take i (fields (drop first_size bytes)).entries) (empty (banks_in bytes))

abbrev pub end_of : List ℕ → Graph
end_of bytes = after_entries (fields (drop first_size bytes)).entries (empty (banks_in bytes))

-- the bytes of a journal's first field and of the i entries after it
abbrev pub size_of : ℕ → List ℕ → ℕ
size_of i bytes = first_size + entry_size (numbered (drop first_size bytes)) * i

-- memory holds the plan of these clashes and ranks after the replay
abbrev pub Leaves : Graph → ReplayResult → Type 0
Leaves G r = PlanOf G r.memory.slices r.memory.tally

-- refused at field 2 + made: plan, tally, trail and moved are those of the entries before, and the plan is that of their clashes and
-- ranks
pub record RefusedLater (bytes : List ℕ) (m : Memory) : Type 0 where
  pub made : ℕ
  pub field : (replayed bytes m).answer.field ≡ 2 + made
  pub same : replayed (take (size_of made bytes) bytes) m ≡ replay_result (replay_answer 0 0 0) (replayed bytes m).memory
  pub plan : Leaves (after_first made bytes) (replayed bytes m)

-- a replay that differs only in the bytes left over, which are so many if it is not refused
pub record SameButLeftOver (cut uncut : ReplayResult) (bytes : ℕ) : Type 0 where
  pub number : cut.answer.number ≡ uncut.answer.number
  pub field : cut.answer.field ≡ uncut.answer.field
  pub memory : cut.memory ≡ uncut.memory
  pub left_over : cut.answer.number ≡ 0 → cut.answer.left_over ≡ bytes
  pub refused : (cut.answer.number ≡ 0 → ⊥) → cut.answer.left_over ≡ 0
