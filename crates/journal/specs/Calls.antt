-- What starting a journal, and an edit that is recorded, answer and leave, of what they are lent (02, N2, N6, N9 and N10).
use Rattle.std.specs.Prelude.{true, cond, List, [], ◌∷◌, ◌++◌, map, Result, ℕ, zero, suc, ◌+◌, ltb, eqb, length, take, drop}
use Rattle.rule.specs.Lists.{filter}
use Rattle.rule.specs.Refusals.{number_in, value_or}
use Rattle.rule.specs.declared.refusal.Refusal.{Refusal}
use Rattle.rule.specs.Graph.{Graph, neighbours}
use Rattle.rule.specs.declared.Kind.{Kind}
use Rattle.rule.specs.declared.Kind.TheVariants.{Adding}
use Rattle.rule.specs.declared.Entry.{Entry}
use Rattle.rule.specs.declared.Entry.TheVariants.{Clash, Rank}
use Rattle.rule.specs.Numbers.{bank}
use Rattle.memory.specs.declared.Tally.{Tally}
use Rattle.memory.specs.Cells.{over}
use Rattle.memory.specs.Plan.{Slices, graph_in}
use Rattle.memory.specs.Memory.{Memory}
use Rattle.planner.specs.Calls.{plan_number, memory_number, accepted}
use Rattle.capped_edits.specs.Capped.{capped_number}
use Rattle.text.specs.Places.{put}
use Rattle.journal.specs.declared.Recorded.{Recorded}
use Rattle.journal_fields.specs.Fields.{first_size, entry_size, entry_bytes, journal_bytes, numbered, fields}
use Rattle.journal_fields.specs.Numbers.{first_of, space_number, head_number, fields_number}

-- the entry of an edit
abbrev pub entry_for : Kind → ℕ → ℕ → Entry
entry_for k a b = Clash k (bank a) (bank b)

-- the rank r of b, if it is other than 0
unfoldable pub rank_of : ℕ → ℕ → List Entry
rank_of b r = cond (eqb r 0) [] (Rank (bank b) r ∷ [])

-- the ranks other than 0 of the banks below k, ascending
unfoldable pub ranks_below : (ℕ → ℕ) → ℕ → List Entry
ranks_below rank zero = []
ranks_below rank (suc b) = ranks_below rank b ++ rank_of b (rank b)

-- the clashes of a with those of these banks that are larger, as adds
unfoldable pub adds_of : ℕ → List ℕ → List Entry
adds_of a banks = map (entry_for Adding a) (filter (ltb a) banks)

-- the clashes of all banks below k with larger ones, the lowest pair first
unfoldable pub adds_below : Graph → ℕ → List Entry
adds_below G zero = []
adds_below G (suc a) = adds_below G a ++ adds_of a (neighbours G a)

-- a new journal: the first field, then the ranks other than 0, then the clashes now listed as adds
unfoldable pub start_entries : Graph → List Entry
start_entries G = ranks_below G.rank G.banks ++ adds_below G G.banks

-- its bytes: the entries are numbered
unfoldable pub start_bytes : Graph → List ℕ
start_bytes G = journal_bytes true G.banks (start_entries G)

-- questions 3 to 5, then 15
unfoldable pub start_number : Slices → Tally → List ℕ → ℕ
start_number s t journal = first_of (plan_number s t ∷ space_number (length (start_bytes (graph_in t.banks s))) journal ∷ [])

-- what starting answers: the number, and the journal's length, 0 where it is refused
pub record Started : Type 0 where
  pub number : ℕ
  pub length : ℕ

abbrev pub start_answered : Result ℕ Refusal → Started
start_answered r = record { number = number_in r; length = value_or r 0 }

-- what starting leaves
pub record StartResult : Type 0 where
  pub answer : Started
  pub journal : List ℕ

abbrev pub start_result : Started → List ℕ → StartResult
start_result answer journal = record { answer = answer; journal = journal }

-- by the number of the first no: the bytes at the front, and their length; or the number, and the journal as it was
unfoldable pub start_by : ℕ → List ℕ → List ℕ → StartResult
start_by zero bytes journal = start_result (record { number = 0; length = length bytes }) (over bytes journal)
start_by (suc c) bytes journal = start_result (record { number = suc c; length = 0 }) journal

-- the call that starts a journal
unfoldable pub started : Slices → Tally → List ℕ → StartResult
started s t journal = start_by (start_number s t journal) (start_bytes (graph_in t.banks s)) journal

-- the clashes that the memory's rows name, and the ranks in it
abbrev pub clashes_in : Memory → Graph
clashes_in m = graph_in m.tally.banks m.slices

-- the bytes after the first field, of `size` in all
abbrev pub later_in : ℕ → List ℕ → List ℕ
later_in size journal = drop first_size (take size journal)

-- the next entry's field: numbered if the others are, and one above the last
abbrev pub next_size : ℕ → List ℕ → ℕ
next_size size journal = entry_size (numbered (later_in size journal))

unfoldable pub next_bytes : Entry → ℕ → List ℕ → List ℕ
next_bytes e size journal = entry_bytes (numbered (later_in size journal)) (suc (length (fields (later_in size journal)).entries)) e

-- is there space for it?
unfoldable pub next_space : ℕ → List ℕ → ℕ
next_space size journal = space_number (size + next_size size journal) journal

-- all questions of an edit that is recorded: those about the journal's later fields, 14, 21 and 18, field by field
unfoldable pub record_number : Kind → ℕ → ℕ → Memory → ℕ → List ℕ → ℕ
record_number k a b m size journal =
    first_of
    (head_number size journal
    ∷ memory_number m
    ∷ fields_number size journal
    ∷ capped_number m.tally.cap k (clashes_in m) a b
    ∷ next_space size journal
    ∷ [])

-- what it leaves
pub record RecordResult : Type 0 where
  pub answer : Recorded
  pub memory : Memory
  pub journal : List ℕ

abbrev pub record_result : Recorded → Memory → List ℕ → RecordResult
record_result answer memory journal = record { answer = answer; memory = memory; journal = journal }

-- the answer where it is refused: the number, and 0
abbrev pub no_record : ℕ → Recorded
no_record c = record { number = c; moved = 0; trail = 0; length = 0 }

-- accepted: what the edit leaves, and its entry after the last field
unfoldable pub recorded_as : Kind → ℕ → ℕ → Memory → ℕ → List ℕ → RecordResult
recorded_as k a b m size journal =
    let e = accepted k (clashes_in m) a b m in
    record_result
    (record { number = 0; moved = e.answer.moved; trail = e.answer.trail; length = size + next_size size journal })
    e.memory
    (put (next_bytes (entry_for k a b) size journal) size journal)

-- by the number of the first no
unfoldable pub recorded_by : ℕ → Kind → ℕ → ℕ → Memory → ℕ → List ℕ → RecordResult
recorded_by zero k a b m size journal = recorded_as k a b m size journal
recorded_by (suc c) k a b m size journal = record_result (no_record (suc c)) m journal

-- the calls that make an edit and record it, of a journal of `size` bytes
unfoldable pub recorded : Kind → ℕ → ℕ → Memory → ℕ → List ℕ → RecordResult
recorded k a b m size journal = recorded_by (record_number k a b m size journal) k a b m size journal
