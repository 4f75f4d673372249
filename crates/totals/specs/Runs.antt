-- A run: calls on one plan and one shelf, in turn, each accepted or refused.
use Rattle.std.specs.Prelude.{List, [], ◌∷◌, ℕ}
use Rattle.rule.specs.declared.Kind.{Kind}
use Rattle.memory.specs.declared.Tally.{Tally}
use Rattle.memory.specs.Plan.{Slices}
use Rattle.memory.specs.Memory.{Memory, memory_of}
use Rattle.planner.specs.Calls.{opened}
use Rattle.edit_calls.specs.Calls.{edit, set_cap}
use Rattle.list_pass.specs.Pass.{read_list}
use Rattle.journal_replay.specs.Replay.{replayed}
use Rattle.journal.specs.Calls.{recorded}
use Rattle.checkpoints.specs.Calls.{open_shelf, keep, come_back}

-- plan memory with its tally, trail and moved slices, and the shelf
pub record Depot : Type 0 where
  pub memory : Memory
  pub shelf : List ℕ

abbrev pub depot_of : Memory → List ℕ → Depot
depot_of memory shelf = record { memory = memory; shelf = shelf }

-- the calls that change one of them: open; add or strike; the same and recorded, in a journal of so many bytes in this slice; set the cap; read a list;
-- replay a journal; open the shelf; keep and come back under a name
pub data Call : Type 0 where
  Open : ℕ → Call
  Edit : Kind → ℕ → ℕ → Call
  Record : Kind → ℕ → ℕ → ℕ → List ℕ → Call
  SetCap : ℕ → Call
  Read : List ℕ → Call
  Replay : List ℕ → Call
  OpenShelf : ℕ → Call
  Keep : List ℕ → Call
  Return : List ℕ → Call

-- what a call answers, as far as it is counted: its number, and of a list the row, of a journal the field
pub record Answer : Type 0 where
  pub number : ℕ
  pub place : ℕ

abbrev pub answer_of : ℕ → ℕ → Answer
answer_of number place = record { number = number; place = place }

-- what it leaves
pub record Outcome : Type 0 where
  pub answer : Answer
  pub depot : Depot

abbrev pub outcome : ℕ → ℕ → Memory → List ℕ → Outcome
outcome number place memory shelf = record { answer = answer_of number place; depot = depot_of memory shelf }

-- memory with other plan cells and another tally
abbrev pub with_plan : Slices → Tally → Memory → Memory
with_plan s t m = memory_of s m.trail m.moved t

-- a call, on any memory and any shelf
unfoldable pub made : Call → Depot → Outcome
made (Open n) d =
    let r = opened n d.memory.slices d.memory.tally in
    outcome r.number 0 (with_plan r.slices r.tally d.memory) d.shelf
made (Edit k a b) d = let r = edit k a b d.memory in outcome r.answer.number 0 r.memory d.shelf
made (Record k a b size journal) d =
    let r = recorded k a b d.memory size journal in outcome r.answer.number 0 r.memory d.shelf
made (SetCap most) d =
    let r = set_cap most d.memory.slices d.memory.tally in
    outcome r.number 0 (with_plan d.memory.slices r.tally d.memory) d.shelf
made (Read bytes) d = let r = read_list bytes d.memory in outcome r.answer.number r.answer.row r.memory d.shelf
made (Replay bytes) d = let r = replayed bytes d.memory in outcome r.answer.number r.answer.field r.memory d.shelf
made (OpenShelf n) d = let r = open_shelf n d.shelf in outcome r.number 0 d.memory r.shelf
made (Keep name) d =
    let r = keep name d.memory.slices d.memory.tally d.shelf in outcome r.number 0 d.memory r.shelf
made (Return name) d =
    let m = d.memory in
    let r = come_back name m.slices m.tally m.moved d.shelf in
    outcome r.number 0 (memory_of r.slices m.trail r.moved r.tally) d.shelf

-- plan and shelf after these calls in turn
unfoldable pub run : List Call → Depot → Depot
run [] d = d
run (c ∷ cs) d = run cs (made c d).depot
