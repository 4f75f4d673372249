-- What the functions under `replay_core` ask (the records Asks ..) and promise.
use Rattle.std.specs.Prelude.{Bool, false, cond, List, Result, Ok, Err, ◌≡◌, ℕ, zero, suc, ◌+◌, ◌-◌, ◌≤◌, eqb, length, drop}
use Rattle.rule.specs.Graph.{Graph}
use Rattle.rule.specs.declared.Entry.{Entry}
use Rattle.memory.specs.Memory.{Memory, Ready}
use Rattle.planner.specs.States.{State, entry_number, enter}
use Rattle.planner.specs.inner.Held.{at, Fresh, HoldsState, tried, Stands}
use Rattle.journal_fields.specs.declared.field.Fault.{Fault}
use Rattle.journal_fields.specs.declared.field.Fault.TheVariants.{Wrong, Misnumbered, Short}
use Rattle.journal_replay.specs.declared.rerun.Replayed.{Replayed}
use Rattle.journal_replay.specs.declared.rerun.ReplayedPlan.{ReplayedPlan}
use Rattle.journal_replay.specs.declared.rerun.Entered.{Entered}
use Rattle.journal_fields.specs.Fields.{entry_size, Fields, field_of, fields}
use Rattle.journal_replay.specs.Replay.{ReplayResult, replay_result, replay_answer, enter_all}

-- the number of a field of enough bytes, and what it does
unfoldable pub field_number : Result Entry Fault → State → ℕ
field_number (Ok e) s = entry_number e s
field_number (Err Wrong) s = 14
field_number (Err Misnumbered) s = 21
field_number (Err Short) s = 14

unfoldable pub field_step : Result Entry Fault → State → State
field_step (Ok e) s = enter e s
field_step (Err Wrong) s = s
field_step (Err Misnumbered) s = s
field_step (Err Short) s = s

-- memory holds a plan, at this point of a replay, and enough bytes stand at `start` for field i, which is not the first
pub record AsksField (journal : List ℕ) (numbered : Bool) (start i : ℕ) (begun : Bool) (m : Memory) : Type 0 where
  pub held : HoldsState begun m
  pub inside : start + entry_size numbered ≤ length journal
  pub later : 1 ≤ i

-- a field gets this number and leaves m'; if it is not refused, an edit has come now or not
pub record FieldDone (f : Result Entry Fault) (s : State) (number : ℕ) (begun : Bool) (m' : Memory) : Type 0 where
  pub is : number ≡ field_number f s
  pub stands : Stands (tried (field_number f s) (field_step f s) s) m'
  pub begun_is : number ≡ 0 → begun ≡ (field_step f s).begun

-- the field that starts at `start`, which is field i and entry i - 1, is done
pub record EntersField (journal : List ℕ) (numbered : Bool) (start i : ℕ) (begun : Bool) (m : Memory) (r : Entered) (m' : Memory) : Type 0 where
  pub field : r.field ≡ i
  pub next : r.next ≡ start + entry_size numbered
  pub of : (G : Graph) → Ready G m → Fresh begun G
      → FieldDone (field_of numbered (i - 1) (drop start journal)) (at begun G m) r.number r.begun m'

-- fields from number i on
unfoldable pub enter_fields : ℕ → Fields → State → ReplayResult
enter_fields i f s = enter_all i f.entries f.wrong f.left_over s

-- memory holds a plan without clashes, and the second field starts at `first`, if there is one
pub record AsksFields (journal : List ℕ) (first : ℕ) (m : Memory) : Type 0 where
  pub held : HoldsState false m
  pub few : length journal ≤ 60000
  pub later : 2 ≤ first
  pub inside : first ≤ length journal

-- the fields from the second on, which starts at `first`, are done
pub record EntersFields (journal : List ℕ) (first : ℕ) (m : Memory) (r : ReplayedPlan) (m' : Memory) : Type 0 where
  pub of : (G : Graph) → Ready G m → Fresh false G
      → replay_result r.answer m' ≡ enter_fields 2 (fields (drop first journal)) (at false G m)

-- the answer after field i where fewer bytes, `size` of them, follow: by what stands there
unfoldable pub last_by : Result Entry Fault → ℕ → ℕ → Replayed
last_by (Ok e) size i = replay_answer 0 0 size
last_by (Err Wrong) size i = replay_answer 14 (i + 1) 0
last_by (Err Misnumbered) size i = replay_answer 0 0 size
last_by (Err Short) size i = replay_answer 0 0 size

-- and by the number of field i
unfoldable pub ending : Bool → ℕ → ℕ → List ℕ → Replayed
ending numbered zero i bytes = last_by (field_of numbered i bytes) (length bytes) i
ending numbered (suc c) i bytes = replay_answer (suc c) i 0

-- the answer of a journal refused before its entries
unfoldable pub refused_first : ℕ → Replayed
refused_first c = replay_answer c (cond (eqb c 9) 0 1) 0
