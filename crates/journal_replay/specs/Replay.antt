-- What a replay answers and leaves, of what it is lent (02, N2, N6 and N10).
use Rattle.std.specs.Prelude.{cond, List, [], ◌∷◌, ℕ, zero, suc, leb, eqb, length, drop}
use Rattle.rule.specs.declared.Entry.{Entry}
use Rattle.memory.specs.Memory.{Memory}
use Rattle.planner.specs.Questions.{◌else◌, first_no}
use Rattle.planner.specs.Calls.{all_long}
use Rattle.planner.specs.States.{State, entry_number, enter, begin}
use Rattle.journal_fields.specs.Fields.{first_size, has_first, banks_in, fields}
use Rattle.journal_replay.specs.declared.rerun.Replayed.{Replayed}

-- what a replay leaves: the number, the field that got it, the bytes left over, and the memory
pub record ReplayResult : Type 0 where
  pub answer : Replayed
  pub memory : Memory

abbrev pub replay_result : Replayed → Memory → ReplayResult
replay_result answer memory = record { answer = answer; memory = memory }

abbrev pub replay_answer : ℕ → ℕ → ℕ → Replayed
replay_answer number field left_over = record { number = number; field = field; left_over = left_over }

-- after the last entry: field i gets its number, 14 or 21, or the bytes left over are reported
unfoldable pub ended : ℕ → ℕ → ℕ → Memory → ReplayResult
ended zero i left_over m = replay_result (replay_answer 0 0 left_over) m
ended (suc c) i left_over m = replay_result (replay_answer (suc c) i 0) m

-- by the number of field i: on to the rest, or the refusal
unfoldable pub enter_by : ℕ → ℕ → State → ReplayResult → ReplayResult
enter_by zero i s rest = rest
enter_by (suc c) i s rest = replay_result (replay_answer (suc c) i 0) s.memory

-- the entries from field i on, in turn, and what ends them: a rank gets 18 after an edit
unfoldable pub enter_all : ℕ → List Entry → ℕ → ℕ → State → ReplayResult
enter_all i [] wrong left_over s = ended wrong i left_over s.memory
enter_all i (e ∷ es) wrong left_over s = enter_by (entry_number e s) i s (enter_all (suc i) es wrong left_over (enter e s))

-- the questions before the entries
unfoldable pub replay_number : List ℕ → Memory → ℕ
replay_number bytes m =
    first_no
    ((leb (length bytes) 60000 else 9)
    ∷ (has_first bytes else 13)
    ∷ (leb (banks_in bytes) 1024 else 1)
    ∷ (all_long (banks_in bytes) m else 2)
    ∷ [])

-- by their number: open the plan and enter the entries in turn, or the number with field 1, and field 0 for 9
unfoldable pub replay_by : ℕ → List ℕ → Memory → ReplayResult
replay_by zero bytes m =
    let f = fields (drop first_size bytes) in
    enter_all 2 f.entries f.wrong f.left_over (begin (banks_in bytes) m)
replay_by (suc c) bytes m = replay_result (replay_answer (suc c) (cond (eqb (suc c) 9) 0 1) 0) m

-- the call that replays a journal
unfoldable pub replayed : List ℕ → Memory → ReplayResult
replayed bytes m = replay_by (replay_number bytes m) bytes m
