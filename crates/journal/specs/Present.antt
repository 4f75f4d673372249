-- What the theorems on journals speak of: a replay to a plan that memory holds, and the edit in a recorded answer.
use Rattle.std.specs.Prelude.{List, ◌≡◌, ℕ}
use Rattle.memory.specs.declared.Tally.{Tally}
use Rattle.memory.specs.Plan.{Slices}
use Rattle.memory.specs.Memory.{Memory}
use Rattle.memory.specs.PlanCells.{plan_cells}
use Rattle.planner.specs.declared.Answer.{Answer}
use Rattle.edit_calls.specs.Calls.{with_cap}
use Rattle.journal_replay.specs.Replay.{replayed}
use Rattle.journal.specs.declared.Recorded.{Recorded}

-- the bytes replay into m with no refusal to the plan that s and t hold: the same plan cells, and the same tally in all but the cap, which is 24 then
pub record ReplaysTo (bytes : List ℕ) (m : Memory) (s : Slices) (t : Tally) : Type 0 where
  pub number : (replayed bytes m).answer.number ≡ 0
  pub cells : plan_cells t.banks (replayed bytes m).memory.slices ≡ plan_cells t.banks s
  pub tally : (replayed bytes m).memory.tally ≡ with_cap 24 t

-- the answer of the edit alone
abbrev pub edit_answer : Recorded → Answer
edit_answer r = record { number = r.number; moved = r.moved; trail = r.trail }
