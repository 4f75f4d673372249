-- The cap after a replay: opening gives 24, and no entry changes it.
use mathlib.Core.List.{List, [], ◌∷◌}
use mathlib.Core.Path.{◌≡◌, refl, ap, ◌∙◌}
use Prim.Native.Nat.{ℕ, zero, suc, ◌≤◌}
use native.Mathlib.Omega.{arith}
use lib.ListN.{drop}
use Rattle.rule.specs.declared.Entry.{Entry}
use Rattle.memory.specs.Memory.{Memory}
use Rattle.planner.specs.States.{State, entry_number, enter, begin}
use Rattle.planner.proofs.Caps.{cap_of, begin_cap, enter_cap}
use Rattle.journal_fields.specs.Fields.{first_size, banks_in, fields}
use Rattle.journal_replay.specs.Replay.{ReplayResult, enter_by, enter_all, replay_number, replay_by, replayed}
use Rattle.journal_replay.proofs.Holds.{ended_memory}
use Rattle.journal_replay.proofs.Refusals.{late_number-law}

-- the cap that a replay leaves
abbrev cap_in : ReplayResult → ℕ
cap_in r = r.memory.tally.cap

by_cap : (c i : ℕ) (s : State) (rest : ReplayResult) → cap_in rest ≡ cap_of s → cap_in (enter_by c i s rest) ≡ cap_of s
unfolding enter_by
by_cap zero i s rest e = e
by_cap (suc c) i s rest e = refl

-- entries, refused or not, leave the cap as it was
all_cap : (i : ℕ) (es : List Entry) (wrong more : ℕ) (s : State) → cap_in (enter_all i es wrong more s) ≡ cap_of s
unfolding enter_all
all_cap i [] wrong more s = ap (λ (m : Memory). m.tally.cap) (ended_memory wrong i more s.memory)
all_cap i (e ∷ es) wrong more s =
    by_cap (entry_number e s) i s (enter_all (suc i) es wrong more (enter e s)) (all_cap (suc i) es wrong more (enter e s) ∙ enter_cap e s)

module _ (bytes : List ℕ) (m : Memory) where
  opened_cap : (c : ℕ) → c ≡ 0 → cap_in (replay_by c bytes m) ≡ 24
  unfolding replay_by
  opened_cap zero z =
      let f = fields (drop first_size bytes) in
      all_cap 2 f.entries f.wrong f.left_over (begin (banks_in bytes) m) ∙ begin_cap (banks_in bytes) m
  opened_cap (suc c) z = absurd (omega arith)

  -- a plan was opened where no refusal is answered
  accepted_number : (c : ℕ) → (replay_by c bytes m).answer.number ≡ 0 → c ≡ 0
  unfolding replay_by
  accepted_number zero z = refl
  accepted_number (suc c) z = absurd (omega arith)

  pub accepted_cap : (replayed bytes m).answer.number ≡ 0 → (replayed bytes m).memory.tally.cap ≡ 24
  unfolding replayed
  accepted_cap z = opened_cap (replay_number bytes m) (accepted_number (replay_number bytes m) z)

  pub later_cap : 2 ≤ (replayed bytes m).answer.field → (replayed bytes m).memory.tally.cap ≡ 24
  unfolding replayed
  later_cap h = opened_cap (replay_number bytes m) (late_number-law (replay_number bytes m) bytes m h)
