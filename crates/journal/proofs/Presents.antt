-- Replay to a plan that memory holds: what new journals and recorded edits have in common.
use mathlib.Core.Bool.{false}
use mathlib.Core.List.{List}
use mathlib.Core.Path.{◌≡◌, refl, sym, ap, ◌∙◌}
use Prim.Native.Nat.{ℕ}
use Rattle.rule.specs.Graph.{Graph, empty, Same}
use Rattle.memory.specs.declared.Tally.{Tally}
use Rattle.memory.specs.Plan.{Slices, tally_of, PlanOf}
use Rattle.memory.specs.PlanCells.{plan_cells}
use Rattle.memory.proofs.Theorems.{same_cells, plan_in_agree, tally_agree}
use Rattle.memory.proofs.Views.{tally_banks}
use Rattle.memory.specs.Memory.{Memory}
use Rattle.planner.specs.States.{begin, begin_number}
use Rattle.rule.specs.declared.Entry.{Entry}
use Rattle.edit_calls.specs.Calls.{with_cap}
use Rattle.journal_replay.specs.Ends.{after_entries}
use Rattle.journal_replay.specs.Replay.{ReplayResult, replayed}
use Rattle.journal_fields.proofs.Entries.{whole}
use Rattle.journal_replay.proofs.Replaying.{replay_from, Reads, replay_is}
use Rattle.journal.specs.Present.{ReplaysTo}
use Rattle.journal.proofs.Turns.{NoneRefused, Ends, begin_over, enter_ends}

-- entries to none of which a refusal is due, in a journal that opens its plan
pub reads_ends : {bytes : List ℕ} {n : ℕ} {es : List Entry} (m : Memory) → Reads bytes n (whole es) → begin_number n m ≡ 0 → NoneRefused false es (empty n)
    → Ends m.slices (after_entries es (empty n)) 0 (replayed bytes m)
unfolding replay_from begin
reads_ends {n = n} {es = es} m r z d = rw (replay_is r m, z) (enter_ends m.slices 2 es 0 (begin n m) d (begin_over n m))

-- the same clashes and ranks, the same plan
pub ends_same : {H G : Graph} {first : Slices} {more : ℕ} {r : ReplayResult} → Same H G → Ends first H more r → Ends first G more r
ends_same {H} {G} {first} q e = record {
  answer = e.answer;
  over = record {
    slices = e.over.slices ∙ plan_in_agree q first;
    tally = e.over.tally ∙ tally_agree q 24;
  };
}

-- the tally of a plan, with a cap of 24
recap : (G : Graph) (t : Tally) → t ≡ tally_of t.cap G → with_cap 24 t ≡ tally_of 24 G
unfolding tally_of
recap G t e = ap (with_cap 24) e

pub ends_replay : {G : Graph} {bytes : List ℕ} {m : Memory} {s : Slices} {t : Tally} {more : ℕ} → PlanOf G s t → Ends m.slices G more (replayed bytes m) → ReplaysTo bytes m s t
ends_replay {G} {m = m} {s = s} {t = t} p e = record {
  number = ap (λ a. a.number) e.answer;
  cells =
      let itself : Same G G = record { banks = refl; clash = λ x y hx hy. refl; rank = λ x hx. refl } in
      rw (tally_banks t G p.tally, e.over.slices)
      (same_cells itself m.slices s ∙ ap (plan_cells G.banks) p.cells);
  tally = e.over.tally ∙ sym (recap G t p.tally);
}
