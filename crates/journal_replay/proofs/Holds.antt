-- A replay keeps memory a plan: that of the entries made.
use mathlib.Core.Bool.{Bool, true, false, cond}
use mathlib.Core.List.{List, [], ◌∷◌}
use mathlib.Core.Path.{◌≡◌, refl, sym, ◌∙◌}
use Prim.Native.Nat.{ℕ, zero, suc, ◌≤◌}
use native.Mathlib.Omega.{arith}
use lib.Dec.{eqb}
use lib.ListN.{drop}
use borrow.Author.Tests.{leb-true}
use Rattle.rule.specs.Graph.{Graph, neighbours, degree, ranked}
use Rattle.rule.specs.declared.Entry.{Entry}
use Rattle.rule.specs.declared.Entry.TheVariants.{Clash, Rank}
use Rattle.memory.specs.Plan.{Clashes}
use Rattle.memory.specs.Memory.{Memory}
use Rattle.planner.specs.States.{State, make, set_rank, entry_number, enter, begin}
use Rattle.planner.proofs.After.{plan_in-law}
use Rattle.planner.proofs.Made.{Holding, make_kept, begin_holds}
use Rattle.journal_fields.specs.Fields.{first_size, banks_in, rank_fits, fields}
use Rattle.journal_fields.specs.Bounds.{RanksFit}
use Rattle.journal_fields.proofs.Bytes.{fields_fit}
use Rattle.journal_replay.specs.Replay.{ReplayResult, ended, enter_by, enter_all, replay_number, replay_by, replayed}
use Rattle.journal_replay.specs.Ends.{after_entry, after_entries, end_of, Leaves}
use Rattle.journal_replay.proofs.Replaying.{number_is, opened_reads}

-- a rank set among clashes
pub clashes_ranked : (G : Graph) (b r : ℕ) → r ≤ 9999 → Clashes G → Clashes (ranked G b r)
unfolding degree neighbours
clashes_ranked G b r f c = record {
  most = c.most;
  symmetric = c.symmetric;
  apart = c.apart;
  few = c.few;
  ranks = λ x l. by (eqb x b) (c.ranks x l);
}
  where
    by : (t : Bool) {k : ℕ} → k ≤ 9999 → cond t r k ≤ 9999
    by true h = f
    by false h = h

pub enter_kept : (e : Entry) (s : State) → Holding s → rank_fits e ≡ true → entry_number e s ≡ 0 → Holding (enter e s)
unfolding entry_number enter set_rank rank_fits
enter_kept (Clash k a b) s h f z = make_kept k a.0 b.0 s h z
enter_kept (Rank b r) s h f z =
    plan_in-law s.memory.tally.cap (ranked s.graph b.0 r) s.memory.slices (clashes_ranked s.graph b.0 r (leb-true r 9999 f) h.clashes) h.long

-- what an entry makes of the clashes and ranks
pub enter_graph : (e : Entry) (s : State) → (enter e s).graph ≡ after_entry e s.graph
unfolding enter make set_rank after_entry
enter_graph (Clash k a b) s = refl
enter_graph (Rank b r) s = refl

pub by_accepted : (c i : ℕ) (s : State) (rest : ReplayResult) → (enter_by c i s rest).answer.number ≡ 0
    → (c ≡ 0) × (rest.answer.number ≡ 0) × (enter_by c i s rest ≡ rest)
unfolding enter_by
by_accepted zero i s rest z = (refl, z, refl)
by_accepted (suc c) i s rest z = absurd (omega arith)

pub ended_memory : (wrong i more : ℕ) (m : Memory) → (ended wrong i more m).memory ≡ m
unfolding ended
ended_memory zero i more m = refl
ended_memory (suc c) i more m = refl

-- entries that are not refused leave the plan of the clashes and ranks after them
pub enter_holds : (i : ℕ) (es : List Entry) (wrong more : ℕ) (s : State) → Holding s → RanksFit es → (enter_all i es wrong more s).answer.number ≡ 0
    → Leaves (after_entries es s.graph) (enter_all i es wrong more s)
unfolding enter_all after_entries
enter_holds i [] wrong more s h f z = rw (ended_memory wrong i more s.memory) h
enter_holds i (e ∷ es) wrong more s h f z =
    let p = by_accepted (entry_number e s) i s (enter_all (suc i) es wrong more (enter e s)) z in
    rw (p.2, ← (enter_graph e s)) (enter_holds (suc i) es wrong more (enter e s) (enter_kept e s h f.0 p.0) f.1 p.1)

module _ (bytes : List ℕ) (m : Memory) where
  -- the plan that the first field opens
  pub opened_holds : replay_number bytes m ≡ 0 → Holding (begin (banks_in bytes) m)
  opened_holds z = begin_holds (banks_in bytes) m (sym (number_is (opened_reads bytes m z) m) ∙ z)

  by_holds : (c : ℕ) → replay_number bytes m ≡ c → (replay_by c bytes m).answer.number ≡ 0 → Leaves (end_of bytes) (replay_by c bytes m)
  unfolding replay_by begin
  by_holds zero e z =
      let f = fields (drop first_size bytes) in
      enter_holds 2 f.entries f.wrong f.left_over (begin (banks_in bytes) m) (opened_holds e) (fields_fit (drop first_size bytes)) z
  by_holds (suc c) e z = absurd (omega arith)

  pub replay_holds : (replayed bytes m).answer.number ≡ 0 → Leaves (end_of bytes) (replayed bytes m)
  unfolding replayed
  replay_holds z = by_holds (replay_number bytes m) refl z
