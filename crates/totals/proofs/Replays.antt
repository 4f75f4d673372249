-- A replay that opens a plan: the clashes after its entries are the total that is counted of them.
use mathlib.Core.Bool.{true}
use mathlib.Core.List.{List, [], ◌∷◌}
use mathlib.Core.Path.{◌≡◌, refl, sym, ap, ◌∙◌}
use Prim.Native.Nat.{ℕ, zero, suc, ◌≤◌}
use native.Mathlib.Omega.{arith}
use lib.ListN.{drop}
use Rattle.memory.specs.Plan.{clash_count}
use Rattle.memory.specs.Memory.{Memory}
use Rattle.rule.specs.declared.Entry.{Entry}
use Rattle.planner.specs.States.{State, entry_number, enter, begin}
use Rattle.planner.proofs.Made.{Holding}
use Rattle.journal_fields.specs.Fields.{first_size, banks_in, rank_fits, fields}
use Rattle.journal_fields.specs.Bounds.{RanksFit}
use Rattle.journal_fields.proofs.Bytes.{fields_fit}
use Rattle.journal_replay.specs.Replay.{ReplayResult, ended, enter_by, enter_all, replay_number, replay_by, replayed}
use Rattle.journal_replay.proofs.Holds.{enter_kept, opened_holds}
use Rattle.totals.specs.Totals.{entries_total, before}
use Rattle.totals.proofs.Edits.{tally_clashes, tally_banks, no_clash, entry_left, before_none, before_next}

-- what entries from field i on left: the clashes that are counted of those made, and as many banks
record Entered (i : ℕ) (es : List Entry) (s : State) (r : ReplayResult) : Type 0 where
  clashes : r.memory.tally.clashes ≡ entries_total (before i r.answer.number r.answer.field es) (clash_count s.graph)
  banks : r.memory.tally.banks ≡ s.graph.banks
  late : (r.answer.number ≡ 0 → ⊥) → i ≤ r.answer.field

by_number : (c i : ℕ) (e : Entry) (es : List Entry) (s : State) → Holding s → rank_fits e ≡ true → entry_number e s ≡ c → (rest : ReplayResult)
    → (Holding (enter e s) → Entered (suc i) es (enter e s) rest) → Entered i (e ∷ es) s (enter_by c i s rest)
unfolding enter_by entries_total
by_number zero i e es s h fits z r f =
    let N = r.answer.number in
    let field = r.answer.field in
    let rest = f (enter_kept e s h fits z) in
    let left = entry_left e s h z in
    record {
      clashes =
          rest.clashes
          ∙ ap (entries_total (before (suc i) N field es)) left.count
          ∙ ap (λ (l : List Entry). entries_total l (clash_count s.graph)) (sym (before_next i N field e es rest.late));
      banks = rest.banks ∙ left.banks;
      late = λ n. omega (arith, rest.late n);
    }
by_number (suc c) i e es s h fits z rest f = record {
  clashes = tally_clashes h ∙ ap (λ (l : List Entry). entries_total l (clash_count s.graph)) (sym (before_none i c (e ∷ es)));
  banks = tally_banks h;
  late = λ n. omega arith;
}

at_end : (wrong i more : ℕ) (s : State) → Holding s → Entered i [] s (ended wrong i more s.memory)
unfolding ended entries_total before
at_end (suc c) i more s h = record {
  clashes = tally_clashes h ∙ ap (λ (l : List Entry). entries_total l (clash_count s.graph)) (sym (before_none i c []));
  banks = tally_banks h;
  late = λ n. omega arith;
}
at_end zero i more s h = record { clashes = tally_clashes h; banks = tally_banks h; late = λ z. absurd (z refl) }

entered : (i : ℕ) (es : List Entry) (wrong more : ℕ) (s : State) → Holding s → RanksFit es
    → Entered i es s (enter_all i es wrong more s)
unfolding enter_all
entered i [] wrong more s h fit = at_end wrong i more s h
entered i (e ∷ es) wrong more s h fit =
    by_number (entry_number e s) i e es s h fit.0 refl (enter_all (suc i) es wrong more (enter e s))
    (λ k. entered (suc i) es wrong more (enter e s) k fit.1)

-- a journal whose first field opens a plan
module _ (bytes : List ℕ) (m : Memory) (z : replay_number bytes m ≡ 0) where
  abbrev entries : List Entry
  entries = (fields (drop first_size bytes)).entries

  abbrev replay : ReplayResult
  replay = replayed bytes m

  replay_entered : Entered 2 entries (begin (banks_in bytes) m) replay
  unfolding replayed replay_by
  replay_entered =
      let f = fields (drop first_size bytes) in
      rw z (entered 2 f.entries f.wrong f.left_over (begin (banks_in bytes) m) (opened_holds bytes m z) (fields_fit (drop first_size bytes)))

  pub replay_clashes : (replayed bytes m).memory.tally.clashes
      ≡ entries_total (before 2 (replayed bytes m).answer.number (replayed bytes m).answer.field (fields (drop first_size bytes)).entries) 0
  unfolding begin
  replay_clashes = replay_entered.clashes ∙ ap (entries_total (before 2 replay.answer.number replay.answer.field entries)) (no_clash (banks_in bytes))

  pub replay_banks : (replayed bytes m).memory.tally.banks ≡ banks_in bytes
  unfolding begin
  replay_banks = replay_entered.banks

  pub replay_late : ((replayed bytes m).answer.number ≡ 0 → ⊥) → 2 ≤ (replayed bytes m).answer.field
  replay_late = replay_entered.late
