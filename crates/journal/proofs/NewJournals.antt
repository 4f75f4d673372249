-- A new journal replays to the plan of which it was started.
use mathlib.Core.Bool.{true, false}
use mathlib.Core.List.{List, [], ◌∷◌}
use mathlib.Core.Path.{◌≡◌, refl}
use Prim.Native.Nat.{ℕ, zero, suc, ◌≤◌}
use native.Mathlib.Omega.{arith}
use lib.ListN.{length, take, drop}
use lib.Seq.{take_at}
use Rattle.rule.specs.Graph.{Graph, empty, Same}
use Rattle.rule.specs.declared.Entry.{Entry}
use Rattle.memory.specs.declared.Tally.{Tally}
use Rattle.memory.specs.Cells.{over}
use Rattle.memory.specs.Plan.{Slices, graph_in, Clashes, PlanOf}
use Rattle.memory.specs.Memory.{Memory}
use Rattle.planner.specs.Calls.{all_long, plan_number}
use Rattle.planner.proofs.Numbers.{number_plan}
use Rattle.journal.specs.Calls.{ranks_below, adds_below, start_entries, start_bytes, start_number, start_by, started}
use Rattle.journal_fields.specs.Numbers.{space_number}
use Rattle.journal_fields.specs.Bounds.{RanksFit}
use Rattle.journal_replay.specs.Replay.{replayed}
use Rattle.journal_fields.proofs.Numbers.{first_zero, space_room}
use Rattle.planner.proofs.Made.{begin_fine}
use Rattle.journal_replay.proofs.Replaying.{journal_reads}
use Rattle.journal_fields.proofs.Entries.{fit_append}
use Rattle.journal_replay.specs.Ends.{after_entries}
use Rattle.journal.proofs.Ranks.{ranks_fit}
use Rattle.journal.proofs.Adds.{adds_fit}
use Rattle.journal.proofs.Turns.{Ends, NoneRefused, after_append, none_append}
use Rattle.journal.proofs.RanksInTurn.{sets_none, sets_banks, sets_clash, sets_rank, sets_clashes}
use Rattle.journal.proofs.AddsInTurn.{adds_none, adds_same}
use Rattle.journal.specs.Present.{ReplaysTo}
use Rattle.journal.proofs.Presents.{reads_ends, ends_same, ends_replay}

-- the ranks and the adds of a new journal, in turn
module _ (G : Graph) (c : Clashes G) where
  abbrev n : ℕ
  n = G.banks

  abbrev ranks : List Entry
  ranks = ranks_below G.rank n

  abbrev ranked : Graph
  ranked = after_entries ranks (empty n)

  of : Clashes ranked
  of = sets_clashes G.rank n c.most c.ranks

  start_none : NoneRefused false (start_entries G) (empty n)
  unfolding start_entries
  start_none =
      none_append false ranks (adds_below G n) (empty n) (sets_none G.rank n)
      (adds_none G c ranked (sets_banks G.rank n) (sets_clash G.rank n) (sets_rank G.rank n) of _)

  start_same : Same (after_entries (start_entries G) (empty n)) G
  unfolding start_entries
  start_same =
      rw (after_append ranks (adds_below G n) (empty n))
      (adds_same G c ranked (sets_banks G.rank n) (sets_clash G.rank n) (sets_rank G.rank n) of)

  pub start_fit : RanksFit (start_entries G)
  unfolding start_entries
  start_fit = fit_append ranks (adds_below G n) (ranks_fit G.rank n c.ranks) (adds_fit G n)

  -- its bytes
  pub start_ends : (m : Memory) → all_long n m ≡ true → length (start_bytes G) ≤ 60000 → Ends m.slices G 0 (replayed (start_bytes G) m)
  unfolding start_bytes
  start_ends m room h =
      ends_same start_same (reads_ends m (journal_reads true n (start_entries G) start_fit h) (begin_fine n m c.most room) start_none)

-- the call that starts a journal, not refused, puts its bytes at the front
module _ (s : Slices) (t : Tally) (journal : List ℕ) where
  abbrev G : Graph
  G = graph_in t.banks s

  start_passed : start_number s t journal ≡ 0 → PlanOf G s t × (length (start_bytes G) ≤ 60000)
  unfolding start_number
  start_passed z =
      let p = first_zero (plan_number s t) (space_number (length (start_bytes G)) journal ∷ []) z in
      let q = first_zero (space_number (length (start_bytes G)) journal) [] p.1 in
      (number_plan s t p.0, (space_room (length (start_bytes G)) journal q.0).1)

  by_started : (c : ℕ) (bytes : List ℕ) → (start_by c bytes journal).answer.number ≡ 0
      → (c ≡ 0) × (take (start_by c bytes journal).answer.length (start_by c bytes journal).journal ≡ bytes)
  unfolding start_by over
  by_started zero bytes z = (refl, take_at bytes (drop (length bytes) journal) (length bytes) refl)
  by_started (suc c) bytes z = absurd (omega arith)

  pub started_bytes-law : (started s t journal).answer.number ≡ 0
      → take (started s t journal).answer.length (started s t journal).journal ≡ start_bytes G
  unfolding started
  started_bytes-law z = (by_started (start_number s t journal) (start_bytes G) z).1

  -- their entries have ranks that fit
  pub started_fit : (started s t journal).answer.number ≡ 0 → RanksFit (start_entries G)
  unfolding started
  started_fit z = start_fit G (start_passed (by_started (start_number s t journal) (start_bytes G) z).0).0.clashes

  pub started_replays : (started s t journal).answer.number ≡ 0 → (m : Memory) → all_long t.banks m ≡ true
      → ReplaysTo (take (started s t journal).answer.length (started s t journal).journal) m s t
  unfolding started graph_in
  started_replays z m room =
      let p = start_passed (by_started (start_number s t journal) (start_bytes G) z).0 in
      rw (started_bytes-law z) (ends_replay p.0 (start_ends G p.0.clashes m room p.1))
