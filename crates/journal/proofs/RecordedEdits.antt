-- A journal that replays to the present plan does so after an edit that is recorded.
use mathlib.Core.Bool.{true, false}
use mathlib.Core.List.{List, [], ◌∷◌, ◌++◌}
use mathlib.Core.Path.{◌≡◌, refl, sym, ap, ◌∙◌, subst}
use Prim.Native.Nat.{ℕ, zero, suc, ◌+◌, ◌*◌, ◌≤◌, ◌<◌}
use native.Mathlib.Omega.{arith}
use lib.ListN.{length, get_or, take, drop, length-append, length-drop, take-append-drop, get_or-append}
use lib.Seq.{get_or-take, take_at, take-append-add, take-append-le, drop-append-le, length-take-le}
use Rattle.rule.specs.Lists.{memb}
use Rattle.rule.specs.Graph.{Graph, empty, Same}
use Rattle.rule.specs.Reach.{edited}
use Rattle.rule.specs.declared.Kind.{Kind}
use Rattle.rule.specs.declared.Entry.{Entry}
use Rattle.memory.specs.declared.Tally.{Tally}
use Rattle.memory.specs.Plan.{Slices, long_enough, graph_in, PlanOf}
use Rattle.memory.specs.PlanCells.{PlanCells, plan_cells}
use Rattle.memory.proofs.Theorems.{cells_give, long}
use Rattle.memory.proofs.Views.{tally_banks}
use Rattle.memory.specs.Memory.{Memory, Ready}
use Rattle.planner.specs.Calls.{edit_result, memory_number, edit_number, accepted, edit_by}
use Rattle.planner.specs.States.{begin, begin_number}
use Rattle.planner.specs.inner.Held.{ReadyIn}
use Rattle.planner.proofs.Numbers.{memory_passed, number_ready}
use Rattle.planner.proofs.After.{plan_in-law, after_plan}
use Rattle.capped_edits.specs.Capped.{capped_number, capped_of}
use Rattle.edit_calls.specs.Calls.{checked_by, edit, with_cap}
use Rattle.edit_calls.proofs.Calls.{recapped}
use Rattle.edit_calls.proofs.EditCalls.{number_agree, edited_same}
use Rattle.edit_calls.proofs.Theorems.{capped_due}
use Rattle.planner.proofs.Made.{begin_passed}
use Rattle.text.specs.Places.{put}
use Rattle.journal_fields.specs.Fields.{first_size, entry_size, entry_bytes, has_first, banks_in, numbered, rank_fits, Fields, fields}
use Rattle.journal_fields.specs.Numbers.{space_number, head_number, fields_number}
use Rattle.journal_fields.specs.Bounds.{RanksFit}
use Rattle.journal.specs.Calls.{entry_for, clashes_in, later_in, next_size, next_bytes, next_space, record_number, RecordResult, recorded_as, recorded_by, recorded}
use Rattle.journal_replay.specs.Replay.{ReplayResult, replay_answer, replayed}
use Rattle.journal_fields.proofs.Numbers.{first_zero, space_room, size_inside, size_first}
use Rattle.journal_fields.proofs.Entries.{length_entry, whole}
use Rattle.journal_fields.proofs.Bytes.{first_long, first_same, fields_next, fields_fit}
use Rattle.journal_replay.proofs.Replaying.{replay_from, Reads, replay_is}
use Rattle.journal_replay.specs.Ends.{after_entry, after_entries}
use Rattle.journal.specs.Present.{ReplaysTo, edit_answer}
use Rattle.journal.proofs.Turns.{no_clashes, due_number, NoneRefused, begun_after, after_banks, after_clashes, after_append, none_append, Ends, enter_passed}
use Rattle.journal.proofs.Recording.{fields_whole}
use Rattle.journal.proofs.Presents.{reads_ends, ends_same, ends_replay}

-- equal plan cells have equal rows and ranks
front_part : (i k n : ℕ) (l : List ℕ) → i + k ≤ n → n ≤ length l → take k (drop i l) ≡ take k (drop i (take n l))
front_part i k n l h w =
    let t = length-take-le n l w in
    ap (λ (x : List ℕ). take k (drop i x)) (sym (take-append-drop n l))
    ∙ ap (take k) (drop-append-le i (take n l) (drop n l) (omega arith))
    ∙ take-append-le k (drop i (take n l)) (drop n l) (omega (arith, length-drop i (take n l)))

same_rows : (n : ℕ) (s s' : Slices) → plan_cells n s ≡ plan_cells n s' → long_enough n s ≡ true → long_enough n s' ≡ true
    → (x y : ℕ) → x < n → (graph_in n s).clash x y ≡ (graph_in n s').clash x y
unfolding graph_in
same_rows n s s' e l l' x y h =
    ap (memb y) (front_part (23 * x) 23 (23 * n) s.neighbours (omega arith) (long n s l).neighbours
    ∙ ap (λ (c : PlanCells). take 23 (drop (23 * x) c.neighbours)) e
    ∙ sym (front_part (23 * x) 23 (23 * n) s'.neighbours (omega arith) (long n s' l').neighbours))

same_ranks-law : (n : ℕ) (s s' : Slices) → plan_cells n s ≡ plan_cells n s' → (x : ℕ) → x < n → (graph_in n s).rank x ≡ (graph_in n s').rank x
unfolding graph_in
same_ranks-law n s s' e x h =
    sym (get_or-take n s.ranks x 0 h) ∙ ap (λ (c : PlanCells). get_or c.ranks x 0) e ∙ get_or-take n s'.ranks x 0 h

-- so two plans with equal cells and tallies have the same clashes and ranks
plans_same : (H G : Graph) (s s' : Slices) (t : Tally) → PlanOf H s t → PlanOf G s' t → plan_cells t.banks s ≡ plan_cells t.banks s' → Same H G
unfolding graph_in
plans_same H G s s' t p q e =
    let b = tally_banks t H p.tally in
    let b' = tally_banks t G q.tally in
    record {
      banks = sym b ∙ b';
      clash = λ x y hx hy.
          sym ((cells_give s t H p).clash x y (omega arith) (omega arith))
          ∙ same_rows t.banks s s' e (rw b p.long) (rw b' q.long) x y (omega arith)
          ∙ (cells_give s' t G q).clash x y hx hy;
      rank = λ x hx. sym ((cells_give s t H p).rank x (omega arith)) ∙ same_ranks-law t.banks s s' e x (omega arith) ∙ (cells_give s' t G q).rank x hx;
    }

-- a journal of whole fields, and one entry more
module _ {bytes : List ℕ} {n : ℕ} {es : List Entry} (r : Reads bytes n (whole es)) (e : Entry) (fit : rank_fits e ≡ true)
    (space : length bytes + entry_size (numbered (drop first_size bytes)) ≤ 60000) where
  abbrev later : List ℕ
  later = drop first_size bytes

  abbrev field : List ℕ
  field = entry_bytes (numbered later) (suc (length es)) e

  has_first-law : first_size ≤ length bytes
  has_first-law = first_long bytes r.first

  same_first : (has_first (bytes ++ field) ≡ has_first bytes) × (banks_in (bytes ++ field) ≡ banks_in bytes)
  same_first =
      first_same (bytes ++ field) bytes (omega (arith, length-append bytes field, has_first-law)) has_first-law (λ i h.
      get_or-append bytes field 0 i (omega (arith, has_first-law)))

  more_reads : Reads (bytes ++ field) n (whole (es ++ (e ∷ [])))
  more_reads = record {
    within = omega (arith, length-append bytes field, length_entry (numbered later) (suc (length es)) e);
    first = same_first.0 ∙ r.first;
    banks = same_first.1 ∙ r.banks;
    fields_are = ap fields (drop-append-le first_size bytes field has_first-law) ∙ fields_next es later e r.fields_are fit;
  }

-- what the number 0 of a replay says: its plan was opened, and none of its entries was refused
replay_passed : {bytes : List ℕ} {n : ℕ} {es : List Entry} (m : Memory) → Reads bytes n (whole es) → (replayed bytes m).answer.number ≡ 0
    → (begin_number n m ≡ 0) × NoneRefused false es (empty n)
unfolding replay_from begin
replay_passed {bytes} {n} {es} m r z = by (begin_number n m) refl (ap (λ (x : ReplayResult). x.answer.number) (sym (replay_is r m)) ∙ z)
  where
    by : (c : ℕ) → begin_number n m ≡ c → (replay_from c n (whole es) m).answer.number ≡ 0 → (begin_number n m ≡ 0) × NoneRefused false es (empty n)
    by zero e z = (e, enter_passed 2 es 0 0 (begin n m) z)
    by (suc c) e z = absurd (omega arith)

-- a journal of whole fields that replays to the present plan, and the entry of an edit of it
module _ {bytes : List ℕ} {n : ℕ} {es : List Entry} (r : Reads bytes n (whole es)) (space : length bytes + entry_size (numbered (drop first_size bytes)) ≤ 60000)
    (k : Kind) (G : Graph) (a b : ℕ) (m m₀ : Memory) (ready : Ready G m) (due : edit_number k G a b ≡ 0)
    (before : ReplaysTo bytes m₀ m.slices m.tally) where
  abbrev H : Graph
  H = after_entries es (empty n)

  opened : begin_number n m₀ ≡ 0
  opened = (replay_passed m₀ r before.number).0

  passed : NoneRefused false es (empty n)
  passed = (replay_passed m₀ r before.number).1

  fit : RanksFit es
  fit = subst (λ (f : Fields). RanksFit f.entries) r.fields_are (fields_fit (drop first_size bytes))

  ends_before : Ends m₀.slices H 0 (replayed bytes m₀)
  ends_before = reads_ends m₀ r opened passed

  plan_before : PlanOf H (replayed bytes m₀).memory.slices (with_cap 24 m.tally)
  plan_before =
      let o = begin_passed n m₀ opened in
      rw (ends_before.over.slices, ← before.tally, ends_before.over.tally)
      (plan_in-law 24 H m₀.slices (after_clashes false es (empty n) fit passed (no_clashes n o.0)) (rw (after_banks es (empty n)) o.1))

  same_before : Same H G
  same_before = plans_same H G (replayed bytes m₀).memory.slices m.slices (with_cap 24 m.tally) plan_before (recapped G m.slices m.tally 24 ready.plan) before.cells

  abbrev e : Entry
  e = entry_for k a b

  due_after : NoneRefused (begun_after es false) (e ∷ []) H
  unfolding due_number
  due_after = (number_agree same_before k a b ∙ due, tt)

  entry_ends : Ends m₀.slices (edited k G a b) 0 (replayed (bytes ++ entry_bytes (numbered (drop first_size bytes)) (suc (length es)) e) m₀)
  unfolding after_entries after_entry rank_fits
  entry_ends =
      let g : after_entries (es ++ (e ∷ [])) (empty n) ≡ edited k H a b = after_append es (e ∷ []) (empty n) in
      ends_same (edited_same same_before k a b)
      (rw g at (reads_ends m₀ (more_reads r e refl space) opened (none_append false es (e ∷ []) (empty n) passed due_after)))

-- the call: what the number 0 says, and what it leaves
pub record Passes (k : Kind) (a b : ℕ) (m : Memory) (size : ℕ) (journal : List ℕ) : Type 0 where
  pub inside : size ≤ length journal
  pub first : has_first (take size journal) ≡ true
  pub whole_fields : fields (later_in size journal) ≡ whole (fields (later_in size journal)).entries
  pub memory : memory_number m ≡ 0
  pub ready : ReadyIn m
  pub due : capped_number m.tally.cap k (clashes_in m) a b ≡ 0
  pub space : size + next_size size journal ≤ 60000

module _ (k : Kind) (a b : ℕ) (m : Memory) (size : ℕ) (journal : List ℕ) where
  memory_ready : memory_number m ≡ 0 → ReadyIn m
  memory_ready z = let p = memory_passed m z in number_ready m p.0 p.1 p.2

  record_passed : record_number k a b m size journal ≡ 0 → Passes k a b m size journal
  unfolding record_number next_space
  record_passed z =
      let p = first_zero (head_number size journal) _ z in
      let q = first_zero (memory_number m) _ p.1 in
      let r = first_zero (fields_number size journal) _ q.1 in
      let u = first_zero (capped_number m.tally.cap k (clashes_in m) a b) _ r.1 in
      let v = first_zero (space_number (size + next_size size journal) journal) [] u.1 in
      record {
        inside = size_inside size journal p.0;
        first = size_first size journal p.0;
        whole_fields = fields_whole size journal r.0;
        memory = q.0;
        ready = memory_ready q.0;
        due = u.0;
        space = (space_room (size + next_size size journal) journal v.0).1;
      }

  by_recorded : (c : ℕ) → (recorded_by c k a b m size journal).answer.number ≡ 0 → (c ≡ 0) × (recorded_by c k a b m size journal ≡ recorded_as k a b m size journal)
  unfolding recorded_by
  by_recorded zero z = (refl, refl)
  by_recorded (suc c) z = absurd (omega arith)

  -- the bytes left: those before, and the entry's
  put_bytes : (e : Entry) → size ≤ length journal → take (size + next_size size journal) (put (next_bytes e size journal) size journal) ≡ take size journal ++ next_bytes e size journal
  unfolding put next_bytes
  put_bytes e h =
      let n = length-take-le size journal h in
      let field : List ℕ = next_bytes e size journal in
      let rest = drop (size + length field) journal in
      ap (λ (x : ℕ). take (x + next_size size journal) (take size journal ++ (field ++ rest))) (sym n)
      ∙ take-append-add (take size journal) (field ++ rest) (next_size size journal)
      ∙ ap (λ (l : List ℕ). take size journal ++ l) (take_at field rest (next_size size journal) (length_entry (numbered (later_in size journal)) _ e))

  -- the edit of the call, of a plan that memory holds
  edit_is : memory_number m ≡ 0 → capped_number m.tally.cap k (clashes_in m) a b ≡ 0 → edit k a b m ≡ accepted k (clashes_in m) a b m
  unfolding edit checked_by capped_of edit_by
  edit_is z d = rw (z, d)

  -- an edit that is recorded
  module _ (yes : (recorded k a b m size journal).answer.number ≡ 0) where
    abbrev after : RecordResult
    after = recorded k a b m size journal

    abbrev bytes : List ℕ
    bytes = take after.answer.length after.journal

    is_as : after ≡ recorded_as k a b m size journal
    unfolding recorded
    is_as = (by_recorded (record_number k a b m size journal) yes).1

    passes : Passes k a b m size journal
    passes = record_passed (unfold recorded in (by_recorded (record_number k a b m size journal) yes).0)

    -- it is the edit of the call
    as_edit : (r : RecordResult) → r ≡ recorded_as k a b m size journal → accepted k (clashes_in m) a b m ≡ edit_result (edit_answer r.answer) r.memory
    unfolding recorded_as accepted
    as_edit r e = ap (λ (x : RecordResult). edit_result (edit_answer x.answer) x.memory) (sym e)

    pub recorded_edit : edit k a b m ≡ edit_result (edit_answer after.answer) after.memory
    recorded_edit = edit_is passes.memory passes.due ∙ as_edit after is_as

    pub is_bytes : bytes ≡ take size journal ++ next_bytes (entry_for k a b) size journal
    unfolding recorded_as
    is_bytes = rw is_as (put_bytes (entry_for k a b) passes.inside)

    first_due : edit_number k (clashes_in m) a b ≡ 0
    first_due = (capped_due m.tally.cap k (clashes_in m) a b passes.due).0

    -- a journal that replayed to the present plan
    module _ (m₀ : Memory) (before : ReplaysTo (take size journal) m₀ m.slices m.tally) where
      recorded_ends : Ends m₀.slices (edited k (clashes_in m) a b) 0 (replayed bytes m₀)
      unfolding next_bytes
      recorded_ends =
          let n = length-take-le size journal passes.inside in
          let es : List Entry = (fields (later_in size journal)).entries in
          let reads : Reads (take size journal) (banks_in (take size journal)) (whole es) =
          record { within = omega (arith, passes.space); first = passes.first; banks = refl; fields_are = passes.whole_fields } in
          rw is_bytes (entry_ends reads (omega (arith, passes.space)) k (clashes_in m) a b m m₀ passes.ready first_due before)

      pub recorded_answer : (replayed bytes m₀).answer ≡ replay_answer 0 0 0
      recorded_answer = recorded_ends.answer

      pub recorded_replays : ReplaysTo bytes m₀ after.memory.slices after.memory.tally
      unfolding recorded_as
      recorded_replays = ends_replay (rw is_as (after_plan k (clashes_in m) a b m passes.ready first_due)) recorded_ends
