-- The count agrees with plan and shelf after each call.
use mathlib.Core.Bool.{Bool, true, false, cond, ◌||◌}
use mathlib.Core.List.{List, []}
use mathlib.Core.Logic.{◌⊎◌, inl, inr}
use mathlib.Core.Path.{◌≡◌, refl, sym, ap, subst, ◌∙◌}
use Prim.Native.Nat.{ℕ, zero, suc, ◌-◌, ◌≤◌, ◌<◌}
use native.Mathlib.Omega.{arith}
use lib.Dec.{T, eqb, leb}
use borrow.Author.Tests.{le-leb, lt-leb, ne_eqb}
use Rattle.rule.specs.declared.Kind.{Kind}
use Rattle.rule.specs.declared.Kind.TheVariants.{Adding, Striking}
use Rattle.memory.specs.declared.Tally.{Tally}
use Rattle.memory.specs.Plan.{tally_of, graph_in}
use Rattle.memory.specs.Memory.{Memory, memory_of}
use Rattle.planner.specs.Calls.{open_number, opened_by, opened, EditResult, refused, accepted}
use Rattle.edit_calls.specs.Calls.{edit, set_cap_number, set_cap_by, set_cap}
use Rattle.planner.proofs.Outcomes.{edited_banks}
use Rattle.edit_calls.proofs.Theorems.{add_clashes, strike_clashes, refused_same, accepted_edit}
use Rattle.list_rows.specs.declared.row.Row.{Row}
use Rattle.list_rows.specs.Rows.{rows_of, first_row}
use Rattle.list_pass.specs.Pass.{ListResult, read_list}
use Rattle.list_pass.specs.Ends.{FirstOpens}
use Rattle.list_pass.proofs.Lists.{Start, opens, refuses, start}
use Rattle.journal_replay.specs.Replay.{ReplayResult, replay_number, replay_by, replayed}
use Rattle.journal.specs.Calls.{record_number, recorded_as, recorded_by, recorded}
use Rattle.journal.proofs.Theorems.{recorded_edit}
use Rattle.shelf.specs.Names.{place_of}
use Rattle.shelf.specs.Shelf.{place, tally_in}
use Rattle.checkpoints.specs.Calls.{ShelfResult, open_shelf_number, open_shelf_by, open_shelf, keep, BackResult, come_back}
use Rattle.checkpoints.proofs.Theorems.{keep_unchanged, back_plan, back_unchanged}
use Rattle.totals.specs.Runs.{Depot, depot_of, Call, Open, Edit, Record, SetCap, Read, Replay, OpenShelf, Keep, Return, Answer, answer_of, with_plan, made}
use Rattle.totals.specs.Totals.{edit_total, Count, count_of, if_accepted, opens_plan, rows_count, entries_count, of_banks, kept_in}
use Rattle.totals.specs.Totals.{kept_total, counted, begins, Own}
use Rattle.totals.proofs.Edits.{tally_banks, no_clash}
use Rattle.totals.proofs.Lists.{list_clashes, list_banks, list_late}
use Rattle.totals.proofs.Replays.{replay_clashes, replay_banks, replay_late}
use Rattle.totals.proofs.Shelves.{Stored, own_total, keep_stored, back_tally, back_near}

-- what is counted as kept stands on the shelf
abbrev pub Shelved : List ℕ → Count → Type 0
Shelved shelf q = (i : ℕ) → i < 3 → Stored i shelf (q.kept i)

-- bank count and clashes of the tally are those counted, and the shelf is
pub record Agrees (d : Depot) (q : Count) : Type 0 where
  pub banks : d.memory.tally.banks ≡ q.banks
  pub clashes : d.memory.tally.clashes ≡ q.total
  pub kept : Shelved d.shelf q

some_number : (c : ℕ) → eqb (suc c) 0 ≡ false
some_number c = ne_eqb (suc c) 0 (λ e. omega arith)

-- a call that can open a plan opens it, or leaves all as it was
abbrev Opens : Call → Depot → Count → Type 0
Opens c d q =
    let r = made c d in
    Agrees r.depot (counted c r.answer q) ⊎ ((r.depot ≡ d) × (counted c r.answer q ≡ q) × (begins c r.answer ≡ false))

module _ (n : ℕ) (d : Depot) (q : Count) (shelved : Shelved d.shelf q) where
  open_by : (c : ℕ)
      → let r = opened_by c n d.memory.slices d.memory.tally in
      let m = with_plan r.slices r.tally d.memory in
      let count = if_accepted r.number (count_of n 0 q.kept) q in
      Agrees (depot_of m d.shelf) count ⊎ ((depot_of m d.shelf ≡ d) × (count ≡ q) × (eqb r.number 0 ≡ false))
  unfolding opened_by if_accepted tally_of
  open_by zero = inl (record { banks = refl; clashes = no_clash n; kept = shelved })
  open_by (suc c) = inr (refl, refl, some_number c)

  open_step : Opens (Open n) d q
  unfolding made counted begins opened
  open_step = open_by (open_number n d.memory.slices)

-- a list or a replay that was accepted, or refused at a later place, opened a plan
opens_true : (i : ℕ) (a : Answer) → ((a.number ≡ 0 → ⊥) → suc i ≤ a.place) → opens_plan i a ≡ true
unfolding opens_plan
opens_true i a late = go a.number late
  where
    go : (c : ℕ) → ((c ≡ 0 → ⊥) → suc i ≤ a.place) → (eqb c 0 || leb (suc i) a.place) ≡ true
    go zero l = refl
    go (suc c) l = rw (some_number c) (le-leb (suc i) a.place (l (λ e. omega arith)))

opens_false : (i c k : ℕ) → k ≤ i → opens_plan i (answer_of (suc c) k) ≡ false
unfolding opens_plan
opens_false i c k h = rw (some_number c) (lt-leb (suc i) k (omega arith))

module _ (bytes : List ℕ) (d : Depot) (q : Count) (shelved : Shelved d.shelf q) where
  abbrev list : ListResult
  list = read_list bytes d.memory

  abbrev answer : Answer
  answer = answer_of list.answer.number list.answer.row

  read_opened : (n : ℕ) (rs : List Row) → FirstOpens bytes d.memory n rs
      → Agrees (depot_of list.memory d.shelf) (rows_count (opens_plan (first_row bytes) answer) (first_row bytes) (rows_of bytes) answer q)
  unfolding rows_count
  read_opened n rs o =
      rw (opens_true (first_row bytes) answer (list_late bytes d.memory n rs o), o.rows) (record {
        banks = list_banks bytes d.memory n rs o;
        clashes = list_clashes bytes d.memory n rs o;
        kept = shelved;
      })

  read_refused : (c i : ℕ) → i ≤ first_row bytes → (r : ListResult) → r.answer.number ≡ suc c → r.answer.row ≡ i
      → opens_plan (first_row bytes) (answer_of r.answer.number r.answer.row) ≡ false
  read_refused c i h r e f = rw (e, f) (opens_false (first_row bytes) c i h)

  read_step : Opens (Read bytes) d q
  unfolding made counted begins rows_count
  read_step = go (start bytes d.memory)
    where
      go : Start bytes d.memory → Opens (Read bytes) d q
      go (opens n rs o) = inl (read_opened n rs o)
      go (refuses c i h e) =
          let none = read_refused c i h list (ap (λ (r : ListResult). r.answer.number) e) (ap (λ (r : ListResult). r.answer.row) e) in
          inr (ap (λ (r : ListResult). depot_of r.memory d.shelf) e, rw none, none)

module _ (bytes : List ℕ) (d : Depot) (q : Count) (shelved : Shelved d.shelf q) where
  abbrev replay_count : ReplayResult → Count
  replay_count r =
      let a = answer_of r.answer.number r.answer.field in
      entries_count (opens_plan 1 a) bytes a q

  abbrev Replays : ReplayResult → Type 0
  Replays r =
      Agrees (depot_of r.memory d.shelf) (replay_count r)
      ⊎ ((depot_of r.memory d.shelf ≡ d) × (replay_count r ≡ q) × (opens_plan 1 (answer_of r.answer.number r.answer.field) ≡ false))

  replay_opened : replay_number bytes d.memory ≡ 0 → Replays (replayed bytes d.memory)
  unfolding entries_count
  replay_opened z =
      let r = replayed bytes d.memory in
      let a = answer_of r.answer.number r.answer.field in
      inl (rw (opens_true 1 a (replay_late bytes d.memory z)) (record {
        banks = replay_banks bytes d.memory z;
        clashes = replay_clashes bytes d.memory z;
        kept = shelved;
      }))

  replay_refused : (c : ℕ) → Replays (replay_by (suc c) bytes d.memory)
  unfolding replay_by entries_count
  replay_refused c = inr (refl, rw none, none)
    where
      low : (b : Bool) → cond b 0 1 ≤ 1
      low true = omega arith
      low false = omega arith

      none : opens_plan 1 (answer_of (suc c) (cond (eqb (suc c) 9) 0 1)) ≡ false
      none = opens_false 1 c (cond (eqb (suc c) 9) 0 1) (low (eqb (suc c) 9))

  by_number : (c : ℕ) → replay_number bytes d.memory ≡ c → replay_by c bytes d.memory ≡ replayed bytes d.memory
  unfolding replayed
  by_number c z = ap (λ (n : ℕ). replay_by n bytes d.memory) (sym z)

  replay_step : Opens (Replay bytes) d q
  unfolding made counted begins
  replay_step = go (replay_number bytes d.memory) refl
    where
      go : (c : ℕ) → replay_number bytes d.memory ≡ c → Replays (replayed bytes d.memory)
      go zero z = replay_opened z
      go (suc c) z = subst Replays (by_number (suc c) z) (replay_refused c)

-- an edit: accepted, the tally's clashes are one more or one less and its bank count stays; refused, memory stays
module _ (k : Kind) (a b : ℕ) (m : Memory) where
  edit_clashes : (edit k a b m).answer.number ≡ 0 → (edit k a b m).memory.tally.clashes ≡ edit_total k m.tally.clashes
  unfolding edit_total
  edit_clashes z = go k z
    where
      go : (k : Kind) → (edit k a b m).answer.number ≡ 0 → (edit k a b m).memory.tally.clashes ≡ edit_total k m.tally.clashes
      go Adding z = add_clashes a b m z
      go Striking z = omega (arith, strike_clashes a b m z)

  edit_banks : (edit k a b m).answer.number ≡ 0 → (edit k a b m).memory.tally.banks ≡ m.tally.banks
  unfolding accepted tally_of graph_in
  edit_banks z =
      ap (λ (r : EditResult). r.memory.tally.banks) (accepted_edit k a b m z).is ∙ edited_banks k (graph_in m.tally.banks m.slices) a b

  edit_refused : (c : ℕ) → (edit k a b m).answer.number ≡ suc c → (edit k a b m).memory ≡ m
  unfolding refused
  edit_refused c e = ap (λ (r : EditResult). r.memory) (refused_same k a b m c e)

-- what an edit left, recorded or not
module _ (k : Kind) (d : Depot) (q : Count) (agrees : Agrees d q) where
  edited_agrees : (number : ℕ) (m : Memory)
      → (number ≡ 0 → (m.tally.clashes ≡ edit_total k d.memory.tally.clashes) × (m.tally.banks ≡ d.memory.tally.banks))
      → ((c : ℕ) → number ≡ suc c → m ≡ d.memory)
      → Agrees (depot_of m d.shelf) (if_accepted number (count_of q.banks (edit_total k q.total) q.kept) q)
  unfolding if_accepted
  edited_agrees zero m made stays = record {
    banks = (made refl).1 ∙ agrees.banks;
    clashes = (made refl).0 ∙ ap (edit_total k) agrees.clashes;
    kept = agrees.kept;
  }
  edited_agrees (suc c) m made stays = record {
    banks = ap (λ (x : Memory). x.tally.banks) (stays c refl) ∙ agrees.banks;
    clashes = ap (λ (x : Memory). x.tally.clashes) (stays c refl) ∙ agrees.clashes;
    kept = agrees.kept;
  }

-- recorded, an accepted edit is the edit, and a refused one leaves memory
module _ (k : Kind) (a b : ℕ) (m : Memory) (size : ℕ) (journal : List ℕ) where
  record_refused : (c : ℕ) → (recorded k a b m size journal).answer.number ≡ suc c → (recorded k a b m size journal).memory ≡ m
  unfolding recorded
  record_refused c e = go (record_number k a b m size journal) e
    where
      go : (n : ℕ) → (recorded_by n k a b m size journal).answer.number ≡ suc c → (recorded_by n k a b m size journal).memory ≡ m
      go zero e = unfold recorded_by recorded_as in absurd (omega (arith, e))
      go (suc n) e = unfold recorded_by in refl

  record_made : (recorded k a b m size journal).answer.number ≡ 0
      → ((recorded k a b m size journal).memory.tally.clashes ≡ edit_total k m.tally.clashes) × ((recorded k a b m size journal).memory.tally.banks ≡ m.tally.banks)
  record_made z =
      let same = recorded_edit k a b m size journal z in
      let done = ap (λ (r : EditResult). r.answer.number) same ∙ z in (
        sym (ap (λ (r : EditResult). r.memory.tally.clashes) same) ∙ edit_clashes k a b m done,
        sym (ap (λ (r : EditResult). r.memory.tally.banks) same) ∙ edit_banks k a b m done,
      )

-- the cap set: bank count and clashes stay
module _ (most : ℕ) (d : Depot) (q : Count) (agrees : Agrees d q) where
  cap_by-law : (c : ℕ) → Agrees (depot_of (with_plan d.memory.slices (set_cap_by c most d.memory.tally).tally d.memory) d.shelf) q
  unfolding set_cap_by
  cap_by-law zero = record { banks = agrees.banks; clashes = agrees.clashes; kept = agrees.kept }
  cap_by-law (suc c) = record { banks = agrees.banks; clashes = agrees.clashes; kept = agrees.kept }

-- the shelf opened: nothing is counted as kept there
module _ (n : ℕ) (d : Depot) (q : Count) (agrees : Agrees d q) where
  shelf_by : (c : ℕ)
      → let r = open_shelf_by c n d.shelf in
      Agrees (depot_of d.memory r.shelf) (if_accepted r.number (count_of q.banks q.total (λ i. [])) q)
  unfolding open_shelf_by if_accepted
  shelf_by zero = record { banks = agrees.banks; clashes = agrees.clashes; kept = λ i h. tt }
  shelf_by (suc c) = agrees

-- a keeping
module _ (name : List ℕ) (d : Depot) (q : Count) (agrees : Agrees d q) where
  abbrev kept : ShelfResult
  kept = keep name d.memory.slices d.memory.tally d.shelf

  keep_by-law : (c : ℕ) → kept.number ≡ c
      → Agrees (depot_of d.memory kept.shelf) (if_accepted c (count_of q.banks q.total (kept_in (place_of name) q)) q)
  unfolding if_accepted
  keep_by-law zero z = record {
    banks = agrees.banks;
    clashes = agrees.clashes;
    kept = keep_stored name d.memory.slices d.memory.tally d.shelf z q agrees.banks agrees.clashes agrees.kept;
  }
  keep_by-law (suc c) z =
      let same : kept.shelf ≡ d.shelf = keep_unchanged name d.memory.slices d.memory.tally d.shelf (λ e. omega arith) in
      subst (λ (shelf : List ℕ). Agrees (depot_of d.memory shelf) q) (sym same) agrees

-- a return, to a state that was counted
module _ (name : List ℕ) (d : Depot) (q : Count) (agrees : Agrees d q) where
  abbrev lent : Memory
  lent = d.memory

  abbrev back : BackResult
  back = come_back name lent.slices lent.tally lent.moved d.shelf

  abbrev left : Memory
  left = memory_of back.slices lent.trail back.moved back.tally

  return_by : (c : ℕ) → back.number ≡ c → (c ≡ 0 → of_banks q.banks (q.kept (place_of name)) ≡ [] → ⊥)
      → Agrees (depot_of left d.shelf) (if_accepted c (count_of q.banks (kept_total (of_banks q.banks (q.kept (place_of name))) q.total) q.kept) q)
  unfolding if_accepted graph_in
  return_by zero z own =
      let i = place_of name in
      let near = back_near name lent.slices lent.tally lent.moved d.shelf z in
      let tally = back_tally name lent.slices lent.tally lent.moved d.shelf z in
      let total = own_total q.banks i d.shelf q.total (q.kept i) (agrees.kept i near) (own refl) in
      record {
        banks = tally_banks (back_plan name lent.slices lent.tally lent.moved d.shelf z) ∙ agrees.banks;
        clashes =
            ap (λ (t : Tally). t.clashes) tally
            ∙ subst (λ (n : ℕ). (tally_in n (place n i d.shelf)).clashes ≡ kept_total (of_banks q.banks (q.kept i)) q.total) (sym agrees.banks) total;
        kept = agrees.kept;
      }
  return_by (suc c) z own =
      let same = back_unchanged name lent.slices lent.tally lent.moved d.shelf (λ e. omega arith) in
      record {
        banks = ap (λ (r : BackResult). r.tally.banks) same ∙ agrees.banks;
        clashes = ap (λ (r : BackResult). r.tally.clashes) same ∙ agrees.clashes;
        kept = agrees.kept;
      }

-- a call that opens a plan, or leaves all as it was
opened_or_same : (c : Call) (d : Depot) (q : Count) → Agrees d q → Opens c d q → Agrees (made c d).depot (counted c (made c d).answer q)
opened_or_same c d q agrees (inl new) = new
opened_or_same c d q agrees (inr (same, old, none)) = rw (same, old) agrees

pub not_both : false ≡ true → ⊥
not_both e = subst T (sym e) tt

opened_first : (c : Call) (d : Depot) (q : Count) → begins c (made c d).answer ≡ true → Opens c d q
    → Agrees (made c d).depot (counted c (made c d).answer q)
opened_first c d q new (inl agrees) = agrees
opened_first c d q new (inr (same, old, none)) = absurd (not_both (sym none ∙ new))

-- every call keeps the count right
pub agrees_after : (c : Call) (d : Depot) (q : Count) → Agrees d q → Own c (made c d).answer q → Agrees (made c d).depot (counted c (made c d).answer q)
agrees_after (Open n) d q agrees own = opened_or_same (Open n) d q agrees (open_step n d q agrees.kept)
agrees_after (Edit k a b) d q agrees own =
    unfold made counted in edited_agrees k d q agrees (edit k a b d.memory).answer.number (edit k a b d.memory).memory
    (λ z. (edit_clashes k a b d.memory z, edit_banks k a b d.memory z)) (edit_refused k a b d.memory)
agrees_after (Record k a b size journal) d q agrees own =
    let r = recorded k a b d.memory size journal in
    unfold made counted in edited_agrees k d q agrees r.answer.number r.memory
    (record_made k a b d.memory size journal) (record_refused k a b d.memory size journal)
agrees_after (SetCap most) d q agrees own = unfold made counted set_cap in cap_by-law most d q agrees (set_cap_number most d.memory.slices d.memory.tally)
agrees_after (Read bytes) d q agrees own = opened_or_same (Read bytes) d q agrees (read_step bytes d q agrees.kept)
agrees_after (Replay bytes) d q agrees own = opened_or_same (Replay bytes) d q agrees (replay_step bytes d q agrees.kept)
agrees_after (OpenShelf n) d q agrees own = unfold made counted open_shelf in shelf_by n d q agrees (open_shelf_number n d.shelf)
agrees_after (Keep name) d q agrees own =
    unfold made counted in keep_by-law name d q agrees (keep name d.memory.slices d.memory.tally d.shelf).number refl
agrees_after (Return name) d q agrees own =
    unfold made counted in return_by name d q agrees (come_back name d.memory.slices d.memory.tally d.memory.moved d.shelf).number refl own

-- and a call that opens a plan makes it right
pub agrees_first : (c : Call) (d : Depot) (q : Count) → Shelved d.shelf q → begins c (made c d).answer ≡ true
    → Agrees (made c d).depot (counted c (made c d).answer q)
agrees_first (Open n) d q shelved new = opened_first (Open n) d q new (open_step n d q shelved)
agrees_first (Edit k a b) d q shelved new = unfold begins in absurd (not_both new)
agrees_first (Record k a b size journal) d q shelved new = unfold begins in absurd (not_both new)
agrees_first (SetCap most) d q shelved new = unfold begins in absurd (not_both new)
agrees_first (Read bytes) d q shelved new = opened_first (Read bytes) d q new (read_step bytes d q shelved)
agrees_first (Replay bytes) d q shelved new = opened_first (Replay bytes) d q new (replay_step bytes d q shelved)
agrees_first (OpenShelf n) d q shelved new = unfold begins in absurd (not_both new)
agrees_first (Keep name) d q shelved new = unfold begins in absurd (not_both new)
agrees_first (Return name) d q shelved new = unfold begins in absurd (not_both new)
