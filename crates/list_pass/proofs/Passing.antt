-- A row's edit, and the pass over the rows, as the functions make them.
use mathlib.Core.Bool.{Bool, true, false}
use mathlib.Core.List.{List, [], ◌∷◌, map}
use mathlib.Core.Path.{◌≡◌, refl, sym, ap, ◌∙◌}
use Prim.Native.Nat.{ℕ, zero, suc, ◌+◌, ◌-◌, ◌≤◌, ◌<◌}
use native.Mathlib.Omega.{arith}
use lib.ListN.{length, take, drop, drop_of_length-le}
use borrow.Author.Tests.{lt-ltb, le-ltb}
use Rattle.rule.specs.declared.Bank.{Bank}
use Rattle.rule.specs.Graph.{Graph, neighbours}
use Rattle.rule.specs.declared.Kind.TheVariants.{Striking}
use Rattle.rule.specs.declared.Entry.{Entry}
use Rattle.rule.specs.declared.Entry.TheVariants.{Clash, Rank}
use Rattle.planner.specs.declared.Edited.{Edited}
use Rattle.planner.specs.Questions.{first_no}
use Rattle.memory.specs.Memory.{Memory}
use Rattle.memory.specs.Memory.{Ready}
use Rattle.text.specs.Text.{rows}
use Rattle.text.specs.Places.{before, Finds}
use Rattle.text.proofs.Theorems.{rows_at}
use Rattle.list_rows.specs.declared.row.Change.{Change}
use Rattle.list_rows.specs.declared.row.Change.TheVariants.{One, StrikeAll}
use Rattle.list_rows.specs.declared.row.Row.{Row}
use Rattle.list_rows.specs.declared.row.Row.TheVariants.{Banks, Edit, Unreadable, Retired}
use Rattle.list_rows.specs.Rows.{row_of, say_in}
use Rattle.list_pass.specs.declared.Step.{Step}
use Rattle.list_pass.specs.Pass.{ListResult, list_result, reading, started, strike_each, change, change_number, row_number, step, pass_by, pass}
use Rattle.planner.specs.States.{State, make, set_rank, begun_by, enter}
use Rattle.list_pass.specs.inner.Steps.{ChangeFits, Changes, Applies, change_begun, RowDone, row_end, row_at, said_rows, no_edit, EditsRow, ending}
use Rattle.planner.specs.inner.Held.{at, Fresh, HoldsState, tried, Stands, EntryDone, RankFits}
use Rattle.planner.proofs.Made.{ready_banks}

-- has an edit come, once a row has?
enter_begun : (e : Entry) (s : State) → (enter e s).begun ≡ begun_by e s.begun
unfolding enter begun_by make set_rank
enter_begun (Clash k a b) s = refl
enter_begun (Rank b r) s = refl

each_begun : (b : ℕ) (vs : List ℕ) (s : State) → s.begun ≡ true → (strike_each b vs s).begun ≡ true
unfolding strike_each make
each_begun b [] s e = e
each_begun b (v ∷ vs) s e = each_begun b vs (make Striking b v s) refl

change_begun-law : (c : Change) (s : State) → (change c s).begun ≡ change_begun c s.begun
unfolding change change_begun
change_begun-law (One e) s = enter_begun e s
change_begun-law (StrikeAll b) s = each_begun b.0 (neighbours s.graph b.0) (started s) refl

pub one_fits : {c : Change} {e : Entry} → c ≡ One e → ChangeFits c → RankFits e
one_fits q f = rw q at f

module _ (begun : Bool) (G : Graph) (m : Memory) (h : Ready G m) (f : Fresh begun G) where
  abbrev s₀ : State
  s₀ = at begun G m

  pub change_one : (e : Entry) (n : ℕ) (m' : Memory) → EntryDone e s₀ n m' → Changes (One e) s₀ n m'
  unfolding change_number change
  change_one e n m' d = record { is = d.is; stands = d.stands }

  -- all clashes of a bank that is not there, and of one that is
  pub change_none : (b : Bank) → m.tally.banks ≤ b.0 → Changes (StrikeAll b) s₀ 4 m
  unfolding change_number change first_no tried
  change_none b l =
      let far = le-ltb b.0 G.banks (omega (arith, ready_banks G m h)) in
      record { is = rw far; stands = rw far (record { memory = refl; ready = h; fresh = f }) }

  pub change_all : (b : Bank) (n : ℕ) (m' : Memory) → b.0 < m.tally.banks → n ≡ 0 → Stands (strike_each b.0 (neighbours G b.0) (at true G m)) m'
      → Changes (StrikeAll b) s₀ n m'
  unfolding change_number change first_no tried
  change_all b n m' l z s =
      let near = lt-ltb b.0 G.banks (omega (arith, ready_banks G m h)) in
      record { is = rw near z; stands = rw near s }

  row_edit : (c : Change) (n : ℕ) (m' : Memory) → Changes c s₀ n m' → RowDone (Edit c) s₀ n m'
  unfolding row_number step
  row_edit c n m' d = record { is = d.is; stands = d.stands }

  -- a row that is no edit
  row_other : (r : Row) → ((c : Change) → r ≡ Edit c → ⊥) → RowDone r s₀ (no_edit r) m
  unfolding row_number step tried no_edit
  row_other (Banks n) k = record { is = refl; stands = record { memory = refl; ready = h; fresh = f } }
  row_other (Edit c) k = absurd (k c refl)
  row_other Unreadable k = record { is = refl; stands = record { memory = refl; ready = h; fresh = f } }
  row_other Retired k = record { is = refl; stands = record { memory = refl; ready = h; fresh = f } }

-- it has a number
pub no_edit_some : (r : Row) → no_edit r ≡ 0 → ⊥
unfolding no_edit
no_edit_some (Banks n) z = omega arith
no_edit_some (Edit c) z = omega arith
no_edit_some Unreadable z = omega arith
no_edit_some Retired z = omega arith

-- the row from `start` to `end`
module _ (list : List ℕ) (v : Bool) (start end : ℕ) (f : Finds list start 10 end) where
  row_next : end + 1 ≡ row_end list start + 1
  unfolding row_end
  row_next = ap (λ (n : ℕ). n + 1) f.is

  row_bytes : take (end - start) (drop start list) ≡ row_at list start
  unfolding row_at row_end
  row_bytes = ap (λ (n : ℕ). take (n - start) (drop start list)) f.is

  module _ (i : ℕ) (begun : Bool) (m : Memory) (r : Step) (row : r.row ≡ i) (next : r.next ≡ end + 1) where
    -- it does not read as an edit
    pub edits_none : (x : Row) → x ≡ say_in row_of v (take (end - start) (drop start list)) → ((c : Change) → x ≡ Edit c → ⊥) → r.number ≡ no_edit x
        → EditsRow list v start i begun m r m
    edits_none x e k z = record {
      row = row;
      next = next ∙ row_next;
      on = omega (arith, f.low);
      within = omega (arith, f.high);
      of = λ G h f'. rw (z, ← (e ∙ ap (say_in row_of v) row_bytes)) (row_other begun G m h f' x k);
      came = λ G q. absurd (no_edit_some x (sym z ∙ q));
    }

    -- it reads as an edit
    pub edits_one : (c : Change) → Edit c ≡ say_in row_of v (take (end - start) (drop start list)) → (a : Edited) (m' : Memory) → Applies c begun m a m' → r.number ≡ a.answer.number
        → r.begun ≡ change_begun c begun → EditsRow list v start i begun m r m'
    edits_one c e a m' d z q = record {
      row = row;
      next = next ∙ row_next;
      on = omega (arith, f.low);
      within = omega (arith, f.high);
      of = λ G h f'. rw (z, ← (e ∙ ap (say_in row_of v) row_bytes)) (row_edit begun G m h f' c a.answer.number m' (d.of G h f'));
      came = λ G y. q ∙ sym (change_begun-law c (at begun G m)) ∙ unfold step in ap (λ (x : Row). (step x (at begun G m)).begun) (e ∙ ap (say_in row_of v) row_bytes);
    }

-- what is ahead after row i, whose number is n
unfoldable pub going : ℕ → ℕ → List Row → State → ListResult
going zero i rs s = pass (suc i) rs s
going (suc c) i rs s = list_result (reading (suc c) i) s.memory

-- row i has number n
by_row : (n i : ℕ) (rs : List Row) (s t : State) → pass_by n i s (pass (suc i) rs t) ≡ going n i rs (tried n t s)
unfolding pass_by going tried
by_row zero i rs s t = refl
by_row (suc c) i rs s t = refl

row_step : (i : ℕ) (r : Row) (rs : List Row) (s : State)
    → pass i (r ∷ rs) s ≡ going (row_number r s) i rs (tried (row_number r s) (step r s) s)
unfolding pass
row_step i r rs s = by_row (row_number r s) i rs s (step r s)

going_on : (n i : ℕ) (rs : List Row) (s : State) → n ≡ 0 → going n i rs s ≡ pass (suc i) rs s
unfolding going
going_on n i rs s z = rw z

-- there is no further row, or row i is refused
going_end : (v : Bool) (n i : ℕ) (list : List ℕ) (next : ℕ) (s : State) → (n ≡ 0 → length list ≤ next)
    → going n i (said_rows v (drop next list)) s ≡ list_result (ending n i) s.memory
unfolding going ending rows pass
going_end v zero i list next s e =
    let l : length list ≤ next = e refl in
    rw (drop_of_length-le list l)
going_end v (suc c) i list next s e = refl

-- the row that starts at `start`, and the rows after it
cut : (v : Bool) (list : List ℕ) (start next : ℕ) → start < length list → next ≡ row_end list start + 1 → next ≤ length list + 1
    → said_rows v (drop start list) ≡ say_in row_of v (row_at list start) ∷ said_rows v (drop next list)
unfolding row_at row_end
cut v list start next l e u =
    let end : ℕ = start + before 10 (drop start list) in
    rw e (ap (map (say_in row_of v)) (rows_at list start end l (record { is = refl; low = omega arith; high = omega arith })))

-- where a pass stands after a row
pub record Ahead (list : List ℕ) (v : Bool) (i first : ℕ) (G : Graph) (m : Memory) (r : Step) (m' : Memory) : Type 0 where
  pub graph : Graph
  pub begun : Bool
  pub same : r.number ≡ 0 → r.begun ≡ begun
  pub ready : Ready graph m'
  pub fresh : Fresh begun graph
  pub ahead : pass (suc i) (said_rows v (drop first list)) (at false G m) ≡ going r.number r.row (said_rows v (drop r.next list)) (at begun graph m')

module _ (list : List ℕ) (v : Bool) (i first : ℕ) (G : Graph) (m : Memory) where
  pub ahead_start : Ready G m → Fresh false G → (r : Step) → r.number ≡ 0 → r.row ≡ i → r.next ≡ first → r.begun ≡ false → Ahead list v i first G m r m
  unfolding going
  ahead_start h f r z k n b = record { graph = G; begun = false; same = λ q. b; ready = h; fresh = f; ahead = rw (z, k, n) }

  -- what the next row asks
  pub ahead_held : (r : Step) (m' : Memory) → Ahead list v i first G m r m' → r.number ≡ 0 → HoldsState r.begun m'
  ahead_held r m' w z = (w.graph, w.ready, rw (w.same z) w.fresh)

  pub ahead_turn : (r : Step) (m' : Memory) (w : Ahead list v i first G m r m') → r.number ≡ 0 → r.next < length list
      → (r' : Step) (m'' : Memory) → EditsRow list v r.next (r.row + 1) r.begun m' r' m'' → Ahead list v i first G m r' m''
  ahead_turn r m' w z l r' m'' d₀ =
      let H : Graph = w.graph in
      let s : State = at w.begun H m' in
      let b : Row = say_in row_of v (row_at list r.next) in
      let t : State = tried (row_number b s) (step b s) s in
      let d = turned (w.same z) d₀ in
      let done = d.of H w.ready w.fresh in
      let rest : List Row = said_rows v (drop r'.next list) in
      let up : r'.row ≡ suc r.row = omega (arith, d.row) in
      record {
        graph = t.graph;
        begun = t.begun;
        same = λ q. d.came H q ∙ sym (ap (λ (n : ℕ). (tried n (step b s) s).begun) (sym done.is ∙ q) ∙ unfold tried in refl);
        ready = done.stands.ready;
        fresh = done.stands.fresh;
        ahead =
            w.ahead
            ∙ going_on r.number r.row (said_rows v (drop r.next list)) s z
            ∙ ap (λ (x : List Row). pass (suc r.row) x s) (cut v list r.next r'.next l d.next d.within)
            ∙ row_step (suc r.row) b rest s
            ∙ ap (λ (x : ℕ). going x (suc r.row) rest t) (sym done.is)
            ∙ ap (λ (x : ℕ). going r'.number x rest t) (sym up)
            ∙ ap (λ (x : Memory). going r'.number r'.row rest (at t.begun t.graph x)) (sym done.stands.memory);
      }
    where
      turned : {p q : Bool} → p ≡ q → EditsRow list v r.next (r.row + 1) p m' r' m'' → EditsRow list v r.next (r.row + 1) q m' r' m''
      turned e x = rw e at x

  pub ahead_end : (r : Step) (m' : Memory) → Ahead list v i first G m r m' → (r.number ≡ 0 → length list ≤ r.next)
      → list_result (ending r.number r.row) m' ≡ pass (suc i) (said_rows v (drop first list)) (at false G m)
  ahead_end r m' w e = sym (w.ahead ∙ going_end v r.number r.row list r.next (at w.begun w.graph m') e)
