-- The replay of fields, as the functions make it.
use mathlib.Core.Bool.{Bool, true, false}
use mathlib.Core.List.{List}
use mathlib.Core.Path.{◌≡◌, refl, sym, ap, ◌∙◌}
use Prim.Native.Nat.{ℕ, zero, suc, ◌+◌, ◌-◌, ◌≤◌, ◌<◌}
use native.Mathlib.Omega.{arith}
use lib.ListN.{length, take, drop, length-drop}
use lib.Seq.{take_all, drop-drop, length-take-le}
use borrow.Author.Tests.{leb-true}
use Rattle.rule.specs.Graph.{Graph}
use Rattle.rule.specs.declared.Entry.{Entry}
use Rattle.rule.specs.declared.Entry.TheVariants.{Clash, Rank}
use Rattle.memory.specs.Memory.{Memory, Ready}
use Rattle.planner.specs.declared.Edited.{Edited}
use Rattle.planner.specs.States.{State, make, set_rank, begun_by, entry_number, enter}
use Rattle.planner.specs.inner.Held.{at, Fresh, HoldsState, tried, Stands, RankFits, EntryDone, Enters}
use Rattle.planner.proofs.Made.{ready_banks}
use Rattle.planner.proofs.Outcomes.{edited_banks}
use Rattle.journal_fields.specs.declared.field.Fault.{Fault}
use Rattle.journal_fields.specs.declared.field.Fault.TheVariants.{Wrong, Misnumbered, Short}
use Rattle.std.proofs.Common.{Result, Ok, Err}
use Rattle.journal_replay.specs.declared.rerun.Replayed.{Replayed}
use Rattle.journal_replay.specs.declared.rerun.Entered.{Entered}
use Rattle.journal_fields.specs.Fields.{entry_size, numbered, rank_fits, Fields, field_of, fields_by, fields_from, fields}
use Rattle.journal_fields.specs.Numbers.{refusal}
use Rattle.journal_replay.specs.Replay.{ReplayResult, replay_result, replay_answer, ended, enter_by, enter_all}
use Rattle.journal_replay.specs.inner.Steps.{field_number, field_step, FieldDone, EntersField, enter_fields, last_by, ending}
use Rattle.journal_fields.proofs.Reading.{fields_step}
use Rattle.journal_fields.proofs.Forms.{whole_long, misnumbered_long, short_short}
use Rattle.journal_fields.proofs.Bytes.{whole_field}

-- an entry, once it has come
pub enter_begun : (e : Entry) (s : State) → begun_by e s.begun ≡ (enter e s).begun
unfolding enter begun_by make set_rank
enter_begun (Clash k a b) s = refl
enter_begun (Rank b r) s = refl

-- a rank that is read fits
pub read_fits : (w : Bool) (i : ℕ) (journal : List ℕ) (start : ℕ) (f : Result Entry Fault) → f ≡ field_of w i (take (length journal - start) (drop start journal))
    → (e : Entry) → f ≡ Ok e → RankFits e
read_fits w i journal start f read e q = by e (whole_field w i _ e (sym read ∙ q)).fits
  where
    by : (e : Entry) → rank_fits e ≡ true → RankFits e
    by (Clash k a b) h = tt
    by (Rank b r) h = leb-true r 9999 (unfold rank_fits in h)

-- a field that is no entry
field_fault : (x : Fault) (s : State) (m : Memory) (begun : Bool) → Stands s m → FieldDone (Err x) s (refusal x) begun m
unfolding field_number field_step refusal tried
field_fault Wrong s m begun h = record { is = refl; stands = h; begun_is = λ z. absurd (omega arith) }
field_fault Misnumbered s m begun h = record { is = refl; stands = h; begun_is = λ z. absurd (omega arith) }
field_fault Short s m begun h = record { is = refl; stands = h; begun_is = λ z. absurd (omega arith) }

-- a field that is one: its entry is entered
field_entry : (e : Entry) (s : State) (number : ℕ) (m' : Memory) → EntryDone e s number m' → FieldDone (Ok e) s number (begun_by e s.begun) m'
unfolding field_number field_step
field_entry e s number m' d = record { is = d.is; stands = d.stands; begun_is = λ z. enter_begun e s }

-- the field from `start` on, as a part of the journal: field i is entry n
module _ (journal : List ℕ) (w : Bool) (start i n : ℕ) (entry : n ≡ i - 1) (f : Result Entry Fault) (read : f ≡ field_of w n (take (length journal - start) (drop start journal)))
    (begun : Bool) (m : Memory) (r : Entered) (field : r.field ≡ i) (next : r.next ≡ start + entry_size w) where
  here : f ≡ field_of w (i - 1) (drop start journal)
  here =
      read
      ∙ ap (field_of w n) (take_all (length journal - start) (drop start journal) (omega (arith, length-drop start journal)))
      ∙ ap (λ (k : ℕ). field_of w k (drop start journal)) entry

  pub enters_none : (x : Fault) → f ≡ Err x → r.number ≡ refusal x → EntersField journal w start i begun m r m
  enters_none x k z = record {
    field = field;
    next = next;
    of = λ G h fresh. rw (z, ← here, k) (field_fault x (at begun G m) m r.begun (record { memory = refl; ready = h; fresh = fresh }));
  }

  pub enters_one : (e : Entry) → f ≡ Ok e → (a : Edited) (m' : Memory) → Enters begun e m a m'
      → r.number ≡ a.answer.number → r.begun ≡ begun_by e begun → EntersField journal w start i begun m r m'
  enters_one e q a m' d z b = record {
    field = field;
    next = next;
    of = λ G h fresh. rw (z, b, ← here, q) (field_entry e (at begun G m) a.answer.number m' (d.of G h fresh));
  }

module _ (w : Bool) where
  -- what is ahead after field i, whose number is n: entry i is the next
  unfoldable pub going : ℕ → ℕ → List ℕ → State → ReplayResult
  going zero i bytes s = enter_fields (suc i) (fields_from w i bytes) s
  going (suc c) i bytes s = replay_result (replay_answer (suc c) i 0) s.memory

  -- field i is this one, of enough bytes
  by_number : (n i : ℕ) (s t : State) (bytes : List ℕ) → enter_by n i s (enter_fields (suc i) (fields_from w i bytes) t) ≡ going n i bytes (tried n t s)
  unfolding enter_by going tried
  by_number zero i s t bytes = refl
  by_number (suc c) i s t bytes = refl

  by_wrong : (c i : ℕ) (s : State) (bytes : List ℕ) → ended (suc c) i 0 s.memory ≡ going (suc c) i bytes (tried (suc c) s s)
  unfolding ended going tried
  by_wrong c i s bytes = refl

  by_field : (f : Result Entry Fault) (i : ℕ) (s : State) (bytes rest : List ℕ) → f ≡ field_of w i bytes → entry_size w ≤ length bytes
      → enter_fields (suc i) (fields_by f (length bytes) (fields_from w (suc i) rest)) s
      ≡ going (field_number f s) (suc i) rest (tried (field_number f s) (field_step f s) s)
  unfolding enter_fields fields_by field_number field_step enter_all
  by_field (Ok e) i s bytes rest q l = by_number (entry_number e s) (suc i) s (enter e s) rest
  by_field (Err Wrong) i s bytes rest q l = by_wrong 13 (suc i) s rest
  by_field (Err Misnumbered) i s bytes rest q l = by_wrong 20 (suc i) s rest
  by_field (Err Short) i s bytes rest q l = absurd (omega (arith, short_short w i bytes q))

  field_step-law : (i : ℕ) (bytes : List ℕ) (s : State) → entry_size w ≤ length bytes
      → let f = field_of w i bytes in
      enter_fields (suc i) (fields_from w i bytes) s ≡ going (field_number f s) (suc i) (drop (entry_size w) bytes) (tried (field_number f s) (field_step f s) s)
  field_step-law i bytes s l =
      ap (λ (f : Fields). enter_fields (suc i) f s) (fields_step w i bytes) ∙ by_field (field_of w i bytes) i s bytes (drop (entry_size w) bytes) refl l

  -- fewer bytes are left
  by_last : (f : Result Entry Fault) (i : ℕ) (bytes : List ℕ) (rest : Fields) (s : State) → f ≡ field_of w i bytes → length bytes < entry_size w
      → enter_fields (suc i) (fields_by f (length bytes) rest) s ≡ replay_result (last_by f (length bytes) i) s.memory
  unfolding enter_fields fields_by last_by enter_all ended
  by_last (Ok e) i bytes rest s q l = absurd (omega (arith, whole_long w i bytes e q))
  by_last (Err Wrong) i bytes rest s q l = let e : suc i ≡ i + 1 = omega arith in ap (λ (k : ℕ). replay_result (replay_answer 14 k 0) s.memory) e
  by_last (Err Misnumbered) i bytes rest s q l = absurd (omega (arith, misnumbered_long w i bytes q))
  by_last (Err Short) i bytes rest s q l = refl

  going_end : (n i : ℕ) (bytes : List ℕ) (s : State) → (n ≡ 0 → length bytes < entry_size w) → going n i bytes s ≡ replay_result (ending w n i bytes) s.memory
  unfolding going ending
  going_end zero i bytes s h =
      ap (λ (f : Fields). enter_fields (suc i) f s) (fields_step w i bytes)
      ∙ by_last (field_of w i bytes) i bytes (fields_from w (suc i) (drop (entry_size w) bytes)) s refl (h refl)
  going_end (suc c) i bytes s h = refl

  going_on : (n i : ℕ) (bytes : List ℕ) (s : State) → n ≡ 0 → going n i bytes s ≡ enter_fields (suc i) (fields_from w i bytes) s
  unfolding going
  going_on n i bytes s z = rw z

-- a field leaves a plan of as many banks
enter_banks : (e : Entry) (s : State) → (enter e s).graph.banks ≡ s.graph.banks
unfolding enter make set_rank
enter_banks (Clash k a b) s = edited_banks k s.graph a.0 b.0
enter_banks (Rank b r) s = refl

step_banks : (f : Result Entry Fault) (s : State) → (field_step f s).graph.banks ≡ s.graph.banks
unfolding field_step
step_banks (Ok e) s = enter_banks e s
step_banks (Err Wrong) s = refl
step_banks (Err Misnumbered) s = refl
step_banks (Err Short) s = refl

tried_banks : (n : ℕ) (new old : State) → new.graph.banks ≡ old.graph.banks → (tried n new old).graph.banks ≡ old.graph.banks
unfolding tried
tried_banks zero new old e = e
tried_banks (suc c) new old e = refl

done_banks : (f : Result Entry Fault) (s : State) (n : ℕ) (begun : Bool) (m' : Memory) → FieldDone f s n begun m' → m'.tally.banks ≡ s.graph.banks
done_banks f s n begun m' d = ready_banks _ m' d.stands.ready ∙ tried_banks (field_number f s) (field_step f s) s (step_banks f s)

-- where a replay stands after a field
pub record Ahead (journal : List ℕ) (w : Bool) (first : ℕ) (G : Graph) (m : Memory) (r : Entered) (m' : Memory) : Type 0 where
  pub state : State
  pub stands : Stands state m'
  pub begun_is : r.number ≡ 0 → r.begun ≡ state.begun
  pub ahead : enter_fields 2 (fields (drop first journal)) (at false G m) ≡ going w r.number r.field (drop r.next journal) state

-- a field not refused leads to the state in which the next one starts
next_begun : (n : ℕ) (begun : Bool) (new old : State) → (n ≡ 0 → begun ≡ new.begun) → n ≡ 0 → begun ≡ (tried n new old).begun
unfolding tried
next_begun zero begun new old b z = b z
next_begun (suc c) begun new old b z = absurd (omega arith)

module _ (journal : List ℕ) (w : Bool) (first : ℕ) (G : Graph) (m : Memory) where
  pub ahead_start : Ready G m → Fresh false G → w ≡ numbered (take (length journal - first) (drop first journal))
      → (r : Entered) → r.number ≡ 0 → r.field ≡ 1 → r.begun ≡ false → r.next ≡ first → Ahead journal w first G m r m
  unfolding going fields
  ahead_start h f v r z i b n =
      let all = take_all (length journal - first) (drop first journal) (omega (arith, length-drop first journal)) in
      record {
        state = at false G m;
        stands = record { memory = refl; ready = h; fresh = f };
        begun_is = λ q. b;
        ahead = rw (z, i, n) (ap (λ (u : Bool). enter_fields 2 (fields_from u 1 (drop first journal)) (at false G m)) (sym (v ∙ ap numbered all)));
      }

  module _ (r : Entered) (m' : Memory) (x : Ahead journal w first G m r m') (z : r.number ≡ 0) where
    fresh_now : Fresh r.begun x.state.graph
    fresh_now = rw (x.begun_is z) x.stands.fresh

    -- memory holds a plan, at this point
    pub ahead_holds : HoldsState r.begun m'
    ahead_holds = (x.state.graph, x.stands.ready, fresh_now)

    -- the next field leaves the number of banks
    pub ahead_banks : (r' : Entered) (m'' : Memory) → EntersField journal w r.next (r.field + 1) r.begun m' r' m'' → m''.tally.banks ≡ m'.tally.banks
    ahead_banks r' m'' d = done_banks _ _ _ _ m'' (d.of x.state.graph x.stands.ready fresh_now) ∙ sym (ready_banks _ m' x.stands.ready)

    now_at : x.state ≡ at r.begun x.state.graph m'
    now_at i = at (sym (x.begun_is z) i) x.state.graph (sym x.stands.memory i)

    pub ahead_turn : entry_size w ≤ length journal - r.next
        → (r' : Entered) (m'' : Memory) → EntersField journal w r.next (r.field + 1) r.begun m' r' m'' → Ahead journal w first G m r' m''
    ahead_turn l r' m'' d =
        let i : ℕ = r.field in
        let s : State = at r.begun x.state.graph m' in
        let b : List ℕ = drop r.next journal in
        let f : Result Entry Fault = field_of w i b in
        let t : State = tried (field_number f s) (field_step f s) s in
        let same : i + 1 - 1 ≡ i = omega arith in
        let done : FieldDone f s r'.number r'.begun m'' = rw same at (d.of x.state.graph x.stands.ready fresh_now) in
        let rest : List ℕ = drop r'.next journal in
        let up : r'.field ≡ suc i = omega (arith, d.field) in
        let on : drop (entry_size w) b ≡ rest = drop-drop (entry_size w) r.next journal ∙ ap (λ (k : ℕ). drop k journal) (sym d.next) in
        record {
          state = t;
          stands = done.stands;
          begun_is = λ q. next_begun (field_number f s) r'.begun (field_step f s) s (λ y. done.begun_is (done.is ∙ y)) (sym done.is ∙ q);
          ahead =
              x.ahead
              ∙ going_on w r.number i b x.state z
              ∙ ap (enter_fields (suc i) (fields_from w i b)) now_at
              ∙ field_step-law w i b s (omega (arith, length-drop r.next journal))
              ∙ ap (λ (x : List ℕ). going w (field_number f s) (suc i) x t) on
              ∙ ap (λ (x : ℕ). going w x (suc i) rest t) (sym done.is)
              ∙ ap (λ (x : ℕ). going w r'.number x rest t) (sym up);
        }

  pub ahead_end : (r : Entered) (m' : Memory) → Ahead journal w first G m r m' → (r.number ≡ 0 → length journal - r.next < entry_size w) → (a : Replayed)
      → a ≡ ending w r.number r.field (take (length journal - r.next) (drop r.next journal))
      → replay_result a m' ≡ enter_fields 2 (fields (drop first journal)) (at false G m)
  ahead_end r m' x e a q =
      let rest = take_all (length journal - r.next) (drop r.next journal) (omega (arith, length-drop r.next journal)) in
      ap (λ (x : Replayed). replay_result x m') (q ∙ ap (ending w r.number r.field) rest)
      ∙ ap (replay_result (ending w r.number r.field (drop r.next journal))) x.stands.memory
      ∙ sym (x.ahead ∙ going_end w r.number r.field (drop r.next journal) x.state
      (λ z. let h : length journal - r.next < entry_size w = e z in omega (arith, h, length-drop r.next journal)))

-- the bytes from `at` on
pub rest_few : (journal : List ℕ) (at : ℕ) → length journal ≤ 60000 → at ≤ length journal → length (take (length journal - at) (drop at journal)) < 65536
rest_few journal at h k = omega (arith, length-take-le (length journal - at) (drop at journal) (omega (arith, length-drop at journal)))
