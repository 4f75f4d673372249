-- A replay refused after the first field leaves what the fields before that field leave.
use mathlib.Core.Bool.{Bool, true, false, cond}
use mathlib.Core.List.{List, [], ◌∷◌}
use mathlib.Core.Path.{◌≡◌, refl, sym, ap, ◌∙◌, subst}
use Prim.Native.Nat.{ℕ, zero, suc, ◌+◌, ◌*◌, ◌≤◌}
use native.Mathlib.Omega.{arith}
use lib.Dec.{eqb}
use lib.ListN.{length, take, drop, length-take}
use lib.Seq.{get_or-take}
use Rattle.memory.specs.Plan.{PlanOf}
use Rattle.memory.specs.Memory.{Memory}
use Rattle.rule.specs.declared.Entry.{Entry}
use Rattle.planner.specs.States.{State, entry_number, enter, begin, begin_number}
use Rattle.journal_fields.specs.Fields.{first_size, entry_size, banks_in, numbered, fields}
use Rattle.journal_replay.specs.Replay.{ReplayResult, replay_result, replay_answer, ended, enter_by, enter_all}
use Rattle.journal_replay.specs.Replay.{replay_number, replay_by, replayed}
use Rattle.journal_fields.proofs.Reading.{drop_take}
use Rattle.journal_fields.proofs.Entries.{whole, fit_take}
use Rattle.journal_fields.proofs.Bytes.{fields_fit, fields_front, first_long, first_same}
use Rattle.journal_replay.specs.Ends.{after_first, size_of, RefusedLater}
use Rattle.journal_replay.proofs.Replaying.{replay_from, Reads, number_is, replay_is, opened_reads}
use Rattle.journal_replay.proofs.Holds.{enter_holds, opened_holds}

-- a refusal at field i + k leaves what the k entries before it leave
abbrev Before : ℕ → List Entry → State → ReplayResult → Type 0
Before i es s r = (k : ℕ) × (k ≤ length es) × (r.answer.field ≡ i + k) × (enter_all i (take k es) 0 0 s ≡ replay_result (replay_answer 0 0 0) r.memory)

module _ (wrong left_over : ℕ) where
  by_before : (c i : ℕ) (e : Entry) (es : List Entry) (s : State) → entry_number e s ≡ c
      → (((enter_all (suc i) es wrong left_over (enter e s)).answer.number ≡ 0 → ⊥) → Before (suc i) es (enter e s) (enter_all (suc i) es wrong left_over (enter e s)))
      → ((enter_by c i s (enter_all (suc i) es wrong left_over (enter e s))).answer.number ≡ 0 → ⊥)
      → Before i (e ∷ es) s (enter_by c i s (enter_all (suc i) es wrong left_over (enter e s)))
  unfolding enter_by enter_all ended
  by_before zero i e es s q f z = let b = f z in (suc b.0, omega (arith, b.1), omega (arith, b.2), rw q b.3)
  by_before (suc c) i e es s q f z = (0, omega arith, omega arith, refl)

  end_before : (w i : ℕ) (s : State) → ((ended w i left_over s.memory).answer.number ≡ 0 → ⊥) → Before i [] s (ended w i left_over s.memory)
  unfolding enter_all ended
  end_before zero i s z = absurd (z refl)
  end_before (suc c) i s z = (0, omega arith, omega arith, refl)

  enter_before : (i : ℕ) (es : List Entry) (s : State) → ((enter_all i es wrong left_over s).answer.number ≡ 0 → ⊥) → Before i es s (enter_all i es wrong left_over s)
  unfolding enter_all
  enter_before i [] s z = end_before wrong i s z
  enter_before i (e ∷ es) s z = by_before (entry_number e s) i e es s refl (enter_before (suc i) es (enter e s)) z

abbrev memory_in : ReplayResult → Memory
memory_in r = r.memory

-- a plan was opened where a later field is refused
pub late_number-law : (c : ℕ) (bytes : List ℕ) (m : Memory) → 2 ≤ (replay_by c bytes m).answer.field → c ≡ 0
unfolding replay_by
late_number-law zero bytes m h = refl
late_number-law (suc c) bytes m h = absurd (first (eqb (suc c) 9) h)
  where
    first : (b : Bool) → 2 ≤ cond b 0 1 → ⊥
    first true h = omega arith
    first false h = omega arith

module _ (bytes : List ℕ) (m : Memory) where
  front_reads : Reads bytes (banks_in bytes) (fields (drop first_size bytes)) → (i : ℕ) → i ≤ length (fields (drop first_size bytes)).entries
      → Reads (take (size_of i bytes) bytes) (banks_in bytes) (whole (take i (fields (drop first_size bytes)).entries))
  front_reads r i h =
      let five = first_long bytes r.first in
      let n = length-take (size_of i bytes) bytes in
      let same = first_same (take (size_of i bytes) bytes) bytes (omega arith) five (λ k u. get_or-take (size_of i bytes) bytes k 0 (omega arith)) in
      record {
        within = omega (arith, r.within);
        first = same.0 ∙ r.first;
        banks = same.1;
        fields_are = ap fields (drop_take first_size (entry_size (numbered (drop first_size bytes)) * i) bytes five) ∙ fields_front i (drop first_size bytes) h;
      }

  pub refused_later : ((replayed bytes m).answer.number ≡ 0 → ⊥) → 2 ≤ (replayed bytes m).answer.field → RefusedLater bytes m
  unfolding replay_from begin
  refused_later z h =
      let n = banks_in bytes in
      let o : replay_number bytes m ≡ 0 = late_number-law (replay_number bytes m) bytes m (unfold replayed in h) in
      let r = opened_reads bytes m o in
      let f = fields (drop first_size bytes) in
      let b : begin_number n m ≡ 0 = sym (number_is r m) ∙ o in
      let q = replay_is r m ∙ ap (λ (c : ℕ). replay_from c n f m) b in
      let w = enter_before f.wrong f.left_over 2 f.entries (begin n m) (rw q at z) in
      let k = w.0 in
      let before = enter_holds 2 (take k f.entries) 0 0 (begin n m) (opened_holds bytes m o) (fit_take k f.entries (fields_fit (drop first_size bytes)))
      (ap (λ (x : ReplayResult). x.answer.number) w.3) in
      let q' = replay_is (front_reads r k w.1) m ∙ ap (λ (c : ℕ). replay_from c n (whole (take k f.entries)) m) b in
      record {
        made = k;
        field = ap (λ (x : ReplayResult). x.answer.field) q ∙ w.2;
        same = q' ∙ w.3 ∙ ap (λ (x : ReplayResult). replay_result (replay_answer 0 0 0) x.memory) (sym q);
        plan = subst (λ (x : Memory). PlanOf (after_first k bytes) x.slices x.tally) (ap memory_in w.3 ∙ ap memory_in (sym q)) before;
      }

  by_first : (c : ℕ) → ((replay_by c bytes m).answer.number ≡ 0 → ⊥) → (replay_by c bytes m).answer.field ≤ 1 → (replay_by c bytes m).memory ≡ m
  unfolding replay_by
  by_first zero z h =
      let f = fields (drop first_size bytes) in
      absurd (omega (arith, (enter_before f.wrong f.left_over 2 f.entries (begin (banks_in bytes) m) z).2))
  by_first (suc c) z h = refl

  pub refused_first-law : ((replayed bytes m).answer.number ≡ 0 → ⊥) → (replayed bytes m).answer.field ≤ 1 → (replayed bytes m).memory ≡ m
  unfolding replayed
  refused_first-law z h = by_first (replay_number bytes m) z h
