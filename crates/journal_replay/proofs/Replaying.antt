-- Replay, from the banks and the fields that the bytes read as.
use mathlib.Core.Bool.{Bool, true, cond}
use mathlib.Core.List.{List, [], ◌∷◌, ◌++◌}
use mathlib.Core.Path.{◌≡◌, refl, ap, ◌∙◌}
use Prim.Native.Nat.{ℕ, zero, suc, ◌+◌, ◌*◌, ◌/◌, ◌%◌, ◌≤◌}
use native.Mathlib.Nat.{le_trans, mul-le-mul_left, div-add-mod}
use native.Mathlib.Omega.{arith}
use lib.Dec.{leb, eqb}
use lib.ListN.{length, take, drop, length-take}
use lib.Seq.{take-append-add, length-take-le}
use borrow.Author.Tests.{le-leb, leb-true}
use Rattle.planner.specs.Questions.{first_no}
use Rattle.memory.specs.Memory.{Memory}
use Rattle.rule.specs.declared.Entry.{Entry}
use Rattle.planner.specs.States.{State, entry_number, enter, begin, begin_number}
use Rattle.planner.proofs.Numbers.{none}
use Rattle.journal_fields.specs.Fields.{first_size, entry_size, two_bytes, field_bytes, first_bytes, entries_bytes, journal_bytes, has_first, banks_in, Fields, fields}
use Rattle.journal_replay.specs.Replay.{ReplayResult, replay_result, replay_answer, ended, enter_by, enter_all}
use Rattle.journal_replay.specs.Replay.{replay_number, replay_by, replayed}
use Rattle.journal_fields.specs.Bounds.{RanksFit}
use Rattle.journal_replay.specs.Ends.{SameButLeftOver}
use Rattle.journal_fields.proofs.Entries.{length_entries, whole, fields_cut, fit_take}
use Rattle.journal_fields.proofs.Bytes.{first_has, first_banks, first_drop, length_first, journal_has, journal_banks, journal_fields-law, length_journal}

-- after the first field: by questions 3 and 4, the refusal, or the entries in turn
unfoldable pub replay_from : ℕ → ℕ → Fields → Memory → ReplayResult
replay_from zero n f m = enter_all 2 f.entries f.wrong f.left_over (begin n m)
replay_from (suc c) n f m = replay_result (replay_answer (suc c) (cond (eqb (suc c) 9) 0 1) 0) m

-- the bytes are a journal of n banks and these fields, and not too long
pub record Reads (bytes : List ℕ) (n : ℕ) (f : Fields) : Type 0 where
  pub within : length bytes ≤ 60000
  pub first : has_first bytes ≡ true
  pub banks : banks_in bytes ≡ n
  pub fields_are : fields (drop first_size bytes) ≡ f

module _ {bytes : List ℕ} {n : ℕ} {f : Fields} (r : Reads bytes n f) (m : Memory) where
  pub number_is : replay_number bytes m ≡ begin_number n m
  unfolding replay_number begin_number first_no
  number_is = rw (le-leb (length bytes) 60000 r.within, r.first, r.banks)

  by_is : (c : ℕ) → replay_by c bytes m ≡ replay_from c n f m
  unfolding replay_by replay_from
  by_is zero = rw (r.fields_are, r.banks)
  by_is (suc c) = refl

  pub replay_is : replayed bytes m ≡ replay_from (begin_number n m) n f m
  unfolding replayed
  replay_is = ap (λ (c : ℕ). replay_by c bytes m) number_is ∙ by_is (begin_number n m)

-- bytes whose first field opens a plan
pub opened_reads : (bytes : List ℕ) (m : Memory) → replay_number bytes m ≡ 0 → Reads bytes (banks_in bytes) (fields (drop first_size bytes))
unfolding replay_number
opened_reads bytes m z =
    let p = none (leb (length bytes) 60000) 8 _ z in
    let q = none (has_first bytes) 12 _ p.1 in
    record { within = leb-true (length bytes) 60000 p.0; first = q.0; banks = refl; fields_are = refl }

-- a journal that was written
pub journal_reads : (w : Bool) (n : ℕ) (es : List Entry) → RanksFit es → length (journal_bytes w n es) ≤ 60000 → Reads (journal_bytes w n es) n (whole es)
journal_reads w n es f h = record { within = h; first = journal_has w n es; banks = journal_banks w n es; fields_are = journal_fields-law w n es f }

-- two replays of which one has bytes left over
by_more : (c i : ℕ) (s : State) (cut uncut : ReplayResult) (more : ℕ) → SameButLeftOver cut uncut more
    → SameButLeftOver (enter_by c i s cut) (enter_by c i s uncut) more
unfolding enter_by
by_more zero i s cut uncut more h = h
by_more (suc c) i s cut uncut more h =
    record { number = refl; field = refl; memory = refl; left_over = λ z. absurd (omega arith); refused = λ n. refl }

enter_more : (i : ℕ) (es : List Entry) (more : ℕ) (s : State) → SameButLeftOver (enter_all i es 0 more s) (enter_all i es 0 0 s) more
unfolding enter_all ended
enter_more i [] more s = record { number = refl; field = refl; memory = refl; left_over = λ z. refl; refused = λ n. absurd (n refl) }
enter_more i (e ∷ es) more s = by_more (entry_number e s) i s _ _ more (enter_more (suc i) es more (enter e s))

from_more : (c n : ℕ) (es : List Entry) (more : ℕ) (m : Memory)
    → SameButLeftOver (replay_from c n (record { entries = es; wrong = 0; left_over = more }) m) (replay_from c n (whole es) m) more
unfolding replay_from
from_more zero n es more m = enter_more 2 es more (begin n m)
from_more (suc c) n es more m =
    record { number = refl; field = refl; memory = refl; left_over = λ z. absurd (omega arith); refused = λ n. refl }

-- a journal cut at byte i after its first field
module _ (w : Bool) (n : ℕ) (es : List Entry) (i : ℕ) (fit : RanksFit es) (few : i ≤ entry_size w * length es) (within : first_size + i ≤ 60000) where
  cut_bytes : take (first_size + i) (journal_bytes w n es) ≡ first_bytes n ++ take i (entries_bytes w 1 es)
  unfolding journal_bytes first_bytes field_bytes two_bytes
  cut_bytes = take-append-add (first_bytes n) (entries_bytes w 1 es) i

  cut_reads : Reads (take (first_size + i) (journal_bytes w n es)) n (record { entries = take (i / entry_size w) es; wrong = 0; left_over = i % entry_size w })
  cut_reads =
      let rest : List ℕ = take i (entries_bytes w 1 es) in
      rw cut_bytes (record {
        within = omega (arith, length_first n rest, length-take-le i (entries_bytes w 1 es) (omega (arith, length_entries w 1 es)));
        first = first_has n rest;
        banks = first_banks n rest;
        fields_are = ap fields (first_drop n rest) ∙ fields_cut w es i fit few;
      })

  -- the whole fields before it are no more
  front_few : entry_size w * length (take (i / entry_size w) es) ≤ i
  front_few =
      let l = length-take (i / entry_size w) es in
      le_trans (mul-le-mul_left {n = i / entry_size w} (entry_size w) (omega arith)) (omega (arith, div-add-mod i (entry_size w)))

  pub cut_replays : (m : Memory)
      → SameButLeftOver (replayed (take (first_size + i) (journal_bytes w n es)) m) (replayed (journal_bytes w n (take (i / entry_size w) es)) m) (i % entry_size w)
  cut_replays m =
      let fs : List Entry = take (i / entry_size w) es in
      let l : length (journal_bytes w n fs) ≤ 60000 = omega (arith, length_journal w n fs, front_few) in
      rw (replay_is cut_reads m, replay_is (journal_reads w n fs (fit_take (i / entry_size w) es fit) l) m) (from_more (begin_number n m) n fs (i % entry_size w) m)
