-- An edit that is recorded, as the functions make it.
use mathlib.Core.Bool.{Bool}
use mathlib.Core.List.{List, [], ◌∷◌}
use mathlib.Core.Path.{◌≡◌, refl, sym, ap, ap₂, ◌∙◌}
use Prim.Native.Nat.{ℕ, zero, suc, ◌+◌, ◌-◌, ◌*◌, ◌/◌, ◌≤◌, ◌<◌}
use native.Mathlib.Nat.{div-le_self, mul-div_cancel_left}
use native.Mathlib.Numerals.{add-one}
use native.Mathlib.Omega.{arith}
use lib.ListN.{length, take, drop, length-drop}
use lib.Seq.{length-take-le}
use Rattle.rule.specs.declared.Kind.{Kind}
use Rattle.planner.specs.declared.Answer.{Answer}
use Rattle.memory.specs.declared.Tally.{Tally}
use Rattle.memory.specs.Memory.{Memory, memory_of}
use Rattle.planner.specs.Calls.{EditResult, refused, memory_number}
use Rattle.capped_edits.specs.Capped.{capped_number}
use Rattle.capped_edits.specs.inner.Within.{or_last, within_number, within_of}
use Rattle.capped_edits.proofs.Unmade.{within_number-law, within_accepted, within_refused}
use Rattle.planner.specs.inner.Held.{ReadyIn}
use Rattle.text.specs.Places.{put, Puts}
use Rattle.rule.specs.declared.Entry.{Entry}
use Rattle.journal.specs.declared.Recorded.{Recorded}
use Rattle.journal_fields.specs.Fields.{first_size, entry_size, numbered, fields, entry_bytes}
use Rattle.journal_fields.specs.Numbers.{first_of, space_number, head_number, later_number, fields_number}
use Rattle.journal.specs.Calls.{clashes_in, later_in, next_size, next_bytes, next_space, record_number, record_result, no_record, entry_for, recorded_as, recorded_by, recorded}
use Rattle.journal.specs.inner.Recording.{Checked, AsksEntry, RecordedOf}
use Rattle.journal_fields.proofs.Reading.{drop_take}
use Rattle.journal_fields.proofs.Entries.{whole, length_entry}
use Rattle.journal_fields.proofs.Bytes.{whole_length}
use Rattle.journal_fields.proofs.Later.{later_passed}
use Rattle.journal_fields.proofs.Numbers.{first_none, first_some, first_last, space_room, size_inside, size_first_field}

module _ (size : ℕ) (journal : List ℕ) (z : head_number size journal ≡ 0) where
  -- the fields after the first, as a part of the journal
  pub later_part : take (size - first_size) (drop first_size journal) ≡ later_in size journal
  later_part =
      let five = size_first_field size journal z in
      let e : first_size + (size - first_size) ≡ size = omega (arith, five) in
      sym (drop_take first_size (size - first_size) journal (omega (arith, five, size_inside size journal z))) ∙ ap (λ (k : ℕ). drop first_size (take k journal)) e

  pub later_number-law : later_number (fields (take (size - first_size) (drop first_size journal))) ≡ fields_number size journal
  unfolding fields_number
  later_number-law = ap (λ (l : List ℕ). later_number (fields l)) later_part

  -- how many they are
  pub length_later : length (later_in size journal) ≡ size - first_size
  length_later = omega (arith, length-drop first_size (take size journal), length-take-le size journal (size_inside size journal z))

-- the entries of whole fields, and how many bytes they take
pub fields_whole : (size : ℕ) (journal : List ℕ) → fields_number size journal ≡ 0 → fields (later_in size journal) ≡ whole (fields (later_in size journal)).entries
unfolding fields_number
fields_whole size journal z = later_passed (fields (later_in size journal)) z

pub later_count : (size : ℕ) (journal : List ℕ) → head_number size journal ≡ 0 → fields_number size journal ≡ 0
    → size - first_size ≡ next_size size journal * length (fields (later_in size journal)).entries
later_count size journal h z =
    let es : List Entry = (fields (later_in size journal)).entries in
    sym (length_later size journal h) ∙ whole_length (numbered (later_in size journal)) 1 es (later_in size journal) (unfold fields in fields_whole size journal z)

-- space for an entry more
pub space_next : (size : ℕ) (journal : List ℕ) (w : Bool) → w ≡ numbered (later_in size journal) → (n : ℕ) → n ≡ entry_size w → (r : ℕ) → r ≡ space_number (size + n) journal
    → r ≡ next_space size journal
unfolding next_space
space_next size journal w e n k r q = q ∙ ap (λ (x : ℕ). space_number (size + x) journal) (k ∙ ap entry_size e)

pub asks_room : (size : ℕ) (journal : List ℕ) → AsksEntry size journal → (size + next_size size journal ≤ length journal) × (size + next_size size journal ≤ 60000)
unfolding next_space
asks_room size journal a = space_room (size + next_size size journal) journal a.space

-- the number of the next entry
module _ (size : ℕ) (journal : List ℕ) (asks : AsksEntry size journal) (w : Bool) (is : w ≡ numbered (later_in size journal)) (n : ℕ) (long : n ≡ entry_size w) where
  pub next_few : (size - first_size) / n + 1 < 4294967296
  next_few =
      let q : (size - first_size) / n ≤ size - first_size = div-le_self (size - first_size) n in
      omega (arith, (asks_room size journal asks).1)

  pub next_number : (size - first_size) / n + 1 ≡ suc (length (fields (later_in size journal)).entries)
  next_number =
      let e : n ≡ next_size size journal = long ∙ ap entry_size is in
      let count : ℕ = length (fields (later_in size journal)).entries in
      ap (λ (x : ℕ). x / n + 1) (later_count size journal asks.head asks.fields)
      ∙ ap (λ (x : ℕ). next_size size journal * count / x + 1) e
      ∙ ap (λ (x : ℕ). x + 1) (mul-div_cancel_left count (omega arith))
      ∙ add-one count

  -- its field
  pub next_bytes-law : (e : Entry) → entry_bytes w ((size - first_size) / n + 1) e ≡ next_bytes e size journal
  unfolding next_bytes
  next_bytes-law e = ap₂ (λ (v : Bool) (i : ℕ). entry_bytes v i e) is next_number

-- the first of several numbers, where those before are 0
module _ (c d : ℕ) (cs : List ℕ) (z : c ≡ 0) where
  first_second : (d ≡ 0 → ⊥) → first_of (c ∷ d ∷ cs) ≡ d
  first_second n = first_none c (d ∷ cs) z ∙ first_some d cs n

  first_rest : d ≡ 0 → first_of (c ∷ d ∷ cs) ≡ first_of cs
  first_rest n = first_none c (d ∷ cs) z ∙ first_none d cs n

module _ (m : Memory) (size : ℕ) (journal : List ℕ) where
  -- the questions about the journal and the memory, no by no
  pub checked_head : (r : ℕ) → r ≡ head_number size journal → (r ≡ 0 → ⊥) → Checked m size journal r
  checked_head r e z = record {
    number = e ∙ sym (first_some (head_number size journal) _ (λ q. z (e ∙ q)));
    ready = λ q. absurd (z q);
    head = λ q. absurd (z q);
    fields = λ q. absurd (z q);
  }

  module _ (head : head_number size journal ≡ 0) where
    pub checked_memory : (r : ℕ) → r ≡ memory_number m → (r ≡ 0 → ⊥) → Checked m size journal r
    checked_memory r e z = record {
      number = e ∙ sym (first_second (head_number size journal) (memory_number m) _ head (λ q. z (e ∙ q)));
      ready = λ q. absurd (z q);
      head = λ q. absurd (z q);
      fields = λ q. absurd (z q);
    }

    pub checked_fields : memory_number m ≡ 0 → ReadyIn m → (r : ℕ) → r ≡ fields_number size journal → Checked m size journal r
    checked_fields z h r e = record {
      number = e ∙ sym (first_rest (head_number size journal) (memory_number m) _ head z ∙ first_last (fields_number size journal));
      ready = λ q. h;
      head = λ q. head;
      fields = λ q. sym e ∙ q;
    }

  -- then those of the edit, and the space
  module _ (k : Kind) (a b : ℕ) where
    abbrev last : ℕ
    last = next_space size journal

    first_parts : (x y z u v : ℕ) → first_of (x ∷ y ∷ z ∷ u ∷ v ∷ []) ≡ or_last (first_of (x ∷ y ∷ z ∷ [])) (or_last u v)
    unfolding first_of or_last
    first_parts zero zero zero zero zero = refl
    first_parts zero zero zero zero (suc v) = refl
    first_parts zero zero zero (suc u) v = refl
    first_parts zero zero (suc z) u v = refl
    first_parts zero (suc y) z u v = refl
    first_parts (suc x) y z u v = refl

    as_parts : (c : ℕ) → Checked m size journal c → record_number k a b m size journal ≡ or_last c (within_number m.tally.cap k (clashes_in m) a b last)
    unfolding record_number
    as_parts c d =
        first_parts (head_number size journal) (memory_number m) (fields_number size journal) (capped_number m.tally.cap k (clashes_in m) a b) last
        ∙ ap (λ (n : ℕ). or_last n (within_number m.tally.cap k (clashes_in m) a b last)) (sym d.number)

    -- the whole call, by the number
    by_some : (c : ℕ) → record_number k a b m size journal ≡ suc c → record_result (no_record (suc c)) m journal ≡ recorded k a b m size journal
    unfolding recorded
    by_some c e = sym (ap (λ (n : ℕ). recorded_by n k a b m size journal) e ∙ unfold recorded_by in refl)

    by_none : record_number k a b m size journal ≡ 0 → recorded_as k a b m size journal ≡ recorded k a b m size journal
    unfolding recorded
    by_none e = sym (ap (λ (n : ℕ). recorded_by n k a b m size journal) e ∙ unfold recorded_by in refl)

    -- refused by a question before the edit
    pub record_refused : (c : ℕ) → Checked m size journal c → (c ≡ 0 → ⊥) → record_result (no_record c) m journal ≡ recorded k a b m size journal
    record_refused zero d z = absurd (z refl)
    record_refused (suc c) d z = by_some c (as_parts (suc c) d ∙ unfold or_last in refl)

    -- refused by the edit's own questions or for space, or made
    module _ (c : ℕ) (d : Checked m size journal c) (none : c ≡ 0) (l : ℕ) (is : l ≡ last) {r : EditResult} (by : r ≡ within_of k (clashes_in m) a b l m) where
      e : r ≡ within_of k (clashes_in m) a b last m
      e = by ∙ ap (λ (x : ℕ). within_of k (clashes_in m) a b x m) is

      late_number-law : record_number k a b m size journal ≡ r.answer.number
      late_number-law = as_parts c d ∙ ap (λ (n : ℕ). or_last n (within_number m.tally.cap k (clashes_in m) a b last)) none ∙ unfold or_last in sym (within_number-law k (clashes_in m) a b last m e)

      pub record_late : (r.answer.number ≡ 0 → ⊥) → (t : Tally) → t ≡ m.tally
          → record_result (no_record r.answer.number) (memory_of r.memory.slices r.memory.trail r.memory.moved t) journal ≡ recorded k a b m size journal
      record_late z t same = go r.answer.number refl
        where
          go : (c : ℕ) → r.answer.number ≡ c
              → record_result (no_record r.answer.number) (memory_of r.memory.slices r.memory.trail r.memory.moved t) journal ≡ recorded k a b m size journal
          go zero w = absurd (z w)
          go (suc c) w =
              let m-same : r.memory ≡ m = ap (λ (x : EditResult). x.memory) (within_refused k (clashes_in m) a b last m e c w) ∙ unfold refused in refl in
              (λ i. record_result (no_record (w i)) (memory_of (m-same i).slices (m-same i).trail (m-same i).moved (same i)) journal) ∙ by_some c (late_number-law ∙ w)

      room : r.answer.number ≡ 0 → last ≡ 0
      room z = last_zero (capped_number m.tally.cap k (clashes_in m) a b) (sym (within_number-law k (clashes_in m) a b last m e) ∙ z)
        where
          last_zero : (x : ℕ) → or_last x last ≡ 0 → last ≡ 0
          last_zero zero f = unfold or_last in f
          last_zero (suc x) f = let w : ◌≡◌ {A = ℕ} (suc x) 0 = unfold or_last in f in absurd (omega (arith, w))

      pub record_room : r.answer.number ≡ 0 → AsksEntry size journal
      record_room z = record { head = d.head none; fields = d.fields none; space = room z }

      pub record_done-law : r.answer.number ≡ 0 → (x : Recorded) (journal' : List ℕ) → RecordedOf (entry_for k a b) r.answer size journal x journal'
          → record_result x r.memory journal' ≡ recorded k a b m size journal
      unfolding recorded_as
      record_done-law z x journal' w =
          rw (w.is, w.written)
          (ap (λ (y : EditResult). record_result (record { number = 0; moved = y.answer.moved; trail = y.answer.trail; length = size + next_size size journal })
          y.memory (put (next_bytes (entry_for k a b) size journal) size journal)) (within_accepted k (clashes_in m) a b last m e z)
          ∙ by_none (late_number-law ∙ z))

-- the new length is a 16-bit number
pub next_fits : (w : Bool) (i : ℕ) (e : Entry) (size r : ℕ) (journal journal' : List ℕ) → Puts (entry_bytes w i e) size journal r journal' → size + entry_size w ≤ 60000
    → r < 65536
next_fits w i e size r journal journal' p h = omega (arith, p.next, length_entry w i e)

-- the entry after the first bytes
pub recorded_of : (e : Entry) (answer : Answer) (size r : ℕ) (journal journal' : List ℕ) (w : Bool) (i : ℕ) → w ≡ numbered (later_in size journal)
    → entry_bytes w i e ≡ next_bytes e size journal → Puts (entry_bytes w i e) size journal r journal'
    → RecordedOf e answer size journal (record { number = 0; moved = answer.moved; trail = answer.trail; length = r }) journal'
recorded_of e answer size r journal journal' w i v b p =
    let n : r ≡ size + next_size size journal = p.next ∙ ap (◌+◌ size) (length_entry w i e ∙ ap entry_size v) in
    record {
      is = ap (λ (k : ℕ). record { number = 0; moved = answer.moved; trail = answer.trail; length = k }) n;
      written = p.left ∙ ap (λ (l : List ℕ). put l size journal) b;
    }
