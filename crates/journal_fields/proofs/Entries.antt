-- Entries as bytes: what was written reads back, whole or cut.
use mathlib.Core.Bool.{Bool, true, false, cond}
use mathlib.Core.List.{List, [], ◌∷◌, ◌++◌, append_assoc, append-nil}
use mathlib.Core.Logic.{◌⊎◌, inl, inr}
use mathlib.Core.Path.{◌≡◌, refl, sym, ap, ap₂, ◌∙◌}
use Prim.Native.Nat.{ℕ, zero, suc, ◌+◌, ◌*◌, ◌/◌, ◌%◌, ◌≤◌, ◌<◌}
use native.Mathlib.Nat.{add_comm, mul-zero, mul-suc, div-add-mod, mod-lt}
use native.Mathlib.Omega.{arith}
use lib.Dec.{eqb}
use lib.ListN.{length, get_or, take, drop, length-append, length-take}
use lib.Seq.{get_or-take, get_or-append-add, take-nil, drop_at, length-take-le, take-append-add}
use borrow.Author.Tests.{lt-ltb, le-ltb, le-leb, eq-eqb}
use Rattle.rule.proofs.Booleans.{lt_or_ge}
use Rattle.rule.specs.declared.Kind.TheVariants.{Adding, Striking}
use Rattle.std.proofs.Common.{Result, Err}
use Rattle.rule.specs.declared.Entry.{Entry}
use Rattle.rule.specs.declared.Entry.TheVariants.{Clash, Rank}
use Rattle.journal_fields.specs.declared.field.Fault.{Fault}
use Rattle.journal_fields.specs.declared.field.Fault.TheVariants.{Wrong, Short}
use Rattle.journal_fields.specs.Fields.{head_size, number_size, value_size, entry_size, kind_tag, tag_of, first_in, second_in, two_bytes, number_at, four_bytes, four_at}
use Rattle.journal_fields.specs.Fields.{field_bytes, number_bytes, entry_bytes, entries_bytes, is_entry_tag, kind_of, numbered, is_entry, entry_of, entry_in, number_in}
use Rattle.journal_fields.specs.Fields.{rank_fits, whole_of, field_of, Fields, fields_by, fields_from, fields}
use Rattle.journal_fields.specs.Bounds.{AllBelow, RanksFit}
use Rattle.journal_fields.proofs.Reading.{fields_step, form_is, fields_form}

-- two bytes give the number back, and so do four
pub two_back : (x : ℕ) → x % 256 + 256 * (x / 256) ≡ x
two_back x = omega arith

four_back : (x : ℕ) → x % 65536 + 65536 * (x / 65536) ≡ x
four_back x = omega arith

-- a number after other bytes
pub number_past : (a b : List ℕ) (n k : ℕ) → length a ≡ n → number_at (n + k) (a ++ b) ≡ number_at k b
unfolding number_at
number_past a b n k e =
    let p : n + k + 1 ≡ n + (k + 1) = omega arith in
    rw (p, ← e) (ap₂ (λ (x y : ℕ). x + 256 * y) (get_or-append-add a b k 0) (get_or-append-add a b (k + 1) 0))

number_two : (x : ℕ) (rest : List ℕ) → number_at 0 (two_bytes x ++ rest) ≡ x
unfolding number_at two_bytes
number_two x rest = two_back x

-- fields that are whole
abbrev pub whole : List Entry → Fields
whole es = record { entries = es; wrong = 0; left_over = 0 }

-- what is read after further entries
abbrev pub following : List Entry → Fields → Fields
following es f = record { entries = es ++ f.entries; wrong = f.wrong; left_over = f.left_over }

-- a tag and two numbers give the entry back
tag_is : (e : Entry) → is_entry_tag (tag_of e) ≡ true
unfolding is_entry_tag tag_of kind_tag
tag_is (Clash Adding a b) = refl
tag_is (Clash Striking a b) = refl
tag_is (Rank b r) = refl

tag_back : (e : Entry) → entry_of (tag_of e) (first_in e) (second_in e) ≡ e
unfolding entry_of kind_of tag_of kind_tag first_in second_in
tag_back (Clash Adding a b) = refl
tag_back (Clash Striking a b) = refl
tag_back (Rank b r) = refl

-- an entry's field is short
pub entry_few : (w : Bool) → entry_size w ≤ 11
entry_few true = omega arith
entry_few false = omega arith

module _ (w : Bool) where
  -- so many entries have so many bytes
  pub size_next : (k : ℕ) → entry_size w * suc k ≡ entry_size w + entry_size w * k
  size_next k = mul-suc (entry_size w) k ∙ add_comm (entry_size w * k) (entry_size w)

  -- an entry's field has so many bytes
  pub length_number : (i : ℕ) → length (number_bytes w i) ≡ number_size w
  unfolding number_bytes four_bytes two_bytes
  length_number i = by w
    where
      by : (w : Bool) → length (number_bytes w i) ≡ number_size w
      by true = refl
      by false = refl

  pub length_value : (i x y : ℕ) → length (number_bytes w i ++ (two_bytes x ++ two_bytes y)) ≡ value_size w
  unfolding two_bytes
  length_value i x y = length-append (number_bytes w i) (two_bytes x ++ two_bytes y) ∙ ap (λ (n : ℕ). n + 4) (length_number i)

  -- a field, and the rest
  pub field_rest : (tag i x y : ℕ) (rest : List ℕ)
      → field_bytes tag (number_bytes w i ++ (two_bytes x ++ two_bytes y)) ++ rest ≡ tag ∷ (two_bytes (value_size w) ++ (number_bytes w i ++ (two_bytes x ++ (two_bytes y ++ rest))))
  unfolding field_bytes two_bytes
  field_rest tag i x y rest =
      let value : List ℕ = number_bytes w i ++ (two_bytes x ++ two_bytes y) in
      ap (λ (k : ℕ). tag ∷ (two_bytes k ++ (value ++ rest))) (length_value i x y)
      ∙ ap (λ (l : List ℕ). tag ∷ (two_bytes (value_size w) ++ l)) (append_assoc (number_bytes w i) (two_bytes x ++ two_bytes y) rest)

  pub length_entry : (i : ℕ) (e : Entry) → length (entry_bytes w i e) ≡ entry_size w
  unfolding entry_bytes field_bytes two_bytes
  length_entry i e = omega (arith, length_value i (first_in e) (second_in e))

  pub length_entries : (i : ℕ) (es : List Entry) → length (entries_bytes w i es) ≡ entry_size w * length es
  unfolding entries_bytes
  length_entries i [] = sym (mul-zero (entry_size w))
  length_entries i (e ∷ es) =
      length-append (entry_bytes w i e) (entries_bytes w (suc i) es)
      ∙ ap₂ ◌+◌ (length_entry i e) (length_entries (suc i) es)
      ∙ sym (size_next (length es))

  pub entries_append : (i : ℕ) (es fs : List Entry) → entries_bytes w i (es ++ fs) ≡ entries_bytes w i es ++ entries_bytes w (i + length es) fs
  unfolding entries_bytes
  entries_append i [] fs = let e : i ≡ i + 0 = omega arith in ap (λ (k : ℕ). entries_bytes w k fs) e
  entries_append i (e ∷ es) fs =
      let p : suc i + length es ≡ i + suc (length es) = omega arith in
      ap (λ (l : List ℕ). entry_bytes w i e ++ l) (entries_append (suc i) es fs ∙ ap (λ (k : ℕ). entries_bytes w (suc i) es ++ entries_bytes w k fs) p)
      ∙ sym (append_assoc (entry_bytes w i e) (entries_bytes w (suc i) es) (entries_bytes w (i + suc (length es)) fs))

  -- the field at the front, where there are enough bytes for an entry
  pub long_field : (i : ℕ) (bytes : List ℕ) → entry_size w ≤ length bytes
      → field_of w i bytes ≡ cond (is_entry w bytes) (whole_of (eqb (number_in w i bytes) i) (entry_in w bytes)) (Err Wrong)
  unfolding field_of
  long_field i bytes h = rw (le-ltb (length bytes) head_size (omega arith), le-ltb (length bytes) (entry_size w) h)

  -- an entry's bytes: its tag and length, its number and its two numbers
  module _ (i : ℕ) (e : Entry) (rest : List ℕ) where
    abbrev pair : List ℕ
    pair = two_bytes (first_in e) ++ (two_bytes (second_in e) ++ rest)

    abbrev front : List ℕ
    front = tag_of e ∷ (two_bytes (value_size w) ++ number_bytes w i)

    parts : entry_bytes w i e ++ rest ≡ front ++ pair
    unfolding entry_bytes two_bytes
    parts = field_rest (tag_of e) i (first_in e) (second_in e) rest

    length_front : length front ≡ head_size + number_size w
    unfolding two_bytes
    length_front = omega (arith, length_number i)

    pub head_tells : number_at 1 (entry_bytes w i e ++ rest) ≡ value_size w
    unfolding number_at two_bytes
    head_tells = rw parts (two_back (value_size w))

    entry_tag : get_or (entry_bytes w i e ++ rest) 0 0 ≡ tag_of e
    unfolding entry_bytes field_bytes
    entry_tag = refl

    entry_is : is_entry w (entry_bytes w i e ++ rest) ≡ true
    unfolding is_entry
    entry_is = rw (entry_tag, tag_is e, head_tells, eq-eqb (value_size w) (value_size w) refl)

    entry_back : entry_in w (entry_bytes w i e ++ rest) ≡ e
    unfolding entry_in two_bytes
    entry_back =
        let place : ℕ = head_size + number_size w in
        let z : place ≡ place + 0 = omega arith in
        let x : number_at place (front ++ pair) ≡ first_in e =
        ap (λ (k : ℕ). number_at k (front ++ pair)) z ∙ number_past front pair place 0 length_front ∙ number_two (first_in e) (two_bytes (second_in e) ++ rest) in
        let y : number_at (place + 2) (front ++ pair) ≡ second_in e =
        number_past front pair place 2 length_front ∙ number_past (two_bytes (first_in e)) (two_bytes (second_in e) ++ rest) 2 0 refl ∙ number_two (second_in e) rest in
        rw (entry_tag, parts, x, y) (tag_back e)

    pub number_back : number_in w i (entry_bytes w i e ++ rest) ≡ i
    number_back = by w
      where
        by : (w : Bool) → number_in w i (entry_bytes w i e ++ rest) ≡ i
        by true =
            unfold number_in number_at four_at entry_bytes number_bytes four_bytes field_bytes two_bytes in
            ap₂ (λ (x y : ℕ). x + 65536 * y) (two_back (i % 65536)) (two_back (i / 65536)) ∙ four_back i
        by false = unfold number_in in refl

  -- an entry at the front, and the rest
  pub fields_entry : (i : ℕ) (e : Entry) (rest : List ℕ) → rank_fits e ≡ true → fields_from w i (entry_bytes w i e ++ rest) ≡ following (e ∷ []) (fields_from w (suc i) rest)
  unfolding fields_by whole_of
  fields_entry i e rest f =
      let l = length-append (entry_bytes w i e) rest in
      let n = length_entry i e in
      fields_step w i (entry_bytes w i e ++ rest)
      ∙ rw (
        long_field i (entry_bytes w i e ++ rest) (omega arith),
        entry_is i e rest,
        entry_back i e rest,
        number_back i e rest,
        eq-eqb i i refl,
        f,
        drop_at (entry_bytes w i e) rest (entry_size w) n,
      )

  -- fewer of its bytes are left over
  pub cut_entry : (i : ℕ) (e : Entry) (rest : List ℕ) (r : ℕ) → r < entry_size w
      → fields_from w i (take r (entry_bytes w i e ++ rest)) ≡ record { entries = []; wrong = 0; left_over = r }
  unfolding fields_by
  cut_entry i e rest r h =
      let bytes : List ℕ = entry_bytes w i e ++ rest in
      let n : length (take r bytes) ≡ r = length-take-le r bytes (omega (arith, length-append (entry_bytes w i e) rest, length_entry i e)) in
      fields_step w i (take r bytes)
      ∙ ap (λ (f : Result Entry Fault). fields_by f (length (take r bytes)) (fields_from w (suc i) (drop (entry_size w) (take r bytes)))) (short (lt_or_ge r head_size) n)
      ∙ ap (λ (k : ℕ). record { entries = []; wrong = 0; left_over = k }) n
    where
      three : (bytes : List ℕ) → head_size ≤ r → is_entry w (take r bytes) ≡ is_entry w bytes
      three bytes k = unfold is_entry number_at in rw (get_or-take r bytes 0 0 (omega arith), get_or-take r bytes 1 0 (omega arith), get_or-take r bytes 2 0 (omega arith))

      short : (r < head_size) ⊎ (head_size ≤ r) → length (take r (entry_bytes w i e ++ rest)) ≡ r → field_of w i (take r (entry_bytes w i e ++ rest)) ≡ Err Short
      short (inl k) n = unfold field_of in rw (n, lt-ltb r head_size k)
      short (inr k) n = unfold field_of in rw (n, le-ltb r head_size k, three (entry_bytes w i e ++ rest) k, entry_is i e rest, lt-ltb r (entry_size w) h)

  -- entries, and the rest
  pub fields_entries : (i : ℕ) (es : List Entry) (rest : List ℕ) → RanksFit es
      → fields_from w i (entries_bytes w i es ++ rest) ≡ following es (fields_from w (i + length es) rest)
  unfolding entries_bytes
  fields_entries i [] rest f = let e : i ≡ i + 0 = omega arith in ap (λ (k : ℕ). fields_from w k rest) e
  fields_entries i (e ∷ es) rest f =
      let p : suc i + length es ≡ i + suc (length es) = omega arith in
      ap (fields_from w i) (append_assoc (entry_bytes w i e) (entries_bytes w (suc i) es) rest)
      ∙ fields_entry i e (entries_bytes w (suc i) es ++ rest) f.0
      ∙ ap (following (e ∷ [])) (fields_entries (suc i) es rest f.1 ∙ ap (λ (k : ℕ). following es (fields_from w k rest)) p)

  pub none_from : (i : ℕ) → fields_from w i [] ≡ whole []
  unfolding field_of fields_by
  none_from i = fields_step w i []

  -- entries that were written are read
  pub written_from : (i : ℕ) (es : List Entry) → RanksFit es → fields_from w i (entries_bytes w i es) ≡ whole es
  written_from i es f =
      ap (fields_from w i) (sym (append-nil (entries_bytes w i es)))
      ∙ fields_entries i es [] f
      ∙ ap (following es) (none_from (i + length es))
      ∙ ap whole (append-nil es)

  -- cut r bytes after q entries: these, and the r bytes
  cut_from : (q : ℕ) (i : ℕ) (es : List Entry) (r : ℕ) → RanksFit es → r < entry_size w → entry_size w * q + r ≤ entry_size w * length es
      → fields_from w i (take (entry_size w * q + r) (entries_bytes w i es)) ≡ record { entries = take q es; wrong = 0; left_over = r }
  unfolding entries_bytes
  cut_from q i [] r f l h =
      let z : r ≡ 0 = omega (arith, mul-zero (entry_size w)) in
      rw (take-nil {A = ℕ} (entry_size w * q + r), take-nil {A = Entry} q, z) (none_from i)
  cut_from zero i (e ∷ es) r f l h =
      let p : entry_size w * 0 + r ≡ r = omega (arith, mul-zero (entry_size w)) in
      ap (λ (k : ℕ). fields_from w i (take k (entry_bytes w i e ++ entries_bytes w (suc i) es))) p ∙ cut_entry i e (entries_bytes w (suc i) es) r l
  cut_from (suc q) i (e ∷ es) r f l h =
      let j : ℕ = entry_size w * q + r in
      let p : entry_size w * suc q + r ≡ length (entry_bytes w i e) + j = omega (arith, size_next q, length_entry i e) in
      ap (λ (k : ℕ). fields_from w i (take k (entry_bytes w i e ++ entries_bytes w (suc i) es))) p
      ∙ ap (fields_from w i) (take-append-add (entry_bytes w i e) (entries_bytes w (suc i) es) j)
      ∙ fields_entry i e (take j (entries_bytes w (suc i) es)) f.0
      ∙ ap (following (e ∷ [])) (cut_from q (suc i) es r f.1 l (omega (arith, size_next q, size_next (length es))))

  -- the first entry tells the form, of all bytes and of a part
  pub entries_tell : (es : List Entry) (rest : List ℕ) → (es ≡ [] → rest ≡ []) → head_size ≤ length (entries_bytes w 1 es ++ rest)
      → number_at 1 (entries_bytes w 1 es ++ rest) ≡ value_size w
  unfolding entries_bytes
  entries_tell [] rest z h = absurd (omega (arith, ap length (z refl)))
  entries_tell (e ∷ es) rest z h = rw (append_assoc (entry_bytes w 1 e) (entries_bytes w 2 es) rest) (head_tells 1 e (entries_bytes w 2 es ++ rest))

  take_tells : (bytes : List ℕ) (i : ℕ) → (head_size ≤ length bytes → number_at 1 bytes ≡ value_size w) → head_size ≤ length (take i bytes)
      → number_at 1 (take i bytes) ≡ value_size w
  unfolding number_at
  take_tells bytes i t h =
      let n = length-take i bytes in
      rw (get_or-take i bytes 1 0 (omega arith), get_or-take i bytes 2 0 (omega arith)) (t (omega arith))

  -- so with the journal's own form
  pub fields_written : (es : List Entry) → RanksFit es → fields (entries_bytes w 1 es) ≡ whole es
  fields_written es f =
      let nil = append-nil (entries_bytes w 1 es) in
      fields_form w (entries_bytes w 1 es) (rw nil at (entries_tell es [] (λ z. refl))) ∙ written_from 1 es f

  -- cut at byte i: the whole entries before it, and the bytes after them
  pub fields_cut : (es : List Entry) (i : ℕ) → RanksFit es → i ≤ entry_size w * length es
      → fields (take i (entries_bytes w 1 es)) ≡ record { entries = take (i / entry_size w) es; wrong = 0; left_over = i % entry_size w }
  fields_cut es i f h =
      let nil = append-nil (entries_bytes w 1 es) in
      let e = div-add-mod i (entry_size w) in
      fields_form w (take i (entries_bytes w 1 es)) (take_tells (entries_bytes w 1 es) i (rw nil at (entries_tell es [] (λ z. refl))))
      ∙ ap (λ (k : ℕ). fields_from w 1 (take k (entries_bytes w 1 es))) (sym e)
      ∙ cut_from (i / entry_size w) 1 es (i % entry_size w) f (mod-lt i (omega arith)) (rw e h)

-- a numbered journal tells so, with entries or without
pub entries_form : (es : List Entry) → numbered (entries_bytes true 1 es) ≡ true
unfolding entries_bytes numbered
entries_form [] = refl
entries_form (e ∷ es) =
    let l = length-append (entry_bytes true 1 e) (entries_bytes true 2 es) in
    form_is true (entry_bytes true 1 e ++ entries_bytes true 2 es) (omega (arith, l, length_entry true 1 e)) (head_tells true 1 e (entries_bytes true 2 es))

-- entries of small numbers, and parts and sums of entries whose ranks fit, have ranks that fit
pub below_fit : (es : List Entry) → AllBelow 10000 es → RanksFit es
below_fit [] h = tt
below_fit (e ∷ es) h = (one e h.0.1, below_fit es h.1)
  where
    one : (e : Entry) → second_in e < 10000 → rank_fits e ≡ true
    one (Clash kind a b) h = unfold rank_fits in refl
    one (Rank b r) h = unfold rank_fits second_in in le-leb r 9999 (omega arith)

pub fit_take : (i : ℕ) (es : List Entry) → RanksFit es → RanksFit (take i es)
fit_take zero es f = tt
fit_take (suc i) [] f = tt
fit_take (suc i) (e ∷ es) f = (f.0, fit_take i es f.1)

pub fit_append : (es fs : List Entry) → RanksFit es → RanksFit fs → RanksFit (es ++ fs)
fit_append [] fs f g = g
fit_append (e ∷ es) fs f g = (f.0, fit_append es fs f.1 g)
