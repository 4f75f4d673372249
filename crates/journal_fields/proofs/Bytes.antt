-- Whole journals as bytes: they read back, no other bytes read so, and what bytes after them read as.
use mathlib.Core.Bool.{Bool, true, false, cond, ◌&&◌, ◌||◌}
use mathlib.Core.List.{List, [], ◌∷◌, ◌++◌, append-nil}
use mathlib.Core.Path.{◌≡◌, refl, sym, ap, ap₂, ◌∙◌, subst}
use Prim.Native.Nat.{ℕ, zero, suc, ◌+◌, ◌*◌, ◌/◌, ◌%◌, ◌≤◌, ◌<◌}
use native.Mathlib.Nat.{mul-zero}
use native.Mathlib.Numerals.{add-one}
use native.Mathlib.Omega.{arith}
use lib.Dec.{leb, eqb}
use lib.ListN.{length, get_or, take, drop, length-append, length-take, length-drop, get_or-append}
use lib.Seq.{get_or-take, get_or-drop, drop-cons, drop-drop, drop-append-le}
use borrow.Author.Tests.{le-leb, le-ltb, leb-true, eqb-true}
use Rattle.rule.proofs.Booleans.{both_true}
use Rattle.rule.specs.Numbers.{bank}
use Rattle.rule.specs.declared.Kind.TheVariants.{Adding, Striking}
use Rattle.std.proofs.Common.{Result, Ok, Err}
use Rattle.rule.specs.declared.Entry.{Entry}
use Rattle.rule.specs.declared.Entry.TheVariants.{Clash, Rank}
use Rattle.journal_fields.specs.declared.field.Fault.{Fault}
use Rattle.journal_fields.specs.declared.field.Fault.TheVariants.{Wrong, Misnumbered, Short}
use Rattle.journal_fields.specs.Fields.{head_size, first_size, number_size, value_size, entry_size, first_tag, rank_tag, kind_tag, tag_of, first_in, second_in}
use Rattle.journal_fields.specs.Fields.{two_bytes, number_at, four_bytes, four_at, field_bytes, first_bytes, number_bytes, entry_bytes, entries_bytes, journal_bytes}
use Rattle.journal_fields.specs.Fields.{has_first, banks_in, is_entry_tag, kind_of, numbered, is_entry, entry_of, entry_in, number_in, rank_fits, whole_of, field_of}
use Rattle.journal_fields.specs.Fields.{Fields, fields_by, fields_in, fields_from, fields}
use Rattle.journal_fields.specs.Bounds.{AreBytes, Below, AllBelow, RanksFit}
use Rattle.journal_fields.proofs.Reading.{drop_take, fields_step, fields_form}
use Rattle.journal_fields.proofs.Forms.{whole_long}
use Rattle.journal_fields.proofs.Entries.{size_next, field_rest, length_entries, whole, following, two_back, long_field, none_from, written_from, fields_written}

-- the first field, and the rest
module _ (n : ℕ) (rest : List ℕ) where
  pub first_has : has_first (first_bytes n ++ rest) ≡ true
  unfolding has_first number_at first_bytes field_bytes two_bytes
  first_has = rw (le-leb first_size (length (first_bytes n ++ rest)) (omega arith))

  pub first_banks : banks_in (first_bytes n ++ rest) ≡ n
  unfolding banks_in number_at first_bytes field_bytes two_bytes
  first_banks = two_back n

  pub first_drop : drop first_size (first_bytes n ++ rest) ≡ rest
  unfolding first_bytes field_bytes two_bytes
  first_drop = refl

  pub length_first : length (first_bytes n ++ rest) ≡ first_size + length rest
  unfolding first_bytes field_bytes two_bytes
  length_first = omega arith

bytes_drop : (k : ℕ) (bytes : List ℕ) → AreBytes bytes → AreBytes (drop k bytes)
bytes_drop k bytes b i = rw (get_or-drop k bytes i 0) (b (k + i))

module _ (bytes : List ℕ) where
  -- the byte at place k, and those after it
  at : (k x : ℕ) (xs : List ℕ) → k < length bytes → get_or bytes k 0 ≡ x → drop (suc k) bytes ≡ xs → drop k bytes ≡ x ∷ xs
  at k x xs h e r = drop-cons bytes k 0 h ∙ ap₂ ◌∷◌ e r

  module _ (b : AreBytes bytes) where
    -- a small number at places k and k + 1, and the bytes after it
    two_at : (k x : ℕ) (xs : List ℕ) → suc k < length bytes → number_at k bytes ≡ x → drop (suc (suc k)) bytes ≡ xs → drop k bytes ≡ two_bytes x ++ xs
    unfolding number_at two_bytes
    two_at k x xs h e r =
        let u = b k in
        let v = b (k + 1) in
        let p : get_or bytes k 0 ≡ x % 256 = omega arith in
        let q : get_or bytes (k + 1) 0 ≡ x / 256 = omega arith in
        at k (x % 256) (x / 256 ∷ xs) (omega arith) p (at (suc k) (x / 256) xs h (rw (add-one k) at q) r)

    -- a field's tag, length and value
    field_at : (tag size : ℕ) (value : List ℕ) → head_size ≤ length bytes → get_or bytes 0 0 ≡ tag → number_at 1 bytes ≡ size → drop head_size bytes ≡ value
        → bytes ≡ tag ∷ (two_bytes size ++ value)
    field_at tag size value h e l r = at 0 tag (two_bytes size ++ value) (omega arith) e (two_at 1 size value (omega arith) l r)

    -- bytes with a first field start with it
    pub first_only : has_first bytes ≡ true → bytes ≡ first_bytes (banks_in bytes) ++ drop first_size bytes
    unfolding has_first banks_in first_bytes field_bytes two_bytes
    first_only h =
        let p = both_true (leb first_size (length bytes)) (eqb (get_or bytes 0 0) first_tag && eqb (number_at 1 bytes) 2) h in
        let q = both_true (eqb (get_or bytes 0 0) first_tag) (eqb (number_at 1 bytes) 2) p.1 in
        let l = leb-true first_size (length bytes) p.0 in
        field_at first_tag 2 (two_bytes (banks_in bytes) ++ drop first_size bytes) (omega arith) (eqb-true (get_or bytes 0 0) first_tag q.0) (eqb-true (number_at 1 bytes) 2 q.1)
        (two_at head_size (banks_in bytes) (drop first_size bytes) (omega arith) refl refl)

    two_small : (n : ℕ) → number_at n bytes < 65536
    unfolding number_at
    two_small n = omega (arith, b n, b (n + 1))

    -- an edit number's bytes
    number_only : (w : Bool) (i k : ℕ) → k + number_size w ≤ length bytes → (w ≡ true → four_at k bytes ≡ i) → drop k bytes ≡ number_bytes w i ++ drop (k + number_size w) bytes
    unfolding number_bytes four_at four_bytes two_bytes
    number_only false i k h e = let z : k ≡ k + 0 = omega arith in ap (λ (n : ℕ). drop n bytes) z
    number_only true i k h e =
        let q : number_at k bytes + 65536 * number_at (k + 2) bytes ≡ i = e refl in
        let x : number_at k bytes ≡ i % 65536 = omega (arith, q, two_small k) in
        let y : number_at (k + 2) bytes ≡ i / 65536 = omega (arith, q, two_small k) in
        let p : suc (suc k) ≡ k + 2 = omega arith in
        let r : suc (suc (k + 2)) ≡ k + 4 = omega arith in
        let rest = two_at (k + 2) (i / 65536) (drop (k + 4) bytes) (omega arith) y (ap (λ (n : ℕ). drop n bytes) r) in
        two_at k (i % 65536) (two_bytes (i / 65536) ++ drop (k + 4) bytes) (omega arith) x (ap (λ (n : ℕ). drop n bytes) p ∙ rest)

    -- an entry's bytes, by its tag and its number
    pair_only : (w : Bool) (i tag : ℕ) → entry_size w ≤ length bytes → get_or bytes 0 0 ≡ tag → number_at 1 bytes ≡ value_size w → (w ≡ true → four_at head_size bytes ≡ i)
        → let place = head_size + number_size w in
        bytes ≡ field_bytes tag (number_bytes w i ++ (two_bytes (number_at place bytes) ++ two_bytes (number_at (place + 2) bytes))) ++ drop (entry_size w) bytes
    pair_only w i tag l t s n =
        let place : ℕ = head_size + number_size w in
        let x : ℕ = number_at place bytes in
        let y : ℕ = number_at (place + 2) bytes in
        let rest : List ℕ = drop (entry_size w) bytes in
        let p : suc (suc place) ≡ place + 2 = omega arith in
        let r : suc (suc (place + 2)) ≡ entry_size w = omega arith in
        let two = two_at (place + 2) y rest (omega arith) refl (ap (λ (n : ℕ). drop n bytes) r) in
        let pair = two_at place x (two_bytes y ++ rest) (omega arith) refl (ap (λ (n : ℕ). drop n bytes) p ∙ two) in
        let value = number_only w i head_size (omega arith) n ∙ ap (λ (l : List ℕ). number_bytes w i ++ l) pair in
        field_at tag (value_size w) _ (omega arith) t s value ∙ sym (field_rest w tag i x y rest)

-- the entry of an entry's tag and two numbers has this tag and these numbers
module _ (tag x y : ℕ) where
  tag_only : is_entry_tag tag ≡ true → tag_of (entry_of tag x y) ≡ tag
  unfolding is_entry_tag entry_of kind_of tag_of
  tag_only h = by (eqb tag (kind_tag Adding)) (eqb tag (kind_tag Striking)) (eqb tag rank_tag) refl refl refl h
    where
      by : (c d r : Bool) → eqb tag (kind_tag Adding) ≡ c → eqb tag (kind_tag Striking) ≡ d → eqb tag rank_tag ≡ r → (c || (d || r)) ≡ true
          → tag_of (cond r (Rank (bank x) y) (Clash (cond c Adding Striking) (bank x) (bank y))) ≡ tag
      by c d true u v w h = sym (eqb-true tag rank_tag w)
      by true d false u v w h = sym (eqb-true tag (kind_tag Adding) u)
      by false true false u v w h = sym (eqb-true tag (kind_tag Striking) v)
      by false false false u v w h = let z : ◌≡◌ {A = ℕ} 0 1 = cc in absurd (omega arith)

  numbers_only : (first_in (entry_of tag x y) ≡ x) × (second_in (entry_of tag x y) ≡ y)
  unfolding entry_of first_in second_in
  numbers_only = by (eqb tag rank_tag)
    where
      by : (r : Bool) → let e : Entry = cond r (Rank (bank x) y) (Clash (kind_of tag) (bank x) (bank y)) in (first_in e ≡ x) × (second_in e ≡ y)
      by true = (refl, refl)
      by false = (refl, refl)

-- what a whole field says of its bytes
pub record WholeField (w : Bool) (i : ℕ) (bytes : List ℕ) (e : Entry) : Type 0 where
  pub long : entry_size w ≤ length bytes
  pub is : is_entry w bytes ≡ true
  pub entry : entry_in w bytes ≡ e
  pub fits : rank_fits e ≡ true
  pub number : number_in w i bytes ≡ i

module _ (w : Bool) (i : ℕ) where
  pub whole_field : (bytes : List ℕ) (e : Entry) → field_of w i bytes ≡ Ok e → WholeField w i bytes e
  unfolding whole_of
  whole_field bytes e q =
      let l = whole_long w i bytes e (sym q) in
      by (is_entry w bytes) (rank_fits (entry_in w bytes)) (eqb (number_in w i bytes) i) refl refl refl l (sym (long_field w i bytes l) ∙ q)
    where
      by : (a c d : Bool) → is_entry w bytes ≡ a → rank_fits (entry_in w bytes) ≡ c → eqb (number_in w i bytes) i ≡ d → entry_size w ≤ length bytes
          → cond a (cond c (cond d (Ok (entry_in w bytes)) (Err Misnumbered)) (Err Wrong)) (Err Wrong) ≡ Ok e → WholeField w i bytes e
      by true true true p f n l q =
          let s : entry_in w bytes ≡ e = cc in
          record { long = l; is = p; entry = s; fits = ap rank_fits (sym s) ∙ f; number = eqb-true (number_in w i bytes) i n }
      by true true false p f n l q = let z : ◌≡◌ {A = ℕ} 0 1 = cc in absurd (omega arith)
      by true false d p f n l q = let z : ◌≡◌ {A = ℕ} 0 1 = cc in absurd (omega arith)
      by false c d p f n l q = let z : ◌≡◌ {A = ℕ} 0 1 = cc in absurd (omega arith)

  -- bytes with an entry at the front start with its bytes
  entry_only : (bytes : List ℕ) (e : Entry) → AreBytes bytes → field_of w i bytes ≡ Ok e → bytes ≡ entry_bytes w i e ++ drop (entry_size w) bytes
  unfolding is_entry entry_in number_in entry_bytes
  entry_only bytes e b q =
      let f = whole_field bytes e q in
      let t = get_or bytes 0 0 in
      let x = number_at (head_size + number_size w) bytes in
      let y = number_at (head_size + number_size w + 2) bytes in
      let p = both_true (is_entry_tag t) (eqb (number_at 1 bytes) (value_size w)) f.is in
      let n = numbers_only t x y in
      rw (← f.entry, tag_only t x y p.0, n.0, n.1)
      (pair_only bytes b w i t f.long refl (eqb-true (number_at 1 bytes) (value_size w) p.1) (λ z. subst (λ (v : Bool). number_in v i bytes ≡ i) z f.number))

-- fields that are whole: none, or one and the others
whole_none : (f : Result Entry Fault) (size : ℕ) (rest : Fields) → fields_by f size rest ≡ whole [] → size ≡ 0
unfolding fields_by
whole_none (Ok e) size rest q =
    let l : e ∷ rest.entries ≡ [] = ap (λ (x : Fields). x.entries) q in
    let z : ◌≡◌ {A = ℕ} 0 1 = cc in
    absurd (omega arith)
whole_none (Err Wrong) size rest q = absurd (omega (arith, ap (λ (x : Fields). x.wrong) q))
whole_none (Err Misnumbered) size rest q = absurd (omega (arith, ap (λ (x : Fields). x.wrong) q))
whole_none (Err Short) size rest q = ap (λ (x : Fields). x.left_over) q

entries_more : (f : Result Entry Fault) (size : ℕ) (rest : Fields) (e : Entry) (es : List Entry) → (fields_by f size rest).entries ≡ e ∷ es
    → (f ≡ Ok e) × (rest.entries ≡ es)
unfolding fields_by
entries_more (Ok d) size rest e es q =
    let h : d ≡ e = cc in
    (ap Ok h, cc)
entries_more (Err Wrong) size rest e es q = let z : ◌≡◌ {A = ℕ} 0 1 = cc in absurd (omega arith)
entries_more (Err Misnumbered) size rest e es q = let z : ◌≡◌ {A = ℕ} 0 1 = cc in absurd (omega arith)
entries_more (Err Short) size rest e es q = let z : ◌≡◌ {A = ℕ} 0 1 = cc in absurd (omega arith)

pub no_bytes : (bytes : List ℕ) → length bytes ≡ 0 → bytes ≡ []
no_bytes [] z = refl
no_bytes (x ∷ xs) z = absurd (omega arith)

-- a front of bytes, for what its cells decide
abbrev SameFront : ℕ → List ℕ → List ℕ → Type 0
SameFront n l l' = (i : ℕ) → i < n → get_or l i 0 ≡ get_or l' i 0

number_same : (n : ℕ) (l l' : List ℕ) → SameFront n l l' → (k : ℕ) → k + 1 < n → number_at k l ≡ number_at k l'
unfolding number_at
number_same n l l' e k h = rw (e k (omega arith), e (k + 1) h)

module _ (w : Bool) where
  pub read_none : (i : ℕ) (bytes : List ℕ) → fields_from w i bytes ≡ whole [] → bytes ≡ []
  read_none i bytes q =
      no_bytes bytes (whole_none (field_of w i bytes) (length bytes) (fields_from w (suc i) (drop (entry_size w) bytes)) (sym (fields_step w i bytes) ∙ q))

  -- bytes with an entry first: the field at the front is it, and the rest have the other entries
  module _ (i : ℕ) (bytes : List ℕ) (e : Entry) (es : List Entry) where
    pub read_first : (fields_from w i bytes).entries ≡ e ∷ es → (field_of w i bytes ≡ Ok e) × ((fields_from w (suc i) (drop (entry_size w) bytes)).entries ≡ es)
    read_first q =
        entries_more (field_of w i bytes) (length bytes) (fields_from w (suc i) (drop (entry_size w) bytes)) e es
        (ap (λ (x : Fields). x.entries) (sym (fields_step w i bytes)) ∙ q)

    pub read_more : fields_from w i bytes ≡ whole (e ∷ es) → (field_of w i bytes ≡ Ok e) × (fields_from w (suc i) (drop (entry_size w) bytes) ≡ whole es)
    unfolding fields_by
    read_more q =
        let rest = fields_from w (suc i) (drop (entry_size w) bytes) in
        let r = read_first (ap (λ (x : Fields). x.entries) q) in
        let p : following (e ∷ []) rest ≡ whole (e ∷ es) =
        sym (fields_step w i bytes ∙ ap (λ (f : Result Entry Fault). fields_by f (length bytes) rest) r.0) ∙ q in
        (r.0, λ j. record { entries = r.1 j; wrong = (p j).wrong; left_over = (p j).left_over })

  -- bytes that read as entries, and nothing else, are as many as these need
  pub whole_length : (i : ℕ) (es : List Entry) (bytes : List ℕ) → fields_from w i bytes ≡ whole es → length bytes ≡ entry_size w * length es
  whole_length i [] bytes q = ap length (read_none i bytes q) ∙ sym (mul-zero (entry_size w))
  whole_length i (e ∷ es) bytes q =
      let r = read_more i bytes e es q in
      let l = whole_long w i bytes e (sym r.0) in
      omega (arith, l, length-drop (entry_size w) bytes, whole_length (suc i) es (drop (entry_size w) bytes) r.1, size_next w (length es))

  -- and are those of the entries
  pub fields_only : (i : ℕ) (es : List Entry) (bytes : List ℕ) → AreBytes bytes → fields_from w i bytes ≡ whole es → bytes ≡ entries_bytes w i es
  unfolding entries_bytes
  fields_only i [] bytes b q = read_none i bytes q
  fields_only i (e ∷ es) bytes b q =
      let r = read_more i bytes e es q in
      entry_only w i bytes e b r.0
      ∙ ap (λ (l : List ℕ). entry_bytes w i e ++ l) (fields_only (suc i) es (drop (entry_size w) bytes) (bytes_drop (entry_size w) bytes b) r.1)

  -- entries that are read have ranks that fit
  fit_by : (i : ℕ) (bytes : List ℕ) (f : Result Entry Fault) (rest : Fields) → field_of w i bytes ≡ f → RanksFit rest.entries → RanksFit (fields_by f (length bytes) rest).entries
  unfolding fields_by
  fit_by i bytes (Ok e) rest q h = ((whole_field w i bytes e q).fits, h)
  fit_by i bytes (Err Wrong) rest q h = tt
  fit_by i bytes (Err Misnumbered) rest q h = tt
  fit_by i bytes (Err Short) rest q h = tt

  fit_in : (depth i : ℕ) (bytes : List ℕ) → RanksFit (fields_in depth w i bytes).entries
  unfolding fields_in fields_by
  fit_in zero i bytes = tt
  fit_in (suc depth) i bytes =
      fit_by i bytes (field_of w i bytes) (fields_in depth w (suc i) (drop (entry_size w) bytes)) refl (fit_in depth (suc i) (drop (entry_size w) bytes))

  -- a field goes by its bytes
  pub field_same : (i : ℕ) (l l' : List ℕ) → entry_size w ≤ length l → entry_size w ≤ length l' → SameFront (entry_size w) l l' → field_of w i l ≡ field_of w i l'
  unfolding is_entry entry_in
  field_same i l l' h h' e =
      let same = number_same (entry_size w) l l' e in
      long_field w i l h
      ∙ rw (e 0 (omega arith), same 1 (omega arith), same (head_size + number_size w) (omega arith), same (head_size + number_size w + 2) (omega arith), numbers same)
      (sym (long_field w i l' h'))
    where
      numbers : ((k : ℕ) → k + 1 < entry_size w → number_at k l ≡ number_at k l') → number_in w i l ≡ number_in w i l'
      numbers same = by w same
        where
          by : (v : Bool) → ((k : ℕ) → k + 1 < entry_size v → number_at k l ≡ number_at k l') → number_in v i l ≡ number_in v i l'
          by false s = unfold number_in in refl
          by true s = unfold number_in four_at in rw (s 3 (omega arith), s 5 (omega arith))

  -- bytes that read as entries, and nothing else, and then more bytes
  pub fields_more : (i : ℕ) (es : List Entry) (bytes more : List ℕ) → fields_from w i bytes ≡ whole es
      → fields_from w i (bytes ++ more) ≡ following es (fields_from w (i + length es) more)
  unfolding fields_by
  fields_more i [] bytes more q =
      let z : i ≡ i + 0 = omega arith in
      ap₂ (λ (l : List ℕ) (k : ℕ). fields_from w k (l ++ more)) (read_none i bytes q) z
  fields_more i (e ∷ es) bytes more q =
      let r = read_more i bytes e es q in
      let l = whole_long w i bytes e (sym r.0) in
      let f = field_same i (bytes ++ more) bytes (omega (arith, length-append bytes more)) l (λ j h. get_or-append bytes more 0 j (omega arith)) in
      let p : suc i + length es ≡ i + suc (length es) = omega arith in
      fields_step w i (bytes ++ more)
      ∙ rw (f ∙ r.0, drop-append-le (entry_size w) bytes more l)
      (ap (following (e ∷ [])) (fields_more (suc i) es (drop (entry_size w) bytes) more r.1 ∙ ap (λ (k : ℕ). following es (fields_from w k more)) p))

  -- the first i entries that bytes read as are those of their first i fields' bytes
  pub front_from : (k i : ℕ) (bytes : List ℕ) (es : List Entry) → (fields_from w i bytes).entries ≡ es → k ≤ length es
      → fields_from w i (take (entry_size w * k) bytes) ≡ whole (take k es)
  unfolding fields_by
  front_from zero i bytes es q h = ap (λ (n : ℕ). fields_from w i (take n bytes)) (mul-zero (entry_size w)) ∙ none_from w i
  front_from (suc k) i bytes [] q h = absurd (omega arith)
  front_from (suc k) i bytes (e ∷ es) q h =
      let r = read_first i bytes e es q in
      let l = whole_long w i bytes e (sym r.0) in
      let front : List ℕ = take (entry_size w + entry_size w * k) bytes in
      let n : entry_size w ≤ length front = omega (arith, length-take (entry_size w + entry_size w * k) bytes) in
      let f = field_same i front bytes n l (λ j u. get_or-take (entry_size w + entry_size w * k) bytes j 0 (omega arith)) in
      ap (λ (n : ℕ). fields_from w i (take n bytes)) (size_next w k)
      ∙ fields_step w i front
      ∙ rw (f ∙ r.0, drop_take (entry_size w) (entry_size w * k) bytes l) (ap (following (e ∷ [])) (front_from k (suc i) (drop (entry_size w) bytes) es r.1 (omega arith)))

  -- entry i + k stands in the k-th field from entry i on, with its number
  pub place_of-law : (k i : ℕ) (bytes : List ℕ) (es : List Entry) → (fields_from w i bytes).entries ≡ es → k < length es
      → let field = drop (entry_size w * k) bytes in (number_in w (i + k) field ≡ i + k) × (drop k es ≡ entry_in w field ∷ drop (suc k) es)
  place_of-law k i bytes [] q h = absurd (omega arith)
  place_of-law zero i bytes (e ∷ es) q h =
      let f = whole_field w i bytes e (read_first i bytes e es q).0 in
      let z : i + 0 ≡ i = omega arith in
      rw (mul-zero (entry_size w), z) (f.number, ap (λ (x : Entry). x ∷ es) (sym f.entry))
  place_of-law (suc k) i bytes (e ∷ es) q h =
      let r = read_first i bytes e es q in
      let p : i + suc k ≡ suc i + k = omega arith in
      rw (size_next w k, p, ← (drop-drop (entry_size w * k) (entry_size w) bytes)) (place_of-law k (suc i) (drop (entry_size w) bytes) es r.1 (omega arith))

-- with the journal's own form
pub fields_fit : (bytes : List ℕ) → RanksFit (fields bytes).entries
unfolding fields fields_from
fields_fit bytes = fit_in (numbered bytes) (length bytes) 1 bytes

-- bytes and then more have the form of the bytes, and so has a front of them
pub form_more : (bytes more : List ℕ) → head_size ≤ length bytes → numbered (bytes ++ more) ≡ numbered bytes
unfolding numbered number_at
form_more bytes more h =
    rw (
      le-ltb (length (bytes ++ more)) head_size (omega (arith, length-append bytes more)),
      le-ltb (length bytes) head_size h,
      get_or-append bytes more 0 1 (omega arith),
      get_or-append bytes more 0 2 (omega arith),
    )

pub form_front : (k : ℕ) (bytes : List ℕ) → head_size ≤ k → head_size ≤ length bytes → numbered (take k bytes) ≡ numbered bytes
unfolding numbered number_at
form_front k bytes h l =
    rw (le-ltb (length (take k bytes)) head_size (omega (arith, length-take k bytes)), le-ltb (length bytes) head_size l, get_or-take k bytes 1 0 (omega arith), get_or-take k bytes 2 0 (omega arith))

-- an entry more, in the form and with the number that are due
pub fields_next : (es : List Entry) (bytes : List ℕ) (e : Entry) → fields bytes ≡ whole es → rank_fits e ≡ true
    → fields (bytes ++ entry_bytes (numbered bytes) (suc (length es)) e) ≡ whole (es ++ (e ∷ []))
unfolding fields entries_bytes
fields_next [] bytes e q f =
    let w : Bool = numbered bytes in
    let none : bytes ≡ [] = read_none w 1 bytes q in
    ap (λ (l : List ℕ). fields (l ++ entry_bytes w 1 e)) none ∙ ap fields (sym (append-nil (entry_bytes w 1 e))) ∙ fields_written w (e ∷ []) (f, tt)
fields_next (d ∷ es) bytes e q f =
    let w : Bool = numbered bytes in
    let i : ℕ = suc (length (d ∷ es)) in
    let more : List ℕ = entry_bytes w i e in
    let long = whole_long w 1 bytes d (sym (read_more w 1 bytes d es q).0) in
    let p : 1 + length (d ∷ es) ≡ i = omega arith in
    let last : fields_from w i more ≡ whole (e ∷ []) = ap (fields_from w i) (sym (append-nil more)) ∙ written_from w i (e ∷ []) (f, tt) in
    ap (λ (v : Bool). fields_from v 1 (bytes ++ more)) (form_more bytes more (omega arith))
    ∙ fields_more w 1 (d ∷ es) bytes more q
    ∙ ap (λ (k : ℕ). following (d ∷ es) (fields_from w k more)) p
    ∙ ap (following (d ∷ es)) last

pub fields_front : (k : ℕ) (bytes : List ℕ) → k ≤ length (fields bytes).entries
    → fields (take (entry_size (numbered bytes) * k) bytes) ≡ whole (take k (fields bytes).entries)
unfolding fields
fields_front zero bytes h =
    ap (λ (n : ℕ). fields (take n bytes)) (mul-zero (entry_size (numbered bytes))) ∙ fields_form true [] (λ z. absurd (omega arith)) ∙ none_from true 1
fields_front (suc k) bytes h =
    let w : Bool = numbered bytes in
    let n : ℕ = entry_size w * suc k in
    let long : entry_size w ≤ length bytes = first_entry w bytes h in
    let form : numbered (take n bytes) ≡ w = form_front n bytes (omega (arith, size_next w k)) (omega arith) in
    ap (λ (v : Bool). fields_from v 1 (take n bytes)) form ∙ front_from w (suc k) 1 bytes (fields_from w 1 bytes).entries refl h
  where
    first_entry : (w : Bool) (bytes : List ℕ) → suc k ≤ length (fields_from w 1 bytes).entries → entry_size w ≤ length bytes
    first_entry w bytes h = by (fields_from w 1 bytes).entries refl h
      where
        by : (es : List Entry) → (fields_from w 1 bytes).entries ≡ es → suc k ≤ length es → entry_size w ≤ length bytes
        by [] q h = absurd (omega arith)
        by (e ∷ es) q h = whole_long w 1 bytes e (sym (read_first w 1 bytes e es q).0)

-- the entry with k before it has the number suc k
pub entry_number-law : (bytes : List ℕ) (k : ℕ) → k < length (fields bytes).entries
    → let field = drop (entry_size (numbered bytes) * k) bytes in
    (number_in (numbered bytes) (suc k) field ≡ suc k) × (drop k (fields bytes).entries ≡ entry_in (numbered bytes) field ∷ drop (suc k) (fields bytes).entries)
unfolding fields
entry_number-law bytes k h =
    let p : 1 + k ≡ suc k = omega arith in
    rw p at (place_of-law (numbered bytes) k 1 bytes (fields_from (numbered bytes) 1 bytes).entries refl h)

pub first_long : (bytes : List ℕ) → has_first bytes ≡ true → first_size ≤ length bytes
unfolding has_first
first_long bytes h = leb-true first_size (length bytes) (both_true (leb first_size (length bytes)) _ h).0

-- a first field goes by its bytes
pub first_same : (l l' : List ℕ) → first_size ≤ length l → first_size ≤ length l' → SameFront first_size l l' → (has_first l ≡ has_first l') × (banks_in l ≡ banks_in l')
unfolding has_first banks_in number_at
first_same l l' h h' e = (
  rw (le-leb first_size (length l) h, le-leb first_size (length l') h', e 0 (omega arith), e 1 (omega arith), e 2 (omega arith)),
  rw (e 3 (omega arith), e 4 (omega arith)),
)

-- the bytes of a journal are bytes
bytes_cons : (x : ℕ) (xs : List ℕ) → x < 256 → AreBytes xs → AreBytes (x ∷ xs)
bytes_cons x xs h b zero = h
bytes_cons x xs h b (suc i) = b i

bytes_two : (x : ℕ) (xs : List ℕ) → x < 65536 → AreBytes xs → AreBytes (two_bytes x ++ xs)
unfolding two_bytes
bytes_two x xs h b = bytes_cons (x % 256) (x / 256 ∷ xs) (omega arith) (bytes_cons (x / 256) xs (omega arith) b)

-- a field whose tag is a byte and whose length is small
bytes_field : (tag size : ℕ) (value : List ℕ) → tag < 256 → size < 65536 → AreBytes value → AreBytes (tag ∷ (two_bytes size ++ value))
bytes_field tag size value t s r = bytes_cons tag (two_bytes size ++ value) t (bytes_two size value s r)

tag_byte : (e : Entry) → tag_of e < 256
unfolding tag_of kind_tag
tag_byte (Clash Adding a b) = omega arith
tag_byte (Clash Striking a b) = omega arith
tag_byte (Rank b r) = omega arith

bytes_number : (w : Bool) (i : ℕ) (xs : List ℕ) → i < 4294967296 → AreBytes xs → AreBytes (number_bytes w i ++ xs)
unfolding number_bytes four_bytes two_bytes
bytes_number false i xs h b = b
bytes_number true i xs h b = bytes_two (i % 65536) (two_bytes (i / 65536) ++ xs) (omega arith) (bytes_two (i / 65536) xs (omega arith) b)

module _ (w : Bool) where
  value_few : value_size w < 65536
  value_few = by w
    where
      by : (v : Bool) → value_size v < 65536
      by true = omega arith
      by false = omega arith

  bytes_entry : (i : ℕ) (e : Entry) (xs : List ℕ) → i < 4294967296 → Below 65536 e → AreBytes xs → AreBytes (entry_bytes w i e ++ xs)
  unfolding entry_bytes
  bytes_entry i e xs n h r =
      let second = bytes_two (second_in e) xs h.1 r in
      let value = bytes_number w i _ n (bytes_two (first_in e) _ h.0 second) in
      subst AreBytes (sym (field_rest w (tag_of e) i (first_in e) (second_in e) xs)) (bytes_field (tag_of e) (value_size w) _ (tag_byte e) value_few value)

  bytes_entries : (i : ℕ) (es : List Entry) → i + length es ≤ 4294967296 → AllBelow 65536 es → AreBytes (entries_bytes w i es)
  unfolding entries_bytes
  bytes_entries i [] n h = λ j. omega arith
  bytes_entries i (e ∷ es) n h = bytes_entry i e (entries_bytes w (suc i) es) (omega arith) h.0 (bytes_entries (suc i) es (omega arith) h.1)

  pub journal_bytes-law : (n : ℕ) (es : List Entry) → n < 65536 → AllBelow 65536 es → length es < 4294967296 → AreBytes (journal_bytes w n es)
  unfolding journal_bytes first_bytes field_bytes two_bytes
  journal_bytes-law n es l h k =
      bytes_field first_tag 2 (two_bytes n ++ entries_bytes w 1 es) (omega arith) (omega arith) (bytes_two n (entries_bytes w 1 es) l (bytes_entries 1 es (omega arith) h))

  -- a journal that was written, read
  module _ (n : ℕ) (es : List Entry) where
    pub journal_has : has_first (journal_bytes w n es) ≡ true
    unfolding journal_bytes
    journal_has = first_has n (entries_bytes w 1 es)

    pub journal_banks : banks_in (journal_bytes w n es) ≡ n
    unfolding journal_bytes
    journal_banks = first_banks n (entries_bytes w 1 es)

    pub journal_drop : drop first_size (journal_bytes w n es) ≡ entries_bytes w 1 es
    unfolding journal_bytes
    journal_drop = first_drop n (entries_bytes w 1 es)

    pub journal_fields-law : RanksFit es → fields (drop first_size (journal_bytes w n es)) ≡ whole es
    journal_fields-law f = ap fields journal_drop ∙ fields_written w es f

    pub length_journal : length (journal_bytes w n es) ≡ first_size + entry_size w * length es
    unfolding journal_bytes
    length_journal = length_first n (entries_bytes w 1 es) ∙ ap (◌+◌ first_size) (length_entries w 1 es)

-- bytes that read as a journal are the journal's
pub journal_only : (bytes : List ℕ) (n : ℕ) (es : List Entry) → AreBytes bytes → has_first bytes ≡ true → banks_in bytes ≡ n → fields (drop first_size bytes) ≡ whole es
    → bytes ≡ journal_bytes (numbered (drop first_size bytes)) n es
unfolding journal_bytes fields
journal_only bytes n es b h k q =
    let w = numbered (drop first_size bytes) in
    first_only bytes b h
    ∙ ap₂ (λ (x : ℕ) (l : List ℕ). first_bytes x ++ l) k (fields_only w 1 es (drop first_size bytes) (bytes_drop first_size bytes b) q)
