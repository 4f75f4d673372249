-- A sheet as it is read: line by line, and that the lines so far are the first of any sheet that the bytes are.
use mathlib.Core.List.{List, [], ◌∷◌, ◌++◌, map, map-map, append_assoc, append-nil}
use mathlib.Core.Logic.{◌⊎◌, inl, inr}
use mathlib.Core.Path.{◌≡◌, refl, sym, ap, ap₂, subst, ◌∙◌}
use Prim.Native.Nat.{ℕ, zero, suc, ◌+◌, ◌-◌, ◌≤◌, ◌<◌}
use native.Mathlib.Nat.{add-zero, add-suc}
use native.Mathlib.Numerals.{add-one}
use native.Mathlib.Omega.{arith}
use lib.Dec.{T, eqb, ltb, eqb→eq}
use lib.ListN.{length, get_or, take, drop, length-append, length-map}
use lib.Seq.{take_at}
use borrow.Author.Tests.{ne_eqb}
use Rattle.rule.specs.Lists.{upto, memb, Sorted}
use Rattle.rule.proofs.Booleans.{lt_or_ge}
use Rattle.rule.proofs.Lists.{in_none, upto_below, filter_in, filter_cong, length_upto}
use Rattle.rule.proofs.Sorting.{sorted_filter, sorted_upto}
use Rattle.rule.specs.Wave.{banks_by}
use Rattle.text.specs.Text.{joined}
use Rattle.text.specs.Numbers.{decimal}
use Rattle.text.specs.Places.{put, Puts}
use Rattle.text.proofs.Joined.{texts_next}
use Rattle.text.proofs.Putting.{puts_then}
use Rattle.wave_lines.specs.Lines.{line_by, lines_by}
use Rattle.wave_lines.specs.Foot.{foot_text}
use Rattle.sheet_writer.specs.Sheet.{line_text, head_text, last_text, sheet_of, sheet_by}
use Rattle.sheet_parser.specs.Sheets.{SheetOf, Begins, Fault}
use Rattle.sheet_parser.specs.inner.Numbers.{ByteAt, Stands, NumberAt, NoNumber}
use Rattle.sheet_parser.specs.inner.Lines.{wave_in, line_with_banks, Banks, NoLine, LineAt, HeadAt, NoHead, lines_text, Lines}
use Rattle.sheet_parser.specs.inner.Lines.{NoLines, NoSheet, NoneNamed, AllNamed}
use Rattle.sheet_parser.proofs.Numbers.{cons_head, cons_tail, decimal_same, byte_then, then_byte}
use Rattle.sheet_parser.proofs.Lines.{texts, feed_ends, so_far, in_banks, banks_then}

-- the first line
head_then : (k : ℕ) (X : List ℕ) → head_text k ++ X ≡ (87 ∷ 65 ∷ 86 ∷ 69 ∷ 83 ∷ 32 ∷ []) ++ (decimal k ++ (10 ∷ X))
unfolding head_text
head_then k X = ap (λ (l : List ℕ). (87 ∷ 65 ∷ 86 ∷ 69 ∷ 83 ∷ 32 ∷ []) ++ l) (append_assoc (decimal k) (10 ∷ []) X)

head_one : (k j : ℕ) (X Y : List ℕ) → head_text k ++ X ≡ head_text j ++ Y → (k ≡ j) × (X ≡ Y)
head_one k j X Y e =
    let r = decimal_same k j (10 ∷ X) (10 ∷ Y) (feed_ends X) (feed_ends Y) (ap (λ (l : List ℕ). drop 6 l) (sym (head_then k X) ∙ e ∙ head_then j Y)) in
    (r.0, cons_tail r.1)

-- as it is read
module _ {s : List ℕ} where
  pub no_word : (Stands s 0 (87 ∷ 65 ∷ 86 ∷ 69 ∷ 83 ∷ 32 ∷ []) → ⊥) → NoHead s
  no_word none k rest few e = none (by (decimal k ++ (10 ∷ rest)) (e ∙ head_then k rest))
    where
      by : (X : List ℕ) → s ≡ (87 ∷ 65 ∷ 86 ∷ 69 ∷ 83 ∷ 32 ∷ []) ++ X → Stands s 0 (87 ∷ 65 ∷ 86 ∷ 69 ∷ 83 ∷ 32 ∷ [])
      by X e = e ∙ ap (λ (l : List ℕ). (87 ∷ 65 ∷ 86 ∷ 69 ∷ 83 ∷ 32 ∷ []) ++ l) (sym (ap (λ (l : List ℕ). drop 6 l) e))

  after_word : (k : ℕ) (rest : List ℕ) → s ≡ head_text k ++ rest → drop 6 s ≡ decimal k ++ (10 ∷ rest)
  after_word k rest e = ap (λ (l : List ℕ). drop 6 l) (e ∙ head_then k rest)

  pub no_count : NoNumber s 6 → NoHead s
  no_count none k rest few e = none k (10 ∷ rest) (omega arith) (feed_ends rest) (after_word k rest e)

  module _ {v at : ℕ} (number : NumberAt s 6 v at) where
    same_count : (k : ℕ) (rest : List ℕ) → s ≡ head_text k ++ rest → (k ≡ v) × (10 ∷ rest ≡ drop at s)
    same_count k rest e =
        decimal_same k v (10 ∷ rest) (drop at s) (feed_ends rest) number.ends (sym (after_word k rest e) ∙ number.text)

    pub many_waves : 24 < v → NoHead s
    many_waves h k rest few e = omega (arith, (same_count k rest e).0)

    pub no_feed : (ByteAt s at 10 → ⊥) → NoHead s
    no_feed none k rest few e = none (then_byte (sym (same_count k rest e).1))

    pub head_read : Stands s 0 (87 ∷ 65 ∷ 86 ∷ 69 ∷ 83 ∷ 32 ∷ []) → v ≤ 24 → ByteAt s at 10 → HeadAt s v (at + 1)
    head_read word few feed = record {
      text =
          word
          ∙ ap (λ (l : List ℕ). (87 ∷ 65 ∷ 86 ∷ 69 ∷ 83 ∷ 32 ∷ []) ++ l) (number.text ∙ ap (λ (l : List ℕ). decimal v ++ l) (byte_then feed))
          ∙ sym (head_then v (drop (at + 1) s));
      few = few;
      inside = omega (arith, feed.inside);
    }

-- the lines of waves
line_one : (c : ℕ) (bs ds X Y : List ℕ) → line_text (line_with_banks c bs) ++ X ≡ line_text (line_with_banks c ds) ++ Y → (bs ≡ ds) × (X ≡ Y)
line_one c bs ds X Y e =
    let f = so_far bs ds (10 ∷ X) Y (λ l. feed_ends X) (line_tail bs X ∙ unfold line_text in cons_tail e ∙ sym (line_tail ds Y)) in
    by f.more f.banks f.rest
  where
    line_tail : (bs X : List ℕ) → texts bs ++ (10 ∷ X) ≡ (texts bs ++ (10 ∷ [])) ++ X
    line_tail bs X = sym (append_assoc (texts bs) (10 ∷ []) X)

    by : (more : List ℕ) → ds ≡ bs ++ more → 10 ∷ X ≡ texts more ++ (10 ∷ Y) → (bs ≡ ds) × (X ≡ Y)
    by [] d r = let same : 10 ∷ X ≡ 10 ∷ Y = unfold joined in r in (sym (d ∙ append-nil bs), cons_tail same)
    by (b ∷ more) d r = absurd (omega (arith, cons_head (r ∙ banks_then b more (10 ∷ Y))))

pub lines_next : (w : ℕ → ℕ) (n c : ℕ) → lines_text w n (suc c) ≡ lines_text w n c ++ line_text (line_by w n c)
unfolding lines_text
lines_next w n c = texts_next (λ i. line_text (line_by w n i)) c

lines_zero : (w : ℕ → ℕ) (n : ℕ) → lines_text w n 0 ≡ []
unfolding lines_text upto joined
lines_zero w n = refl

pub record Agree (v w : ℕ → ℕ) (n c : ℕ) (X Y : List ℕ) : Type 0 where
  pub banks : (i : ℕ) → i < c → banks_by v n i ≡ banks_by w n i
  pub rest : X ≡ Y

lines_one : (v w : ℕ → ℕ) (n c : ℕ) (X Y : List ℕ) → lines_text v n c ++ X ≡ lines_text w n c ++ Y → Agree v w n c X Y
lines_one v w n zero X Y e = record {
  banks = λ i h. absurd (omega arith);
  rest = sym (ap (λ (l : List ℕ). l ++ X) (lines_zero v n)) ∙ e ∙ ap (λ (l : List ℕ). l ++ Y) (lines_zero w n);
}
lines_one v w n (suc c) X Y e =
    let here : List ℕ = line_text (line_by v n c) in
    let there : List ℕ = line_text (line_by w n c) in
    let f : lines_text v n c ++ (here ++ X) ≡ lines_text w n c ++ (there ++ Y) =
    sym (ap (λ (l : List ℕ). l ++ X) (lines_next v n c) ∙ append_assoc (lines_text v n c) here X)
    ∙ e ∙ ap (λ (l : List ℕ). l ++ Y) (lines_next w n c) ∙ append_assoc (lines_text w n c) there Y in
    let r = lines_one v w n c (here ++ X) (there ++ Y) f in
    let q = line_one c (banks_by v n c) (banks_by w n c) X Y r.rest in
    record {
      banks = λ i h.
          elim (lt_or_ge i c) [
            | inl l ↦ r.banks i l
            | inr g ↦ let same : i ≡ c = omega arith in rw same q.0
          ];
      rest = q.1;
    }

-- more lines than c
lines_split : (w : ℕ → ℕ) (n c d : ℕ) → (rest : List ℕ) × (lines_text w n (c + d) ≡ lines_text w n c ++ rest)
lines_split w n c zero = ([], ap (lines_text w n) (add-zero c) ∙ sym (append-nil (lines_text w n c)))
lines_split w n c (suc d) =
    let r = lines_split w n c d in
    let more : List ℕ = line_text (line_by w n (c + d)) in (
      r.0 ++ more,
      ap (lines_text w n) (add-suc c d) ∙ lines_next w n (c + d) ∙ ap (λ (l : List ℕ). l ++ more) r.1 ∙ append_assoc (lines_text w n c) r.0 more,
    )

-- the text of a sheet
pub sheet_text : (w : ℕ → ℕ) (n k m : ℕ) → sheet_by w n k m ≡ head_text k ++ (lines_text w n k ++ last_text n m)
unfolding sheet_of lines_text
sheet_text w n k m =
    ap₂ (λ (j : ℕ) (l : List ℕ). head_text j ++ (l ++ last_text n m)) (length-map (upto k) (line_by w n) ∙ length_upto k)
    (ap joined (map-map line_text (line_by w n) (upto k)))

-- the banks of a wave: each is below n and has it
pub banks_in-law : (w : ℕ → ℕ) (n c b : ℕ) → T (memb b (banks_by w n c)) → (b < n) × (w b ≡ c)
unfolding banks_by
banks_in-law w n c b m =
    let r = filter_in (λ b. eqb (w b) c) (upto n) b m in
    (upto_below n b r.0, eqb→eq (w b) c r.1)

pub banks_ascend : (w : ℕ → ℕ) (n c : ℕ) → Sorted ltb (banks_by w n c)
unfolding banks_by
banks_ascend w n c = sorted_filter ltb (λ b. eqb (w b) c) (upto n) (sorted_upto n)

some_length : (bs : List ℕ) (b : ℕ) → T (memb b bs) → 1 ≤ length bs
some_length [] b m = absurd (in_none b m)
some_length (x ∷ bs) b m = omega arith

-- the lines, one by one or as a whole
pub lines_map : (w : ℕ → ℕ) (n c : ℕ) → joined (map line_text (lines_by w n c)) ≡ lines_text w n c
unfolding lines_text
lines_map w n c = ap joined (map-map line_text (line_by w n) (upto c))

-- lines read so far, beside any others that begin a sheet there
module _ {s cells : List ℕ} {n k c next : ℕ} (read : Lines s cells n k c next) where
  both_heads : (j d : ℕ) (w : ℕ → ℕ) (rest : List ℕ) → s ≡ head_text j ++ (lines_text w n d ++ rest)
      → (k ≡ j) × (lines_text (wave_in cells) n c ++ drop next s ≡ lines_text w n d ++ rest)
  both_heads j d w rest e = head_one k j (lines_text (wave_in cells) n c ++ drop next s) (lines_text w n d ++ rest) (sym read.text ∙ e)

  module _ (other : Begins n s (suc c)) where
    abbrev w : ℕ → ℕ
    w = other.wave

    -- one line more than was read
    agree : Agree (wave_in cells) other.wave n c (drop next s) (line_text (line_by other.wave n c) ++ other.rest)
    agree =
        let here : List ℕ = line_text (line_by w n c) in
        let r = both_heads other.count (suc c) w other.rest (other.text ∙ ap (λ (l : List ℕ). head_text other.count ++ (l ++ other.rest)) (lines_map w n (suc c))) in
        lines_one (wave_in cells) w n c (drop next s) (here ++ other.rest)
        (r.1 ∙ ap (λ (l : List ℕ). l ++ other.rest) (lines_next w n c) ∙ append_assoc (lines_text w n c) here other.rest)

    free : (b : ℕ) → b < n → other.wave b ≡ c → get_or cells b 0 ≡ 24
    free b l e =
        elim (read.named b l) [
          | inl low ↦
              let there = in_banks (wave_in cells) (get_or cells b 0) n b l refl in
              let same = banks_in-law w n (get_or cells b 0) b (subst (λ (bs : List ℕ). T (memb b bs)) (agree.banks (get_or cells b 0) low) there) in
              absurd (omega (arith, same.1))
          | inr unnamed ↦ unnamed
        ]

    fitting : Banks cells n (banks_by other.wave n c)
    fitting = record {
      some = let r = other.none_empty c (omega arith) in some_length (banks_by w n c) r.0 (in_banks w c n r.0 r.1 r.2);
      ascend = banks_ascend w n c;
      fit = λ b t. let r = banks_in-law w n c b t in record { high = omega arith; bank = r.0; free = free b r.0 r.1 };
    }

    pub no_line_more : NoLine s cells n c next → ⊥
    no_line_more none = none (banks_by w n c) other.rest fitting agree.rest

    -- nor do more lines than the first says
    pub no_more : k ≡ c → ⊥
    no_more e =
        let r = both_heads other.count (suc c) w other.rest (other.text ∙ ap (λ (l : List ℕ). head_text other.count ++ (l ++ other.rest)) (lines_map w n (suc c))) in
        omega (arith, r.0, other.lines)

  -- those that were read begin one
  pub begins : c ≤ k → Begins n s c
  begins h = record {
    count = k;
    wave = wave_in cells;
    rest = drop next s;
    few = read.few;
    lines = h;
    none_empty = read.held;
    text = read.text ∙ ap (λ (l : List ℕ). head_text k ++ (l ++ drop next s)) (sym (lines_map (wave_in cells) n c));
  }

  module _ (h : c ≤ k) (none : Begins n s (suc c) → ⊥) where
    pub fault_at : Fault n s (c + 2)
    fault_at = record {
      some = omega arith;
      before = λ d e. let same : c ≡ d = omega arith in subst (Begins n s) same (begins h);
      at = λ d e other. let same : d ≡ suc c = omega arith in none (subst (Begins n s) same other);
    }

  pub fault_line : c < k → NoLine s cells n c next → Fault n s (c + 2)
  fault_line h none = fault_at (omega arith) (λ other. no_line_more other none)

pub fault_foot : {s cells : List ℕ} {n k next : ℕ} → Lines s cells n k k next → Fault n s (k + 2)
fault_foot read = fault_at read (omega arith) (λ other. no_more read other refl)

pub fault_head : {s : List ℕ} (n : ℕ) → NoHead s → Fault n s 1
fault_head n none = record {
  some = omega arith;
  before = λ c e. absurd (omega arith);
  at = λ c e other. none other.count (joined (map line_text (lines_by other.wave n c)) ++ other.rest) other.few other.text;
}

-- a sheet begins with its lines
pub sheet_begins : {n m : ℕ} {s : List ℕ} {k : ℕ} {w : ℕ → ℕ} → SheetOf n m s k w → (c : ℕ) → c ≤ k → Begins n s c
sheet_begins {n} {m} {s} {k} {w} sheet c h =
    let r = lines_split w n c (k - c) in
    let e : k ≡ c + (k - c) = omega arith in
    record {
      count = k;
      wave = w;
      rest = r.0 ++ last_text n m;
      few = sheet.waves.few;
      lines = h;
      none_empty = λ i l. sheet.waves.none_empty i (omega arith);
      text =
          sheet.text ∙ sheet_text w n k m
          ∙ ap (λ (l : List ℕ). head_text k ++ l)
          (ap (λ (l : List ℕ). l ++ last_text n m) (ap (lines_text w n) e ∙ r.1 ∙ ap (λ (l : List ℕ). l ++ r.0) (sym (lines_map w n c)))
          ∙ append_assoc (joined (map line_text (lines_by w n c))) r.0 (last_text n m));
    }

-- all lines were read
module _ {s cells : List ℕ} {n k next : ℕ} (read : Lines s cells n k k next) {m j : ℕ} {w : ℕ → ℕ} (other : SheetOf n m s j w) where
  both_sheets : (k ≡ j) × (lines_text (wave_in cells) n k ++ drop next s ≡ lines_text w n j ++ last_text n m)
  both_sheets = both_heads read j j w (last_text n m) (other.text ∙ sheet_text w n j m)

  agree_all : Agree (wave_in cells) w n k (drop next s) (last_text n m)
  agree_all =
      lines_one (wave_in cells) w n k (drop next s) (last_text n m)
      (both_sheets.1 ∙ ap (λ (i : ℕ). lines_text w n i ++ last_text n m) (sym both_sheets.0))

  all_named_of : AllNamed cells n
  all_named_of b h =
      let low : w b < k = omega (arith, other.waves.below b h, both_sheets.0) in
      let there = in_banks w (w b) n b h refl in
      let same = banks_in-law (wave_in cells) n (w b) b (subst (λ (bs : List ℕ). T (memb b bs)) (sym (agree_all.banks (w b) low)) there) in
      omega (arith, same.1, read.few)

-- so where the first line, a line, the foot or a bank is missing, they are no sheet
pub no_head : {s : List ℕ} {n m : ℕ} → NoHead s → NoSheet s n m
no_head {s} {n} {m} none j w other = none j (lines_text w n j ++ last_text n m) other.waves.few (other.text ∙ sheet_text w n j m)

pub no_lines : {s cells : List ℕ} {n k c next : ℕ} → Lines s cells n k c next → c < k → NoLine s cells n c next → NoLines s n
no_lines {c} read h none m j w other =
    let count : _ ≡ j = (both_heads read j j w (last_text _ m) (other.text ∙ sheet_text w _ j m)).0 in
    no_line_more read (sheet_begins other (suc c) (omega arith)) none

module _ {s cells : List ℕ} {n k next : ℕ} (read : Lines s cells n k k next) where
  pub no_foot : {m : ℕ} → (drop next s ≡ last_text n m → ⊥) → NoSheet s n m
  no_foot none j w other = none (agree_all read other).rest

  pub not_all : {m : ℕ} → (AllNamed cells n → ⊥) → NoSheet s n m
  not_all none j w other = none (all_named_of read other)

  pub sheet_done : {m : ℕ} → drop next s ≡ last_text n m → AllNamed cells n → SheetOf n m s k (wave_in cells)
  sheet_done {m} foot all = record {
    waves = record {
      few = read.few;
      below = λ b h. elim (read.named b h) [ inl low ↦ low | inr unnamed ↦ absurd (omega (arith, all b h, unnamed)) ];
      none_empty = read.held;
    };
    text = read.text ∙ ap (λ (l : List ℕ). head_text k ++ (lines_text (wave_in cells) n k ++ l)) foot ∙ sym (sheet_text (wave_in cells) n k m);
  }

-- the lines one by one
pub lines_none : {s cells : List ℕ} {n k next : ℕ} → HeadAt s k next → NoneNamed cells n → Lines s cells n k 0 next
lines_none {s} {cells} {n} {k} {next} head none = record {
  text = head.text ∙ ap (λ (l : List ℕ). head_text k ++ (l ++ drop next s)) (sym (lines_zero (wave_in cells) n));
  few = head.few;
  inside = head.inside;
  named = λ b h. inr (none b h);
  held = λ i h. absurd (omega arith);
}

-- of waves that differ only for banks of neither of the first c
pub lines_cong : (v w : ℕ → ℕ) (n c : ℕ) → ((i : ℕ) → i < c → banks_by v n i ≡ banks_by w n i) → lines_text v n c ≡ lines_text w n c
lines_cong v w n zero same = lines_zero v n ∙ sym (lines_zero w n)
lines_cong v w n (suc c) same =
    lines_next v n c
    ∙ ap₂ (λ (l : List ℕ) (bs : List ℕ). l ++ line_text (line_with_banks c bs)) (lines_cong v w n c (λ i h. same i (omega arith))) (same c (omega arith))
    ∙ sym (lines_next w n c)

module _ {s cells cells' : List ℕ} {n k c next next' : ℕ} (read : Lines s cells n k c next) (h : c < k) (line : LineAt s cells cells' n c next next') where
  same_test : (i : ℕ) → i < c → (b : ℕ) → b < n → eqb (get_or cells b 0) i ≡ eqb (get_or cells' b 0) i
  same_test i l b g =
      elim (line.grown b g) [
        | inl same ↦ ap (λ (x : ℕ). eqb x i) (sym same)
        | inr two ↦
            let was : get_or cells b 0 ≡ i → ⊥ = λ e. omega (arith, two.0, read.few) in
            let is : get_or cells' b 0 ≡ i → ⊥ = λ e. omega (arith, two.1) in
            ne_eqb (get_or cells b 0) i was ∙ sym (ne_eqb (get_or cells' b 0) i is)
      ]

  same_banks-law : (i : ℕ) → i < c → banks_by (wave_in cells) n i ≡ banks_by (wave_in cells') n i
  unfolding banks_by
  same_banks-law i l =
      filter_cong (λ b. eqb (get_or cells b 0) i) (λ b. eqb (get_or cells' b 0) i) (upto n) (λ b m. same_test i l b (upto_below n b m))

  more_text : s ≡ head_text k ++ (lines_text (wave_in cells') n (c + 1) ++ drop next' s)
  more_text =
      let w : ℕ → ℕ = wave_in cells' in
      let here : List ℕ = line_text (line_by w n c) in
      read.text
      ∙ ap (λ (l : List ℕ). head_text k ++ l)
      (ap₂ (λ (l r : List ℕ). l ++ r) (lines_cong (wave_in cells) w n c same_banks-law) line.text
      ∙ sym (append_assoc (lines_text w n c) here (drop next' s))
      ∙ ap (λ (l : List ℕ). l ++ drop next' s) (sym (lines_next w n c) ∙ ap (lines_text w n) (sym (add-one c))))

  more_named : (b : ℕ) → b < n → (get_or cells' b 0 < c + 1) ⊎ (get_or cells' b 0 ≡ 24)
  more_named b g =
      elim (line.grown b g) [
        | inl same ↦ elim (read.named b g) [ inl low ↦ inl (omega arith) | inr unnamed ↦ inr (same ∙ unnamed) ]
        | inr two ↦ inl (omega (arith, two.1))
      ]

  more_held : (i : ℕ) → i < c + 1 → (b : ℕ) × (b < n) × (get_or cells' b 0 ≡ i)
  more_held i l =
      elim (lt_or_ge i c) [
        | inl low ↦
            let r = read.held i low in
            elim (line.grown r.0 r.1) [
              | inl same ↦ (r.0, r.1, same ∙ r.2)
              | inr two ↦ absurd (omega (arith, two.0, r.2, read.few))
            ]
        | inr g ↦ let e : c ≡ i = omega arith in let r = line.held in (r.0, r.1, r.2 ∙ e)
      ]

  pub lines_more : Lines s cells' n k (c + 1) next'
  lines_more = record { text = more_text; few = read.few; inside = line.inside; named = more_named; held = more_held }

-- no cell has the wave that comes next
pub none_yet : {s cells : List ℕ} {n k c next : ℕ} → Lines s cells n k c next → c < k → (b : ℕ) → b < n → get_or cells b 0 ≡ c → ⊥
none_yet read h b g e = elim (read.named b g) [ inl low ↦ omega arith | inr unnamed ↦ omega (arith, read.few) ]

-- the foot, and its line feed
module _ (n m : ℕ) {feed : ℕ} (size : feed ≡ length (foot_text n m)) where
  last_size : length (last_text n m) ≡ feed + 1
  unfolding last_text
  last_size = omega (arith, length-append (foot_text n m) (10 ∷ []))

  module _ {out out₁ out₂ : List ℕ} {r₁ r₂ : ℕ} (room : feed + 1 ≤ length out) (a : Puts (foot_text n m) 0 out r₁ out₁) (b : Puts (10 ∷ []) feed out₁ r₂ out₂) where
    place : feed ≡ r₁
    place = omega (arith, a.next)

    both_put : Puts (last_text n m) 0 out r₂ out₂
    unfolding last_text
    both_put = puts_then (foot_text n m) (10 ∷ []) 0 out (omega arith) r₁ r₂ out₁ out₂ a (subst (λ (k : ℕ). Puts (10 ∷ []) k out₁ r₂ out₂) place b)

    pub foot_is : take (feed + 1) out₂ ≡ last_text n m
    unfolding put
    foot_is =
        ap (λ (l : List ℕ). take (feed + 1) l) both_put.left
        ∙ take_at (last_text n m) (drop (0 + length (last_text n m)) out) (feed + 1) (omega (arith, last_size))
