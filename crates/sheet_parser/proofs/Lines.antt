-- A line of a sheet as it is read: bank by bank, and that the banks so far are the first of any line that stands there.
use mathlib.Core.Bool.{Bool}
use mathlib.Core.List.{List, [], ◌∷◌, ◌++◌, map, append_assoc, append-nil}
use mathlib.Core.Logic.{◌⊎◌, inl, inr}
use mathlib.Core.Path.{◌≡◌, refl, sym, ap, ap₂, subst, ◌∙◌}
use Prim.Native.Nat.{ℕ, zero, suc, ◌+◌, ◌-◌, ◌≤◌, ◌<◌}
use native.Mathlib.Nat.{add-zero, add-suc}
use native.Mathlib.Numerals.{add-one}
use native.Mathlib.Omega.{arith}
use lib.Dec.{T, eqb, ltb, eqb→eq, ltb→lt}
use lib.ListN.{length, get_or, set, drop, length-append}
use lib.Seq.{get_or-set_same, get_or-set_other}
use Rattle.rule.specs.Lists.{upto, filter, memb, Sorted}
use Rattle.rule.proofs.Booleans.{lt_or_ge, eq→eqb}
use Rattle.rule.proofs.Lists.{in_head, in_cons, in_none, in_append_r, in_upto, upto_below, in_filter, filter_cong, filter_kept, filter_left}
use Rattle.rule.specs.Wave.{banks_by}
use Rattle.text.specs.Text.{joined}
use Rattle.text.specs.Numbers.{decimal}
use Rattle.text.proofs.Joined.{texts_append}
use Rattle.wave_lines.specs.Lines.{letters}
use Rattle.sheet_writer.specs.Sheet.{bank_text, line_text}
use Rattle.sheet_parser.specs.inner.Numbers.{ByteAt, NoDigit, NumberAt, NoNumber}
use Rattle.sheet_parser.specs.inner.Lines.{wave_in, line_with_banks, Enough, Fits, Banks, Takes, NoBank, Grown, OnLine, NoLine}
use Rattle.sheet_parser.specs.inner.Lines.{Banked, LineAt}
use Rattle.sheet_parser.proofs.Numbers.{cons_head, cons_tail, decimal_same, byte_then, then_byte}

-- a space, a line feed
pub space_ends : (rest : List ℕ) → NoDigit (32 ∷ rest)
space_ends rest l h = omega arith

pub feed_ends : (rest : List ℕ) → NoDigit (10 ∷ rest)
feed_ends rest l h = omega arith

-- banks on a line, and what follows them
abbrev pub texts : List ℕ → List ℕ
texts bs = joined (map bank_text bs)

pub banks_then : (b : ℕ) (bs X : List ℕ) → texts (b ∷ bs) ++ X ≡ 32 ∷ (decimal b ++ (texts bs ++ X))
unfolding joined bank_text
banks_then b bs X = ap (◌∷◌ 32) (append_assoc (decimal b) (texts bs) X)

texts_ends : (bs X : List ℕ) → NoDigit X → NoDigit (texts bs ++ X)
texts_ends [] X n = unfold joined in n
texts_ends (b ∷ bs) X n = subst NoDigit (sym (banks_then b bs X)) (space_ends (decimal b ++ (texts bs ++ X)))

-- they are the first of those on any line that stands there
pub record First (cur bs X Y : List ℕ) : Type 0 where
  pub more : List ℕ
  pub banks : bs ≡ cur ++ more
  pub rest : X ≡ texts more ++ (10 ∷ Y)

no_bank_then : (b : ℕ) (bs X Y : List ℕ) → texts (b ∷ bs) ++ X ≡ texts [] ++ (10 ∷ Y) → ⊥
no_bank_then b bs X Y e = unfold joined in omega (arith, cons_head (sym (banks_then b bs X) ∙ e))

pub so_far : (cur bs X Y : List ℕ) → (1 ≤ length cur → NoDigit X) → texts cur ++ X ≡ texts bs ++ (10 ∷ Y) → First cur bs X Y
so_far [] bs X Y n e = record { more = bs; banks = refl; rest = unfold joined in e }
so_far (x ∷ cur) [] X Y n e = absurd (no_bank_then x cur X Y e)
so_far (x ∷ cur) (y ∷ bs) X Y n e =
    let f = cons_tail (sym (banks_then x cur X) ∙ e ∙ banks_then y bs (10 ∷ Y)) in
    let r = decimal_same x y (texts cur ++ X) (texts bs ++ (10 ∷ Y)) (texts_ends cur X (n (omega arith))) (texts_ends bs (10 ∷ Y) (feed_ends Y)) f in
    let q = so_far cur bs X Y (λ l. n (omega arith)) r.1 in
    record { more = q.more; banks = ap₂ ◌∷◌ (sym r.0) q.banks; rest = q.rest }

-- one bank more at the end
texts_snoc : (bs : List ℕ) (b : ℕ) → texts (bs ++ (b ∷ [])) ≡ texts bs ++ bank_text b
unfolding joined
texts_snoc bs b = texts_append bank_text bs (b ∷ []) ∙ ap (λ (l : List ℕ). texts bs ++ l) (append-nil (bank_text b))

-- those below low are all below low + d that pass, where none from low on does
filter_last : (p : ℕ → Bool) (k : ℕ) → (T (p k) → ⊥) → filter p (upto (suc k)) ≡ filter p (upto k)
unfolding upto
filter_last p k n = filter_left p (upto k) k n

filter_stays : (p : ℕ → Bool) (low d : ℕ) → ((x : ℕ) → low ≤ x → x < low + d → T (p x) → ⊥) → filter p (upto (low + d)) ≡ filter p (upto low)
filter_stays p low zero h = rw (add-zero low)
filter_stays p low (suc d) h =
    rw (add-suc low d)
    (filter_last p (low + d) (h (low + d) (omega arith) (omega arith)) ∙ filter_stays p low d (λ x l u. h x l (omega arith)))

banks_stay : (w : ℕ → ℕ) (c low n : ℕ) → low ≤ n → ((b : ℕ) → low ≤ b → b < n → w b ≡ c → ⊥) → banks_by w n c ≡ banks_by w low c
unfolding banks_by
banks_stay w c low n h none =
    let e : low + (n - low) ≡ n = omega arith in
    let p : ℕ → Bool = λ b. eqb (w b) c in
    ap (λ (k : ℕ). filter p (upto k)) (sym e) ∙ filter_stays p low (n - low) (λ x l u t. none x l (omega arith) (eqb→eq (w x) c t))

banks_none : (w : ℕ → ℕ) (c : ℕ) → banks_by w 0 c ≡ []
unfolding banks_by upto filter
banks_none w c = refl

pub in_banks : (w : ℕ → ℕ) (c n b : ℕ) → b < n → w b ≡ c → T (memb b (banks_by w n c))
unfolding banks_by
in_banks w c n b h e = in_filter (λ b. eqb (w b) c) (upto n) b (in_upto n b h) (eq→eqb (w b) c e)

-- bank b gets wave c, and is the next of it
module _ (cells : List ℕ) (n c low b : ℕ) (long : n ≤ length cells) (l : low ≤ b) (h : b < n)
    (none : (x : ℕ) → low ≤ x → x < n → get_or cells x 0 ≡ c → ⊥) where
  abbrev new : ℕ → Bool
  new x = eqb (get_or (set cells b c) x 0) c

  abbrev old : ℕ → Bool
  old x = eqb (get_or cells x 0) c

  same : (x : ℕ) → T (memb x (upto b)) → new x ≡ old x
  same x m =
      let u : x < b = upto_below b x m in
      let other : x ≡ b → ⊥ = λ e. omega arith in
      ap (λ (k : ℕ). eqb k c) (get_or-set_other cells b x c 0 other)

  banks_suc : banks_by (wave_in (set cells b c)) (suc b) c ≡ banks_by (wave_in cells) b c ++ (b ∷ [])
  unfolding upto banks_by
  banks_suc =
      filter_kept new (upto b) b (eq→eqb (get_or (set cells b c) b 0) c (get_or-set_same cells b c 0 (omega arith)))
      ∙ ap (λ (xs : List ℕ). xs ++ (b ∷ [])) (filter_cong new old (upto b) same)

  banks_next : banks_by (wave_in (set cells b c)) (b + 1) c ≡ banks_by (wave_in cells) low c ++ (b ∷ [])
  banks_next =
      ap (λ (k : ℕ). banks_by (wave_in (set cells b c)) k c) (add-one b) ∙ banks_suc
      ∙ ap (λ (xs : List ℕ). xs ++ (b ∷ [])) (banks_stay (wave_in cells) c low b l (λ x i j. none x i (omega arith)))

-- an ascending list: what stands in front is smaller
across : (xs : List ℕ) (y : ℕ) (ys : List ℕ) (x : ℕ) → Sorted ltb (xs ++ (y ∷ ys)) → T (memb x xs) → x < y
across [] y ys x s m = absurd (in_none x m)
across (z ∷ xs) y ys x s m =
    elim (in_cons x z xs m) [
      | inl e ↦ rw e (ltb→lt z y (s.0 y (in_append_r y xs (y ∷ ys) (in_head y y ys refl))))
      | inr t ↦ across xs y ys x s.1 t
    ]

-- a number is a bank that fits, or none does
pub no_bank : (s cells : List ℕ) (n low at : ℕ) → NoNumber s at → Enough cells n → NoBank s cells n low at
no_bank s cells n low at none en b rest f ends e = none b rest (omega (arith, f.bank, en.most)) ends e

module _ {s cells : List ℕ} {n low at v next : ℕ} (number : NumberAt s at v next) where
  pub other_bank : (Fits cells n low v → ⊥) → NoBank s cells n low at
  other_bank no-fit b rest f ends e =
      let same = decimal_same b v rest (drop next s) ends number.ends (sym e ∙ number.text) in
      no-fit (subst (λ (x : ℕ). Fits cells n low x) same.0 f)

  pub takes : {c : ℕ} → Fits cells n low v → Takes s cells n c low at next (v + 1) (set cells v c)
  takes f = record {
    bank = v;
    above = refl;
    fits = f;
    text = number.text;
    ends = number.ends;
    set = refl;
    after = omega (arith, number.after);
    inside = number.inside;
  }

-- the letter
module _ {s cells : List ℕ} {n from : ℕ} (c : ℕ) where
  pub line_start : ByteAt s from (get_or letters c 0) → ((b : ℕ) → b < n → get_or cells b 0 ≡ c → ⊥) → OnLine s cells cells n c from 0 (from + 1)
  line_start b none = record {
    text = byte_then b ∙ unfold joined in ap (λ (bs : List ℕ). (get_or letters c 0 ∷ texts bs) ++ drop (from + 1) s) (sym (banks_none (wave_in cells) c));
    ends = λ l. absurd (omega arith);
    banks = omega arith;
    last = λ b e. absurd (omega arith);
    above = λ b l h. none b h;
    grown = λ b h. inl refl;
    inside = omega (arith, b.inside);
  }

  pub no_letter : (ByteAt s from (get_or letters c 0) → ⊥) → NoLine s cells n c from
  no_letter no_byte bs rest good e = unfold line_text in no_byte (then_byte e)

-- a line in the midst
module _ {s cells₀ cells : List ℕ} {n c from low next : ℕ} (line : OnLine s cells₀ cells n c from low next) where
  abbrev cur : List ℕ
  cur = banks_by (wave_in cells) low c

  cur_ends : 1 ≤ length cur → NoDigit (drop next s)
  cur_ends l =
      elim (lt_or_ge low 1) [
        | inl z ↦
            let e : low ≡ 0 = omega arith in
            absurd (omega (arith, ap (λ (k : ℕ). length (banks_by (wave_in cells) k c)) e, ap length (banks_none (wave_in cells) c)))
        | inr g ↦ line.ends g
      ]

  -- any line that stands there goes on after the banks so far
  goes : (bs rest : List ℕ) → drop from s ≡ line_text (line_with_banks c bs) ++ rest → First cur bs (drop next s) rest
  unfolding line_text
  goes bs rest e =
      so_far cur bs (drop next s) rest cur_ends
      (cons_tail (sym line.text ∙ e) ∙ append_assoc (texts bs) (10 ∷ []) rest)

  -- a bank that fits such a line fits here
  fits_next : (bs more : List ℕ) (b : ℕ) → Banks cells₀ n bs → bs ≡ cur ++ (b ∷ more) → Fits cells n low b
  fits_next bs more b good e =
      let in-bs : T (memb b bs) = subst (λ (l : List ℕ). T (memb b l)) (sym e) (in_append_r b cur (b ∷ more) (in_head b b more refl)) in
      let f = good.fit b in-bs in
      let high : low ≤ b = high_by low line.last refl in
      record {
        high = high;
        bank = f.bank;
        free = elim (line.grown b f.bank) [ inl same ↦ same ∙ f.free | inr two ↦ absurd (line.above b high f.bank two.1) ];
      }
    where
      high_by : (k : ℕ) → ((x : ℕ) → k ≡ x + 1 → get_or cells x 0 ≡ c) → k ≡ low → k ≤ b
      high_by zero last same = omega arith
      high_by (suc k) last same =
          let held = last k (omega arith) in
          let inside = in_banks (wave_in cells) c low k (omega arith) held in
          across cur b more k (subst (Sorted ltb) e good.ascend) inside

  -- a space, and no bank that fits
  next_by : ByteAt s next 32 → (bs rest more : List ℕ) → bs ≡ cur ++ more → drop next s ≡ texts more ++ (10 ∷ rest)
      → (b : ℕ) × (more' : List ℕ) × (bs ≡ cur ++ (b ∷ more')) × (drop (next + 1) s ≡ decimal b ++ (texts more' ++ (10 ∷ rest)))
  next_by space bs rest [] e x = absurd (unfold joined in omega (arith, cons_head (sym (byte_then space) ∙ x)))
  next_by space bs rest (b ∷ more) e x = (b, more, e, cons_tail (sym (byte_then space) ∙ x ∙ banks_then b more (10 ∷ rest)))

  pub no_next : ByteAt s next 32 → NoBank s cells n low (next + 1) → NoLine s cells₀ n c from
  no_next space none bs rest good e =
      let f = goes bs rest e in
      let q = next_by space bs rest f.more f.banks f.rest in
      none q.0 (texts q.1 ++ (10 ∷ rest)) (fits_next bs q.1 q.0 good q.2) (texts_ends q.1 (10 ∷ rest) (feed_ends rest)) q.3

  -- neither a space, nor a line feed after some bank
  module _ (no_space : ByteAt s next 32 → ⊥) (no_feed : 1 ≤ low → ByteAt s next 10 → ⊥) where
    end_by : (bs rest more : List ℕ) → 1 ≤ length bs → bs ≡ cur ++ more → drop next s ≡ texts more ++ (10 ∷ rest) → ⊥
    end_by bs rest (b ∷ more) some e x = no_space (then_byte (x ∙ banks_then b more (10 ∷ rest)))
    end_by bs rest [] some e x =
        elim (lt_or_ge low 1) [
          | inl z ↦
              let none : low ≡ 0 = omega arith in
              let size = ap length (ap (λ (k : ℕ). banks_by (wave_in cells) k c) none ∙ banks_none (wave_in cells) c) in
              omega (arith, ap length e, length-append cur [])
          | inr g ↦ no_feed g (unfold joined in then_byte x)
        ]

    pub no_end : NoLine s cells₀ n c from
    no_end bs rest good e = let f = goes bs rest e in end_by bs rest f.more good.some f.banks f.rest

  -- the line feed
  pub line_done : 1 ≤ low → ByteAt s next 10 → LineAt s cells₀ cells n c from (next + 1)
  unfolding line_text
  line_done some feed = record {
    text =
        line.text ∙ ap (λ (l : List ℕ). get_or letters c 0 ∷ (texts cur ++ l)) (byte_then feed)
        ∙ ap (◌∷◌ (get_or letters c 0)) (sym (append_assoc (texts cur) (10 ∷ []) (drop (next + 1) s)))
        ∙ ap (λ (bs : List ℕ). line_text (line_with_banks c bs) ++ drop (next + 1) s) (sym (banks_stay (wave_in cells) c low n line.banks line.above));
    inside = omega (arith, feed.inside);
    held = (low - 1, omega (arith, line.banks), line.last (low - 1) (omega arith));
    grown = line.grown;
  }

  -- a space, and a bank
  module _ (en : Enough cells n) (space : ByteAt s next 32) {next' low' : ℕ} {cells' : List ℕ} (t : Takes s cells n c low (next + 1) next' low' cells') where
    abbrev b : ℕ
    b = t.bank

    next_text : drop from s ≡ (get_or letters c 0 ∷ texts (banks_by (wave_in (set cells t.bank c)) (t.bank + 1) c)) ++ drop next' s
    unfolding bank_text
    next_text =
        let L : ℕ = get_or letters c 0 in
        let rest : List ℕ = drop next' s in
        line.text ∙ ap (λ (l : List ℕ). L ∷ (texts cur ++ l)) (byte_then space ∙ ap (◌∷◌ 32) t.text)
        ∙ ap (◌∷◌ L) (sym (append_assoc (texts cur) (bank_text b) rest))
        ∙ ap (λ (bs : List ℕ). L ∷ (bs ++ rest)) (sym (texts_snoc cur b))
        ∙ ap (λ (bs : List ℕ). L ∷ (texts bs ++ rest))
        (sym (banks_next cells n c low b en.long t.fits.high t.fits.bank line.above))

    set_cell : (x : ℕ) → (x ≡ t.bank → ⊥) → get_or (set cells t.bank c) x 0 ≡ get_or cells x 0
    set_cell x n = get_or-set_other cells b x c 0 n

    own_cell : get_or (set cells t.bank c) t.bank 0 ≡ c
    own_cell = get_or-set_same cells b c 0 (omega (arith, t.fits.bank, en.long))

    own_free : get_or cells₀ t.bank 0 ≡ 24
    own_free = elim (line.grown b t.fits.bank) [ inl same ↦ sym same ∙ t.fits.free | inr two ↦ two.0 ]

    next_grown : Grown cells₀ (set cells t.bank c) n c
    next_grown x h =
        elim (lt_or_ge x b) [
          | inl l ↦ kept x h (λ e. omega arith)
          | inr g ↦ elim (lt_or_ge b x) [ inl l ↦ kept x h (λ e. omega arith) | inr k ↦ own x (omega arith) ]
        ]
      where
        kept : (x : ℕ) → x < n → (x ≡ b → ⊥) → (get_or (set cells b c) x 0 ≡ get_or cells₀ x 0) ⊎ ((get_or cells₀ x 0 ≡ 24) × (get_or (set cells b c) x 0 ≡ c))
        kept x h other =
            elim (line.grown x h) [ inl same ↦ inl (set_cell x other ∙ same) | inr two ↦ inr (two.0, set_cell x other ∙ two.1) ]

        own : (x : ℕ) → x ≡ b → (get_or (set cells b c) x 0 ≡ get_or cells₀ x 0) ⊎ ((get_or cells₀ x 0 ≡ 24) × (get_or (set cells b c) x 0 ≡ c))
        own x e = rw e (inr (own_free, own_cell))

    taken : OnLine s cells₀ (set cells t.bank c) n c from (t.bank + 1) next'
    taken = record {
      text = next_text;
      ends = λ l. t.ends;
      banks = omega (arith, t.fits.bank);
      last = λ x e. let same : x ≡ b = omega arith in rw same own_cell;
      above = λ x l h e. line.above x (omega (arith, t.fits.high)) h (sym (set_cell x (λ q. omega arith)) ∙ e);
      grown = next_grown;
      inside = t.inside;
    }

    pub line_next : OnLine s cells₀ cells' n c from low' next'
    line_next = rw (t.above, t.set) taken

-- by where the banks of a line end
module _ {s cells₀ cells : List ℕ} {n c from low next : ℕ} (b : Banked s cells₀ cells n c from low next) where
  pub line_none : (1 ≤ low → ByteAt s next 10 → ⊥) → NoLine s cells₀ n c from
  line_none = no_end b.line b.over

  pub line_whole : 1 ≤ low → ByteAt s next 10 → LineAt s cells₀ cells n c from (next + 1)
  line_whole = line_done b.line
