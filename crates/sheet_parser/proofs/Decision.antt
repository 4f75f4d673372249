-- The decision: it accepts exactly the bytes that are a sheet, and the waves that it reads off one are its waves.
use mathlib.Core.Bool.{Bool, true, false, ◌&&◌}
use mathlib.Core.List.{List, [], ◌∷◌, ◌++◌, map, map-append, append_assoc, append-nil}
use mathlib.Core.Logic.{inl, inr}
use mathlib.Core.Path.{◌≡◌, refl, sym, ap, ap₂, ◌∙◌}
use Prim.Native.Nat.{ℕ, zero, suc, ◌+◌, ◌-◌, ◌<◌}
use native.Mathlib.Nat.{add-zero, add-suc}
use native.Mathlib.Omega.{arith}
use lib.Dec.{T, eqb, leb, ltb, eqb→eq}
use lib.ListN.{length, length-map}
use borrow.Author.Tests.{leb-true, le-leb, ltb-true, lt-ltb, eqb-true, eq-eqb}
use Rattle.rule.specs.Lists.{upto, memb, some}
use Rattle.rule.proofs.Booleans.{both_true, is_true, is_false, t_along, eq→eqb}
use Rattle.rule.proofs.Lists.{in_head, in_tail, in_cons, in_none, in_upto, upto_below, length_upto, filter_cong, some_in, in_some}
use Rattle.rule.specs.Wave.{banks_by}
use Rattle.wave_lines.specs.Lines.{Line, line_by, lines_by}
use Rattle.wave_lines.proofs.Letters.{letter_high}
use Rattle.sheet_writer.specs.Sheet.{head_text, last_text, sheet_by}
use Rattle.sheet_writer.specs.Reading.{waves_read}
use Rattle.sheet_writer.proofs.ReadBack.{Lettered, waves_of}
use Rattle.sheet_parser.specs.Sheets.{InWaves, SheetOf, line_with, wave_read, waves_count, every, in_waves, same_bytes, is_sheet}
use Rattle.sheet_parser.specs.inner.Lines.{NoSheet}
use Rattle.sheet_parser.proofs.Tests.{not_both}
use Rattle.sheet_parser.proofs.Lines.{in_banks}
use Rattle.sheet_parser.proofs.Sheets.{banks_in-law, sheet_text, lines_cong}

-- the tests
pub every_in : (p : ℕ → Bool) (xs : List ℕ) → every p xs ≡ true → (x : ℕ) → T (memb x xs) → p x ≡ true
unfolding every
every_in p [] e x m = absurd (in_none x m)
every_in p (y ∷ xs) e x m =
    let r = both_true (p y) (every p xs) e in
    elim (in_cons x y xs m) [ inl same ↦ rw same r.0 | inr t ↦ every_in p xs r.1 x t ]

pub in_every : (p : ℕ → Bool) (xs : List ℕ) → ((x : ℕ) → T (memb x xs) → p x ≡ true) → every p xs ≡ true
unfolding every
in_every p [] h = refl
in_every p (y ∷ xs) h = rw (h y (in_head y y xs refl)) (in_every p xs (λ x m. h x (in_tail x y xs m)))

module _ (n k : ℕ) (w : ℕ → ℕ) where
  pub in_waves_yes : InWaves n k w → in_waves n k w ≡ true
  unfolding in_waves
  in_waves_yes good =
      let held : every (λ c. some (λ b. eqb (w b) c) (upto n)) (upto k) ≡ true =
      in_every (λ c. some (λ b. eqb (w b) c) (upto n)) (upto k) (λ c m.
      let r = good.none_empty c (upto_below k c m) in
      is_true (some (λ b. eqb (w b) c) (upto n)) (some_in (λ b. eqb (w b) c) (upto n) r.0 (in_upto n r.0 r.1) (eq→eqb (w r.0) c r.2))) in
      rw (le-leb k 24 good.few, in_every (λ b. ltb (w b) k) (upto n) (λ b m. lt-ltb (w b) k (good.below b (upto_below n b m)))) held

  pub waves_in-law : in_waves n k w ≡ true → InWaves n k w
  unfolding in_waves
  waves_in-law e =
      let p = both_true (leb k 24) (every (λ b. ltb (w b) k) (upto n) && every (λ c. some (λ b. eqb (w b) c) (upto n)) (upto k)) e in
      let q = both_true (every (λ b. ltb (w b) k) (upto n)) (every (λ c. some (λ b. eqb (w b) c) (upto n)) (upto k)) p.1 in
      record {
        few = leb-true k 24 p.0;
        below = λ b h. ltb-true (w b) k (every_in (λ b. ltb (w b) k) (upto n) q.0 b (in_upto n b h));
        none_empty = λ c h.
            let t = every_in (λ c. some (λ b. eqb (w b) c) (upto n)) (upto k) q.1 c (in_upto k c h) in
            let r = in_some (λ b. eqb (w b) c) (upto n) (t_along (sym t) tt) in
            (r.0, upto_below n r.0 r.1, eqb→eq (w r.0) c r.2);
      }

pub same_yes : (xs : List ℕ) → same_bytes xs xs ≡ true
unfolding same_bytes
same_yes [] = refl
same_yes (x ∷ xs) = rw (eq-eqb x x refl) (same_yes xs)

pub same_is : (xs ys : List ℕ) → same_bytes xs ys ≡ true → xs ≡ ys
unfolding same_bytes
same_is [] [] e = refl
same_is [] (y ∷ ys) e = absurd (not_both e refl)
same_is (x ∷ xs) [] e = absurd (not_both e refl)
same_is (x ∷ xs) (y ∷ ys) e = let r = both_true (eqb x y) (same_bytes xs ys) e in ap₂ ◌∷◌ (eqb-true x y r.0) (same_is xs ys r.1)

-- the line that names a bank
module _ (b : ℕ) (f : ℕ → Line) where
  skip : (cs : List ℕ) (ls : List Line) → ((c : ℕ) → T (memb c cs) → T (memb b (f c).banks) → ⊥)
      → line_with b (map f cs ++ ls) ≡ length cs + line_with b ls
  unfolding line_with
  skip [] ls no_line = omega arith
  skip (c ∷ cs) ls no_line =
      rw (is_false (memb b (f c).banks) (no_line c (in_head c c cs refl)))
      (omega (arith, skip cs ls (λ x m. no_line x (in_tail x c cs m))))

  here : (c : ℕ) (ls : List Line) → T (memb b (f c).banks) → line_with b (f c ∷ ls) ≡ 0
  unfolding line_with
  here c ls m = rw (is_true (memb b (f c).banks) m)

upto_next : (k : ℕ) → upto (suc k) ≡ upto k ++ (k ∷ [])
unfolding upto
upto_next k = refl

upto_split : (c d : ℕ) → (rest : List ℕ) × (upto (c + d) ≡ upto c ++ rest)
upto_split c zero = ([], ap upto (add-zero c) ∙ sym (append-nil (upto c)))
upto_split c (suc d) =
    let r = upto_split c d in
    (r.0 ++ ((c + d) ∷ []), ap upto (add-suc c d) ∙ upto_next (c + d) ∙ ap (λ (l : List ℕ). l ++ ((c + d) ∷ [])) r.1 ∙ append_assoc (upto c) r.0 ((c + d) ∷ []))

-- the numbers below n are those below c, c, and others
pub upto_at : (c n : ℕ) → c < n → (rest : List ℕ) × (upto n ≡ upto c ++ (c ∷ rest))
upto_at c n h =
    let r = upto_split (suc c) (n - suc c) in
    let e : n ≡ suc c + (n - suc c) = omega arith in
    (r.0, ap upto e ∙ r.1 ∙ ap (λ (l : List ℕ). l ++ r.0) (upto_next c) ∙ append_assoc (upto c) (c ∷ []) r.0)

-- of the lines of any waves, it is that of its wave
pub line_of : (w : ℕ → ℕ) (n k b : ℕ) → b < n → w b < k → line_with b (lines_by w n k) ≡ w b
line_of w n k b h l =
    let c : ℕ = w b in
    let r = upto_at c k l in
    let f : ℕ → Line = line_by w n in
    ap (λ (cs : List ℕ). line_with b (map f cs)) r.1
    ∙ ap (line_with b) (map-append f (upto c) (c ∷ r.0))
    ∙ skip b f (upto c) (map f (c ∷ r.0)) (λ i m t. omega (arith, upto_below c i m, (banks_in-law w n i b t).1))
    ∙ ap (λ (i : ℕ). length (upto c) + i) (here b f c (map f r.0) (in_banks w c n b h refl))
    ∙ omega (arith, length_upto c)

-- the lines have letters
pub lettered : (w : ℕ → ℕ) (n : ℕ) (cs : List ℕ) → ((c : ℕ) → T (memb c cs) → c < 24) → Lettered (map (line_by w n) cs)
lettered w n [] h = tt
lettered w n (c ∷ cs) h = (letter_high c (h c (in_head c c cs refl)), lettered w n cs (λ x m. h x (in_tail x c cs m)))

-- so the waves read off a sheet are its waves
module _ {n m : ℕ} {bytes : List ℕ} {k : ℕ} {w : ℕ → ℕ} (sheet : SheetOf n m bytes k w) where
  pub read_lines-law : waves_read bytes ≡ lines_by w n k
  read_lines-law =
      ap waves_read sheet.text
      ∙ waves_of (lines_by w n k) (lettered w n (upto k) (λ c t. omega (arith, upto_below k c t, sheet.waves.few))) n m

  pub read_count : waves_count bytes ≡ k
  read_count = ap length read_lines-law ∙ length-map (upto k) (line_by w n) ∙ length_upto k

  pub read_wave : (b : ℕ) → b < n → wave_read bytes b ≡ w b
  read_wave b h = ap (line_with b) read_lines-law ∙ line_of w n k b h (sheet.waves.below b h)

  read_waves : InWaves n (waves_count bytes) (wave_read bytes)
  read_waves = record {
    few = omega (arith, read_count, sheet.waves.few);
    below = λ b h. omega (arith, read_count, read_wave b h, sheet.waves.below b h);
    none_empty = λ c h.
        let r = sheet.waves.none_empty c (omega (arith, read_count)) in
        (r.0, r.1, read_wave r.0 r.1 ∙ r.2);
  }

  same_banks-law : (c : ℕ) → banks_by w n c ≡ banks_by (wave_read bytes) n c
  unfolding banks_by
  same_banks-law c =
      filter_cong (λ b. eqb (w b) c) (λ b. eqb (wave_read bytes b) c) (upto n) (λ b t. ap (λ (x : ℕ). eqb x c) (sym (read_wave b (upto_below n b t))))

  read_text : bytes ≡ sheet_by (wave_read bytes) n (waves_count bytes) m
  read_text =
      sheet.text ∙ sheet_text w n k m
      ∙ ap (λ (l : List ℕ). head_text k ++ (l ++ last_text n m)) (lines_cong w (wave_read bytes) n k (λ c h. same_banks-law c))
      ∙ sym (sheet_text (wave_read bytes) n k m)
      ∙ ap (λ (j : ℕ). sheet_by (wave_read bytes) n j m) (sym read_count)

  -- it is accepted
  pub accepts : is_sheet n m bytes ≡ true
  unfolding is_sheet
  accepts =
      rw (in_waves_yes n (waves_count bytes) (wave_read bytes) read_waves)
      (ap (same_bytes bytes) (sym read_text) ∙ same_yes bytes)

-- and what is accepted is that of the waves read
pub accepted : (n m : ℕ) (bytes : List ℕ) → is_sheet n m bytes ≡ true → SheetOf n m bytes (waves_count bytes) (wave_read bytes)
unfolding is_sheet
accepted n m bytes e =
    let k = waves_count bytes in
    let w = wave_read bytes in
    let r = both_true (in_waves n k w) (same_bytes bytes (sheet_by w n k m)) e in
    record { waves = waves_in-law n k w r.0; text = same_is bytes (sheet_by w n k m) r.1 }

pub refused : (n m : ℕ) (bytes : List ℕ) → NoSheet bytes n m → is_sheet n m bytes ≡ false
refused n m bytes none = by (is_sheet n m bytes) refl
  where
    by : (r : Bool) → is_sheet n m bytes ≡ r → is_sheet n m bytes ≡ false
    by true e = absurd (none (waves_count bytes) (wave_read bytes) (accepted n m bytes e))
    by false e = e
