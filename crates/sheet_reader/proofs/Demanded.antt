-- The demands and the decision: bytes are a sheet exactly if the waves read off them meet each demand of 26.
use mathlib.Core.Bool.{Bool, true, false, cond}
use mathlib.Core.List.{List, [], ◌∷◌, ◌++◌, map, map-map}
use mathlib.Core.Logic.{inl, inr}
use mathlib.Core.Path.{◌≡◌, refl, sym, ap, ap₂, subst, ◌∙◌}
use Prim.Native.Nat.{ℕ, zero, suc, ◌+◌, ◌≤◌, ◌<◌}
use native.Mathlib.Omega.{arith}
use lib.Dec.{T, eqb, ltb, eqb→eq, ltb→lt, lt→ltb}
use lib.ListN.{length, get_or, length-append, length-map}
use lib.Seq.{ext_get_or}
use borrow.Author.Tests.{lt-ltb}
use Rattle.rule.specs.Lists.{upto, filter, memb, Sorted, Strict}
use Rattle.rule.proofs.Booleans.{passes?, test_ext, is_true, is_false, eq→eqb, lt_or_ge}
use Rattle.rule.proofs.Lists.{in_head, in_none, upto_below, length_upto, filter_append, filter_in, in_filter}
use Rattle.rule.proofs.Sorting.{sorted_unique}
use Rattle.rule.specs.Wave.{banks_by}
use Rattle.memory.proofs.Fronts.{get_d_upto}
use Rattle.text.specs.Text.{joined}
use Rattle.wave_lines.specs.Lines.{Line, line_by, lines_by, times}
use Rattle.wave_lines.specs.Foot.{Totals, totals_of}
use Rattle.wave_lines.proofs.Shown.{once_by}
use Rattle.sheet_writer.specs.Sheet.{sheet_of}
use Rattle.sheet_writer.specs.Reading.{waves_read, banks_read, totals_read}
use Rattle.sheet_writer.proofs.ReadBack.{Lettered, totals_of-law}
use Rattle.sheet_parser.specs.Sheets.{SheetOf, line_with, wave_read, waves_count}
use Rattle.sheet_parser.proofs.Lines.{in_banks}
use Rattle.sheet_parser.proofs.Sheets.{banks_in-law, banks_ascend}
use Rattle.sheet_parser.proofs.Decision.{read_lines-law, lettered}
use Rattle.sheet_reader.specs.Demands.{line_on, Proper}

abbrev no_line : Line
no_line = record { letter = 0; banks = [] }

-- the lines of any waves
line_by-law : (w : ℕ → ℕ) (n k c : ℕ) → c < k → get_or (lines_by w n k) c no_line ≡ line_by w n c
line_by-law w n k c h = at (upto k) c (omega (arith, length_upto k)) ∙ ap (line_by w n) (get_d_upto k c h)
  where
    at : (cs : List ℕ) (i : ℕ) → i < length cs → get_or (map (line_by w n) cs) i no_line ≡ line_by w n (get_or cs i 0)
    at [] i l = absurd (omega arith)
    at (c ∷ cs) zero l = refl
    at (c ∷ cs) (suc i) l = at cs i (omega arith)

-- of a sheet each demand holds
module _ {n m : ℕ} {bytes : List ℕ} {k : ℕ} {w : ℕ → ℕ} (sheet : SheetOf n m bytes k w) where
  count_is : waves_count bytes ≡ k
  count_is = ap length (read_lines-law sheet) ∙ length-map (upto k) (line_by w n) ∙ length_upto k

  pub line_is : (c : ℕ) → c < waves_count bytes → line_on bytes c ≡ line_by w n c
  line_is c h = ap (λ (ls : List Line). get_or ls c no_line) (read_lines-law sheet) ∙ line_by-law w n k c (omega (arith, count_is))

  pub proper : Proper n m bytes
  unfolding banks_read
  proper = record {
    form = record {
      foot = totals_of n m;
      text = sheet.text ∙ ap (λ (ls : List Line). sheet_of ls n m) (sym (read_lines-law sheet));
      few = omega (arith, count_is, sheet.waves.few);
      lettered = λ c h. ap (λ (l : Line). l.letter) (line_is c h);
      ascend = λ c h. subst (λ (l : Line). Sorted ltb l.banks) (sym (line_is c h)) (banks_ascend w n c);
    };
    once = λ b.
        ap (λ (ls : List Line). times b (joined (map (λ (l : Line). l.banks) ls))) (read_lines-law sheet)
        ∙ ap (λ (bs : List (List ℕ)). times b (joined bs)) (map-map (λ (l : Line). l.banks) (line_by w n) (upto k))
        ∙ once_by w n k sheet.waves.below b;
    none_empty = λ c h.
        let r = sheet.waves.none_empty c (omega (arith, count_is)) in
        (r.0, subst (λ (l : Line). T (memb r.0 l.banks)) (sym (line_is c h)) (in_banks w c n r.0 r.1 r.2));
    foot =
        ap totals_read sheet.text
        ∙ totals_of-law (lines_by w n k) (lettered w n (upto k) (λ c t. omega (arith, upto_below k c t, sheet.waves.few))) n m;
  }

-- how often a bank is named
abbrev all : List Line → List ℕ
all ls = joined (map (λ (l : Line). l.banks) ls)

times_append : (b : ℕ) (xs ys : List ℕ) → times b (xs ++ ys) ≡ times b xs + times b ys
unfolding times
times_append b xs ys = ap length (filter_append (eqb b) xs ys) ∙ length-append (filter (eqb b) xs) (filter (eqb b) ys)

times_in : (b : ℕ) (xs : List ℕ) → T (memb b xs) → 1 ≤ times b xs
unfolding times
times_in b xs m = some (filter (eqb b) xs) (in_filter (eqb b) xs b m (eq→eqb b b refl))
  where
    some : (ys : List ℕ) → T (memb b ys) → 1 ≤ length ys
    some [] t = absurd (in_none b t)
    some (y ∷ ys) t = omega arith

in_times : (b : ℕ) (xs : List ℕ) → 1 ≤ times b xs → T (memb b xs)
unfolding times
in_times b xs h = by (filter (eqb b) xs) refl h
  where
    by : (ys : List ℕ) → filter (eqb b) xs ≡ ys → 1 ≤ length ys → T (memb b xs)
    by [] e h = absurd (omega arith)
    by (y ∷ ys) e h =
        let r = filter_in (eqb b) xs y (subst (λ (l : List ℕ). T (memb y l)) (sym e) (in_head y y ys refl)) in
        subst (λ (x : ℕ). T (memb x xs)) (sym (eqb→eq b y r.1)) r.0

all_cons : (b : ℕ) (l : Line) (ls : List Line) → times b (all (l ∷ ls)) ≡ times b l.banks + times b (all ls)
unfolding joined
all_cons b l ls = times_append b l.banks (all ls)

all_none : (b : ℕ) → times b (all []) ≡ 0
unfolding times joined filter
all_none b = refl

module _ (b : ℕ) where
  at_least : (ls : List Line) (c : ℕ) → c < length ls → T (memb b (get_or ls c no_line).banks) → 1 ≤ times b (all ls)
  at_least [] c h m = absurd (omega arith)
  at_least (l ∷ ls) zero h m = omega (arith, all_cons b l ls, times_in b l.banks m)
  at_least (l ∷ ls) (suc c) h m = omega (arith, all_cons b l ls, at_least ls c (omega arith) m)

  -- named once, it stands on the line that line_with gives
  only_line : (ls : List Line) (c : ℕ) → times b (all ls) ≤ 1 → c < length ls → T (memb b (get_or ls c no_line).banks) → line_with b ls ≡ c
  unfolding line_with
  only_line [] c once h m = absurd (omega arith)
  only_line (l ∷ ls) zero once h m = rw (is_true (memb b l.banks) m)
  only_line (l ∷ ls) (suc c) once h m =
      let other : T (memb b l.banks) → ⊥ = λ t. omega (arith, all_cons b l ls, times_in b l.banks t, at_least ls c (omega arith) m) in
      rw (is_false (memb b l.banks) other) (ap suc (only_line ls c (omega (arith, all_cons b l ls)) (omega arith) m))

  on_line : (ls : List Line) → 1 ≤ times b (all ls) → (line_with b ls < length ls) × T (memb b (get_or ls (line_with b ls) no_line).banks)
  unfolding line_with
  on_line [] h = absurd (omega (arith, all_none b))
  on_line (l ∷ ls) h =
      elim (passes? (memb b l.banks)) [
        | inl t ↦ rw (is_true (memb b l.banks) t) (omega arith, t)
        | inr f ↦
            let zero-times : times b l.banks ≡ 0 = by (times b l.banks) (λ q. f (in_times b l.banks q)) in
            let r = on_line ls (omega (arith, all_cons b l ls)) in
            rw (is_false (memb b l.banks) f) (omega (arith, r.0), r.1)
      ]
    where
      by : (k : ℕ) → (1 ≤ k → ⊥) → k ≡ 0
      by zero q = refl
      by (suc k) q = absurd (q (omega arith))

ltb_strict : Strict ltb
ltb_strict = record {
  irrefl = λ x t. omega (arith, ltb→lt x x t);
  trans = λ x y z s t. lt→ltb x z (omega (arith, ltb→lt x y s, ltb→lt y z t));
  total = λ x y n.
      elim (lt_or_ge x y) [
        | inl l ↦ inl (lt→ltb x y l)
        | inr g ↦ elim (lt_or_ge y x) [ inl l ↦ inr (lt→ltb y x l) | inr h ↦ absurd (n (omega arith)) ]
      ];
}

-- where each demand holds, they are the sheet of the waves read
module _ {n m : ℕ} {bytes : List ℕ} (good : Proper n m bytes) where
  abbrev ls : List Line
  ls = waves_read bytes

  times_are : (b : ℕ) → times b (all (waves_read bytes)) ≡ cond (ltb b n) 1 0
  unfolding banks_read
  times_are b = good.once b

  once : (b : ℕ) → times b (all (waves_read bytes)) ≤ 1
  once b = by (ltb b n) (times_are b)
    where
      by : (t : Bool) → times b (all ls) ≡ cond t 1 0 → times b (all ls) ≤ 1
      by true e = omega arith
      by false e = omega arith

  named_below : (b : ℕ) → 1 ≤ times b (all (waves_read bytes)) → b < n
  named_below b h = by (ltb b n) refl
    where
      by : (t : Bool) → ltb b n ≡ t → b < n
      by true e = ltb→lt b n (subst T (sym e) tt)
      by false e = absurd (omega (arith, times_are b ∙ ap (λ (t : Bool). cond t 1 0) e))

  below_named : (b : ℕ) → b < n → 1 ≤ times b (all (waves_read bytes))
  below_named b h = omega (arith, times_are b ∙ ap (λ (t : Bool). cond t 1 0) (lt-ltb b n h))

  same_banks-law : (c : ℕ) → c < waves_count bytes → (line_on bytes c).banks ≡ banks_by (wave_read bytes) n c
  same_banks-law c h =
      sorted_unique ltb ltb_strict (line_on bytes c).banks (banks_by (wave_read bytes) n c) (good.form.ascend c h) (banks_ascend (wave_read bytes) n c)
      (λ b. test_ext (memb b (line_on bytes c).banks) (memb b (banks_by (wave_read bytes) n c))
      (λ t. in_banks (wave_read bytes) c n b (named_below b (at_least b ls c h t)) (only_line b ls c (once b) h t))
      (λ t.
      let r = banks_in-law (wave_read bytes) n c b t in
      subst (λ (i : ℕ). T (memb b (line_on bytes i).banks)) r.1 (on_line b ls (below_named b r.0)).1))

  same_line : (c : ℕ) → c < waves_count bytes → line_on bytes c ≡ line_by (wave_read bytes) n c
  same_line c h = ap₂ (λ (x : ℕ) (bs : List ℕ). record { letter = x; banks = bs }) (good.form.lettered c h) (same_banks-law c h)

  lines_are : waves_read bytes ≡ lines_by (wave_read bytes) n (waves_count bytes)
  lines_are =
      let count : length (lines_by (wave_read bytes) n (waves_count bytes)) ≡ waves_count bytes =
      length-map (upto (waves_count bytes)) (line_by (wave_read bytes) n) ∙ length_upto (waves_count bytes) in
      ext_get_or no_line ls (lines_by (wave_read bytes) n (waves_count bytes)) (sym count)
      (λ c h. same_line c h ∙ sym (line_by-law (wave_read bytes) n (waves_count bytes) c h))

  letters_of : Lettered (waves_read bytes)
  letters_of = subst Lettered (sym lines_are) (lettered (wave_read bytes) n (upto (waves_count bytes)) (λ c t.
      omega (arith, upto_below (waves_count bytes) c t, good.form.few)))

  foot_is : good.form.foot ≡ totals_of n m
  foot_is =
      let f = good.form.foot in
      sym (totals_of-law ls letters_of f.banks f.clashes) ∙ ap totals_read (sym good.form.text) ∙ good.foot

  pub sheet_of-law : SheetOf n m bytes (waves_count bytes) (wave_read bytes)
  sheet_of-law = record {
    waves = record {
      few = good.form.few;
      below = λ b h. (on_line b ls (below_named b h)).0;
      none_empty = λ c h.
          let r = good.none_empty c h in
          (r.0, named_below r.0 (at_least r.0 ls c h r.1), only_line r.0 ls c (once r.0) h r.1);
    };
    text =
        good.form.text
        ∙ ap₂ (λ (ls : List Line) (f : Totals). sheet_of ls f.banks f.clashes) lines_are foot_is;
  }
