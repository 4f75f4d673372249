-- The pages read again: each line has its form, and gives its banks and its wave.
use mathlib.Core.Bool.{Bool, true, false, cond, not}
use mathlib.Core.List.{List, [], ◌∷◌, ◌++◌, map, flat_map, append_assoc}
use mathlib.Core.Logic.{◌⊎◌, inl, inr, ◌≢◌}
use mathlib.Core.Path.{◌≡◌, refl, sym, ap, ap₂, subst, ◌∙◌}
use Prim.Native.Nat.{ℕ, zero, suc, ◌+◌, ◌*◌, ◌-◌, ◌/◌, ◌%◌, ◌≤◌, ◌<◌}
use native.Mathlib.Omega.{arith}
use lib.Dec.{T, eqb}
use lib.ListN.{length, get_or, take, drop, replicate, length-append, replicate-append-replicate}
use lib.Seq.{take_at, drop_at, get_or_at}
use borrow.Author.Tests.{ne_eqb}
use Rattle.rule.specs.Lists.{filter, memb}
use Rattle.rule.proofs.Lists.{in_head, in_tail, in_cons, in_none, in_append, filter_cong, filter_true, filter_append}
use Rattle.text.specs.Text.{joined}
use Rattle.text.specs.Numbers.{value_from, decimal}
use Rattle.text.proofs.Digits.{digit_high}
use Rattle.text.proofs.Decimal.{some_digit, few_digits, decimal_digits, decimal_value}
use Rattle.text.proofs.Without.{Without}
use Rattle.wave_lines.specs.Lines.{Line}
use Rattle.wave_lines.specs.Foot.{foot_text, totals_of, totals_on}
use Rattle.wave_lines.proofs.Totals.{length_foot, foot_without, totals_padded}
use Rattle.poster_lines.specs.Poster.{pieces, sevens, right_aligned, padded, poster_line, marked, wave_lines, foot_line, filled}
use Rattle.poster_lines.specs.inner.Lines.{Small}
use Rattle.poster_lines.proofs.Each.{Each, each_append, each_replicate, each_map}
use Rattle.poster_lines.proofs.Columns.{length_aligned, length_columns, length_padded, length_rows, length_spaces}
use Rattle.poster_lines.proofs.Pieces.{Fits, each_fits, length_sevens, pieces_joined, sevens_joined}
use Rattle.poster_writer.specs.Reading.{lines_on, number_in, bank_in, banks_on, is_foot, above_foot, continued, grouped, Row}

-- a bank in its columns
number_some : (ds : List ℕ) → 1 ≤ length ds → number_in ds ≡ value_from 0 ds ∷ []
unfolding number_in
number_some [] h = absurd (omega arith)
number_some (d ∷ ds) h = refl

abbrev inked : ℕ → Bool
inked x = not (eqb x 32)

no_ink : (n : ℕ) → filter inked (replicate n 32) ≡ []
unfolding filter
no_ink zero = refl
no_ink (suc n) = no_ink n

digits_inked : (b : ℕ) → filter inked (decimal b) ≡ decimal b
digits_inked b =
    let ink : (x : ℕ) → T (memb x (decimal b)) → inked x ≡ true =
    λ x m. let h : 48 ≤ x = digit_high (decimal b) (decimal_digits b) x m in ap not (ne_eqb x 32 (λ e. omega arith)) in
    filter_cong inked (λ x. true) (decimal b) ink ∙ filter_true (decimal b)

bank_in-law : (b : ℕ) → bank_in (right_aligned b) ≡ b ∷ []
unfolding bank_in right_aligned
bank_in-law b =
    let spaces : List ℕ = replicate (5 - length (decimal b)) 32 in
    ap number_in (filter_append inked spaces (decimal b) ∙ ap₂ (λ (l r : List ℕ). l ++ r) (no_ink (5 - length (decimal b))) (digits_inked b))
    ∙ number_some (decimal b) (some_digit b)
    ∙ ap (λ (n : ℕ). n ∷ []) (decimal_value b)

-- columns without a bank
blank_columns : (count left : ℕ) → left ≡ 5 * count + 3 → joined (map bank_in (pieces count 5 (replicate left 32 ++ (10 ∷ [])))) ≡ []
unfolding pieces joined
blank_columns zero left e = refl
blank_columns (suc count) left e =
    let more : ℕ = 5 * count + 3 in
    let split : left ≡ 5 + more = omega arith in
    let rest : List ℕ = replicate more 32 ++ (10 ∷ []) in
    let text : replicate left 32 ++ (10 ∷ []) ≡ replicate 5 32 ++ rest =
    ap (λ (n : ℕ). replicate n 32 ++ (10 ∷ [])) split
    ∙ ap (λ (l : List ℕ). l ++ (10 ∷ [])) (sym (replicate-append-replicate 5 more 32))
    ∙ append_assoc (replicate 5 32) (replicate more 32) (10 ∷ []) in
    ap (λ (l : List ℕ). bank_in (take 5 l) ++ joined (map bank_in (pieces count 5 (drop 5 l)))) text ∙ blank ∙ blank_columns count more refl
  where
    blank : {l : List ℕ} → bank_in (replicate 5 32) ++ l ≡ l
    blank = unfold bank_in number_in filter in refl

-- columns with banks, and spaces after them
banks_in-law : (count left : ℕ) (bs : List ℕ) → Small bs → length bs ≤ count → left ≡ 5 * (count - length bs) + 3
    → joined (map bank_in (pieces count 5 (joined (map right_aligned bs) ++ (replicate left 32 ++ (10 ∷ []))))) ≡ bs
unfolding pieces joined
banks_in-law count left [] small few e = blank_columns count left (omega arith)
banks_in-law zero left (b ∷ bs) small few e = absurd (omega arith)
banks_in-law (suc count) left (b ∷ bs) small few e =
    let h : b < 1024 = small b (in_head b b bs refl) in
    let rest : List ℕ = joined (map right_aligned bs) ++ (replicate left 32 ++ (10 ∷ [])) in
    let text : (right_aligned b ++ joined (map right_aligned bs)) ++ (replicate left 32 ++ (10 ∷ [])) ≡ right_aligned b ++ rest =
    append_assoc (right_aligned b) (joined (map right_aligned bs)) (replicate left 32 ++ (10 ∷ [])) in
    ap (λ (l : List ℕ). bank_in (take 5 l) ++ joined (map bank_in (pieces count 5 (drop 5 l)))) text
    ∙ ap₂ (λ (x y : List ℕ). bank_in x ++ joined (map bank_in (pieces count 5 y)))
    (take_at (right_aligned b) rest 5 (length_aligned b h)) (drop_at (right_aligned b) rest 5 (length_aligned b h))
    ∙ ap₂ (λ (x y : List ℕ). x ++ y) (bank_in-law b) (banks_in-law count left bs (λ x m. small x (in_tail x b bs m)) (omega arith) (omega arith))

-- the banks on a line are those that were put on it
pub banks_on-law : (mark : ℕ) (bs : List ℕ) → Fits bs → banks_on (poster_line mark bs) ≡ bs
unfolding banks_on poster_line padded
banks_on-law mark bs fits =
    banks_in-law 7 (40 - length (mark ∷ 32 ∷ joined (map right_aligned bs))) bs fits.0 fits.1 (omega (arith, length_columns bs fits.0))

blank_on : banks_on (padded []) ≡ []
unfolding banks_on padded bank_in number_in pieces joined filter
blank_on = refl

mark_on : (mark : ℕ) (bs : List ℕ) → get_or (poster_line mark bs) 0 0 ≡ mark
unfolding poster_line padded
mark_on mark bs = refl

-- the lines of a wave: those that continue it, and all of them
continues : (ps rest : List (List ℕ)) → Each Fits ps → continued rest ≡ [] → continued (marked 32 ps ++ rest) ≡ joined ps
unfolding marked continued joined
continues [] rest fits none = none
continues (p ∷ ps) rest fits none = rw (mark_on 32 p) (ap₂ (λ (x y : List ℕ). x ++ y) (banks_on-law 32 p fits.0) (continues ps rest fits.1 none))

passed_over : (ps rest : List (List ℕ)) → grouped (marked 32 ps ++ rest) ≡ grouped rest
unfolding marked grouped
passed_over [] rest = refl
passed_over (p ∷ ps) rest = rw (mark_on 32 p) (passed_over ps rest)

module _ (letter : ℕ) (high : 65 ≤ letter) (rest : List (List ℕ)) (none : continued rest ≡ []) where
  no_space : eqb letter 32 ≡ false
  no_space = ne_eqb letter 32 (λ e. omega arith)

  first_stops : (ps : List (List ℕ)) → 1 ≤ length ps → continued (marked letter ps ++ rest) ≡ []
  unfolding marked continued
  first_stops [] some = absurd (omega arith)
  first_stops (p ∷ ps) some = rw (mark_on letter p, no_space)

  one_wave : (ps : List (List ℕ)) → Each Fits ps → 1 ≤ length ps → grouped (marked letter ps ++ rest) ≡ record { letter = letter; banks = joined ps } ∷ grouped rest
  unfolding marked grouped joined
  one_wave [] fits some = absurd (omega arith)
  one_wave (p ∷ ps) fits some =
      rw (mark_on letter p, no_space)
      (ap₂ (λ (bs : List ℕ) (ls : List Line). record { letter = letter; banks = bs } ∷ ls)
      (ap₂ (λ (x y : List ℕ). x ++ y) (banks_on-law letter p fits.0) (continues ps rest fits.1 none))
      (passed_over ps rest))

-- a sheet's line that the poster can show: a letter, and banks below 1,024, at least one
pub record Good (l : Line) : Type 0 where
  pub high : 65 ≤ l.letter
  pub small : Small l.banks
  pub some : 1 ≤ length l.banks

-- the lines of the waves: none continues what stood before them, and they are read as they were
pub none_continues : (ls : List Line) → Each Good ls → continued (flat_map wave_lines ls) ≡ []
unfolding flat_map wave_lines continued
none_continues [] good = refl
none_continues (l ∷ ls) good =
    first_stops l.letter good.0.high (flat_map wave_lines ls) (none_continues ls good.1) (sevens l.banks)
    (omega (arith, length_sevens l.banks, good.0.some))

pub waves_again : (ls : List Line) → Each Good ls → grouped (flat_map wave_lines ls) ≡ ls
unfolding flat_map wave_lines grouped
waves_again [] good = refl
waves_again (l ∷ ls) good =
    one_wave l.letter good.0.high (flat_map wave_lines ls) (none_continues ls good.1) (sevens l.banks) (each_fits l.banks good.0.small)
    (omega (arith, length_sevens l.banks, good.0.some))
    ∙ ap₂ (λ (bs : List ℕ) (rest : List Line). record { letter = l.letter; banks = bs } ∷ rest) (sevens_joined l.banks) (waves_again ls good.1)

-- the banks line by line are those of the waves, and before them those that continue none of these
pub banks_by_wave : (ls : List (List ℕ)) → joined (map banks_on ls) ≡ continued ls ++ joined (map (λ (l : Line). l.banks) (grouped ls))
unfolding joined continued grouped
banks_by_wave [] = refl
banks_by_wave (l ∷ ls) = ap (λ (bs : List ℕ). banks_on l ++ bs) (banks_by_wave ls) ∙ go (eqb (get_or l 0 0) 32)
  where
    go : (space : Bool)
        → banks_on l ++ (continued ls ++ joined (map (λ (l : Line). l.banks) (grouped ls)))
        ≡ cond space (banks_on l ++ continued ls) []
        ++ joined (map (λ (l : Line). l.banks) (cond space (grouped ls) (record { letter = get_or l 0 0; banks = banks_on l ++ continued ls } ∷ grouped ls)))
    go true = sym (append_assoc (banks_on l) (continued ls) (joined (map (λ (l : Line). l.banks) (grouped ls))))
    go false = sym (append_assoc (banks_on l) (continued ls) (joined (map (λ (l : Line). l.banks) (grouped ls))))

-- what stands in the columns: spaces and digits
in_spaces : (n y : ℕ) → T (memb y (replicate n 32)) → y ≡ 32
in_spaces zero y m = absurd (in_none y m)
in_spaces (suc n) y m = elim (in_cons y 32 (replicate n 32) m) [ inl e ↦ e | inr t ↦ in_spaces n y t ]

in_columns : (bs : List ℕ) (y : ℕ) → T (memb y (joined (map right_aligned bs))) → (y ≡ 32) ⊎ (48 ≤ y)
unfolding joined right_aligned
in_columns [] y m = absurd (in_none y m)
in_columns (b ∷ bs) y m =
    elim (in_append y (right_aligned b) (joined (map right_aligned bs)) m) [
      | inl t ↦ elim (in_append y (replicate (5 - length (decimal b)) 32) (decimal b) t) [
        | inl u ↦ inl (in_spaces (5 - length (decimal b)) y u)
        | inr u ↦ inr (digit_high (decimal b) (decimal_digits b) y u)
      ]
      | inr t ↦ in_columns bs y t
    ]

without_none : (c : ℕ) (xs : List ℕ) → Without c xs → T (memb c xs) → ⊥
without_none c [] w m = in_none c m
without_none c (x ∷ xs) w m = elim (in_cons c x xs m) [ inl e ↦ w.0 (sym e) | inr t ↦ without_none c xs w.1 t ]

-- a line to its end
module _ (text : List ℕ) (few : length text ≤ 40) where
  abbrev front : List ℕ
  front = text ++ replicate (40 - length text) 32

  length_front : length front ≡ 40
  length_front = omega (arith, length-append text (replicate (40 - length text) 32), length_spaces (40 - length text))

  padded_is : padded text ≡ front ++ (10 ∷ [])
  unfolding padded
  padded_is = sym (append_assoc text (replicate (40 - length text) 32) (10 ∷ []))

  pub row : (foot : List ℕ) → (padded text ≢ foot → get_or (padded text) 1 0 ≡ 32) → (T (memb 10 text) → ⊥) → Row foot (padded text)
  row foot space none = record {
    long = length_padded text few;
    space = space;
    inside = λ m.
        let same = ap (take 40) padded_is ∙ take_at front (10 ∷ []) 40 length_front in
        elim (in_append 10 text (replicate (40 - length text) 32) (subst (λ (l : List ℕ). T (memb 10 l)) same m)) [
          | inl t ↦ none t
          | inr t ↦ let e : ◌≡◌ {A = ℕ} 10 32 = in_spaces (40 - length text) 10 t in omega arith
        ];
    feed = ap (λ (l : List ℕ). get_or l 40 0) padded_is ∙ get_or_at front 10 [] 0 40 length_front;
  }

-- the second character is a space on a blank line and on those of the waves
abbrev Spaced : List ℕ → Type 0
Spaced l = get_or l 1 0 ≡ 32

blank_spaced : Spaced (padded [])
unfolding padded
blank_spaced = refl

line_spaced : (mark : ℕ) (bs : List ℕ) → Spaced (poster_line mark bs)
unfolding poster_line padded
line_spaced mark bs = refl

marked_spaced : (mark : ℕ) (ps : List (List ℕ)) → Each Spaced (marked mark ps)
unfolding marked
marked_spaced mark [] = tt
marked_spaced mark (p ∷ ps) = (line_spaced mark p, marked_spaced 32 ps)

waves_spaced : (ls : List Line) → Each Spaced (flat_map wave_lines ls)
unfolding flat_map wave_lines
waves_spaced [] = tt
waves_spaced (l ∷ ls) = each_append Spaced (wave_lines l) (flat_map wave_lines ls) (marked_spaced l.letter (sevens l.banks)) (waves_spaced ls)

-- on the foot it is none
foot_marked : (n m : ℕ) → is_foot (foot_line n m) ≡ true
unfolding is_foot foot_line padded foot_text
foot_marked n m = refl

-- so it is found, and the lines above it
above_is : (ls rest : List (List ℕ)) (foot : List ℕ) → Each Spaced ls → is_foot foot ≡ true → above_foot (ls ++ (foot ∷ rest)) ≡ ls
unfolding above_foot
above_is [] rest foot spaced is = rw is
above_is (l ∷ ls) rest foot spaced is =
    let none : is_foot l ≡ false = unfold is_foot in rw spaced.0 in
    rw none (ap (◌∷◌ l) (above_is ls rest foot spaced.1 is))

pub above_foot-law : (ls : List Line) (n m : ℕ) (rest : List (List ℕ))
    → above_foot ((flat_map wave_lines ls ++ (foot_line n m ∷ [])) ++ rest) ≡ flat_map wave_lines ls
above_foot-law ls n m rest =
    ap above_foot (append_assoc (flat_map wave_lines ls) (foot_line n m ∷ []) rest)
    ∙ above_is (flat_map wave_lines ls) rest (foot_line n m) (waves_spaced ls) (foot_marked n m)

pub foot_at-law : (ls : List Line) (n m : ℕ) (rest : List (List ℕ))
    → get_or ((flat_map wave_lines ls ++ (foot_line n m ∷ [])) ++ rest) (length (flat_map wave_lines ls)) [] ≡ foot_line n m
foot_at-law ls n m rest =
    ap (λ (l : List (List ℕ)). get_or l (length (flat_map wave_lines ls)) []) (append_assoc (flat_map wave_lines ls) (foot_line n m ∷ []) rest)
    ∙ get_or_at (flat_map wave_lines ls) (foot_line n m) rest [] (length (flat_map wave_lines ls)) refl

-- the foot of a plan's numbers is a line, and its numbers are read as they were
module _ (n m : ℕ) (low : n < 10000) (few : m < 100000) where
  pub foot_short : length (foot_text n m) ≤ 16
  foot_short = omega (arith, length_foot n m, few_digits 3 n low, few_digits 4 m few)

  pub foot_totals : totals_on (foot_line n m) ≡ totals_of n m
  unfolding foot_line padded
  foot_totals =
      let left : ℕ = 39 - length (foot_text n m) in
      let split : 40 - length (foot_text n m) ≡ suc left = omega (arith, foot_short) in
      ap (λ (count : ℕ). totals_on (foot_text n m ++ (replicate count 32 ++ (10 ∷ [])))) split
      ∙ totals_padded n m (replicate left 32 ++ (10 ∷ []))

  foot_row : Row (foot_line n m) (foot_line n m)
  unfolding foot_line
  foot_row = row (foot_text n m) (omega (arith, foot_short)) (padded (foot_text n m)) (λ other. absurd (other refl)) (without_none 10 (foot_text n m) (foot_without n m))

-- every line has the form of one
module _ (foot : List ℕ) where
  blank_row : Row foot (padded [])
  blank_row = row [] (omega arith) foot (λ other. blank_spaced) (in_none 10)

  line_row : (mark : ℕ) (bs : List ℕ) → (10 ≡ mark → ⊥) → Fits bs → Row foot (poster_line mark bs)
  unfolding poster_line
  line_row mark bs seen fits =
      row (mark ∷ 32 ∷ joined (map right_aligned bs)) (omega (arith, length_columns bs fits.0, fits.1)) foot (λ other. line_spaced mark bs) (λ m.
      elim (in_cons 10 mark (32 ∷ joined (map right_aligned bs)) m) [
        | inl e ↦ seen e
        | inr t ↦ elim (in_cons 10 32 (joined (map right_aligned bs)) t) [
          | inl e ↦ let f : ◌≡◌ {A = ℕ} 10 32 = e in omega arith
          | inr u ↦ elim (in_columns bs 10 u) [ inl e ↦ let f : ◌≡◌ {A = ℕ} 10 32 = e in omega arith | inr h ↦ omega arith ]
        ]
      ])

  marked_rows : (mark : ℕ) (ps : List (List ℕ)) → (10 ≡ mark → ⊥) → Each Fits ps → Each (Row foot) (marked mark ps)
  unfolding marked
  marked_rows mark [] seen fits = tt
  marked_rows mark (p ∷ ps) seen fits = (line_row mark p seen fits.0, marked_rows 32 ps (λ e. omega arith) fits.1)

  waves_rows : (ls : List Line) → Each Good ls → Each (Row foot) (flat_map wave_lines ls)
  unfolding flat_map wave_lines
  waves_rows [] good = tt
  waves_rows (l ∷ ls) good =
      let high : 65 ≤ l.letter = good.0.high in
      let first = marked_rows l.letter (sevens l.banks) (λ e. omega arith) (each_fits l.banks good.0.small) in
      each_append (Row foot) (wave_lines l) (flat_map wave_lines ls) first (waves_rows ls good.1)

  pub each_long : (ls : List (List ℕ)) → Each (Row foot) ls → Each (λ l. length l ≡ 41) ls
  each_long = each_map (Row foot) (λ l. length l ≡ 41) (λ l r. r.long)

-- those of the waves and of the foot, and with the filling
pub lines_rows : (ls : List Line) → Each Good ls → (n m : ℕ) → n < 10000 → m < 100000
    → Each (Row (foot_line n m)) (flat_map wave_lines ls ++ (foot_line n m ∷ []))
lines_rows ls good n m low few =
    each_append (Row (foot_line n m)) (flat_map wave_lines ls) (foot_line n m ∷ []) (waves_rows (foot_line n m) ls good) (foot_row n m low few, tt)

pub filled_rows : (foot : List ℕ) (ls : List (List ℕ)) → Each (Row foot) ls → Each (Row foot) (filled ls)
unfolding filled
filled_rows foot ls rows =
    let fill : ℕ = (50 - length ls % 50) % 50 in
    each_append (Row foot) ls (replicate fill (padded [])) rows (each_replicate (Row foot) (padded []) (blank_row foot) fill)

pub waves_long : (ls : List Line) → Each Good ls → Each (λ l. length l ≡ 41) (flat_map wave_lines ls)
waves_long ls good = each_long [] (flat_map wave_lines ls) (waves_rows [] ls good)

-- lines put together are found again
pub lines_again : (foot : List ℕ) (ls : List (List ℕ)) → Each (Row foot) ls → lines_on (joined ls) ≡ ls
unfolding lines_on
lines_again foot ls e =
    let long = length_rows ls (each_long foot ls e) in
    let count : length (joined ls) / 41 ≡ length ls = omega arith in
    ap (λ (n : ℕ). pieces n 41 (joined ls)) count ∙ pieces_joined 41 ls (each_long foot ls e)
