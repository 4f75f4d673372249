-- The sheet read again: each line gives its letter and its banks, the first line the number of waves, and the last the banks and the clashes.
use mathlib.Core.List.{List, [], ◌∷◌, ◌++◌, map, append_assoc, append-nil}
use mathlib.Core.Path.{◌≡◌, refl, sym, ap, ap₂, ◌∙◌}
use Prim.Native.Nat.{ℕ, ◌-◌, ◌≤◌, ◌<◌}
use native.Mathlib.Omega.{arith}
use lib.Dec.{T}
use lib.ListN.{length, get_or, length-append}
use lib.Seq.{take_at, get_or_at}
use Rattle.rule.specs.Lists.{upto, memb}
use Rattle.rule.specs.Graph.{Graph}
use Rattle.rule.specs.Wave.{wave_count}
use Rattle.rule.proofs.Lists.{in_head, in_tail, upto_below}
use Rattle.memory.specs.Plan.{clash_count, Clashes}
use Rattle.text.specs.Text.{rows, parts, joined}
use Rattle.text.specs.Numbers.{value_from, decimal}
use Rattle.text.proofs.Decimal.{decimal_value}
use Rattle.text.proofs.Without.{Without, without_append, decimal_without, rows_feed, parts_space, parts_last}
use Rattle.wave_lines.specs.Lines.{Line, line_of, lines_of, banks_shown}
use Rattle.wave_lines.specs.Foot.{foot_text, Totals, totals_of, totals_on}
use Rattle.wave_lines.proofs.Letters.{letter_high}
use Rattle.wave_lines.proofs.Plans.{few_waves}
use Rattle.wave_lines.proofs.Shown.{shown_count, count_lines-law}
use Rattle.wave_lines.proofs.Totals.{foot_without, totals_on-law}
use Rattle.sheet_writer.specs.Sheet.{bank_text, line_text, head_text, last_text, sheet_of, sheet}
use Rattle.sheet_writer.specs.Reading.{wave_of_parts, wave_on, between, waves_read, banks_read, count_read, totals_read}

-- the banks of a line have no line feed, and are parts after what stands before them
banks_without : (bs : List ℕ) → Without 10 (joined (map bank_text bs))
unfolding joined bank_text
banks_without [] = tt
banks_without (b ∷ bs) =
    without_append 10 (32 ∷ decimal b) (joined (map bank_text bs)) ((λ e. omega arith), decimal_without 10 (omega arith) b) (banks_without bs)

parts_banks : (p bs : List ℕ) → Without 32 p → parts (p ++ joined (map bank_text bs)) ≡ p ∷ map decimal bs
unfolding joined bank_text
parts_banks p [] w = ap parts (append-nil p) ∙ parts_last p w
parts_banks p (b ∷ bs) w =
    parts_space p (decimal b ++ joined (map bank_text bs)) w ∙ ap (◌∷◌ p) (parts_banks (decimal b) bs (decimal_without 32 (omega arith) b))

values : (bs : List ℕ) → map (value_from 0) (map decimal bs) ≡ bs
values [] = refl
values (b ∷ bs) = ap₂ ◌∷◌ (decimal_value b) (values bs)

-- a line without its line feed
abbrev front : Line → List ℕ
front l = l.letter ∷ joined (map bank_text l.banks)

wave_on-law : (l : Line) → 65 ≤ l.letter → wave_on (front l) ≡ l
unfolding wave_on wave_of_parts
wave_on-law l h =
    ap wave_of_parts (parts_banks (l.letter ∷ []) l.banks ((λ e. omega arith), tt))
    ∙ ap (λ (bs : List ℕ). record { letter = l.letter; banks = bs }) (values l.banks)

-- each line has a letter
abbrev pub Lettered : List Line → Type 0
Lettered [] = Unit {0}
Lettered (l ∷ ls) = (65 ≤ l.letter) × Lettered ls

line_then : (l : Line) (ls : List Line) → joined (map line_text (l ∷ ls)) ≡ front l ++ (10 ∷ joined (map line_text ls))
unfolding joined line_text
line_then l ls = append_assoc (front l) (10 ∷ []) (joined (map line_text ls))

-- the lines, and what stands after them
lines_rows : (ls : List Line) → Lettered ls → (rest : List ℕ) → rows (joined (map line_text ls) ++ rest) ≡ map front ls ++ rows rest
lines_rows [] good rest = unfold joined in refl
lines_rows (l ∷ ls) good rest =
    let more : List ℕ = joined (map line_text ls) in
    let high : 65 ≤ l.letter = good.0 in
    let cut = rows_feed (front l) (more ++ rest) ((λ e. omega arith), banks_without l.banks) in
    ap (λ (text : List ℕ). rows (text ++ rest)) (line_then l ls)
    ∙ ap rows (append_assoc (front l) (10 ∷ more) rest)
    ∙ cut
    ∙ ap (◌∷◌ (front l)) (lines_rows ls good.1 rest)

lines_on-law : (ls : List Line) → Lettered ls → map wave_on (map front ls) ≡ ls
lines_on-law [] good = refl
lines_on-law (l ∷ ls) good = ap₂ ◌∷◌ (wave_on-law l good.0) (lines_on-law ls good.1)

-- the last line
last_rows : (n m : ℕ) → rows (last_text n m) ≡ foot_text n m ∷ []
unfolding last_text rows
last_rows n m = rows_feed (foot_text n m) [] (foot_without n m)

-- the first line
abbrev head : ℕ → List ℕ
head k = 87 ∷ 65 ∷ 86 ∷ 69 ∷ 83 ∷ 32 ∷ decimal k

head_without : (k : ℕ) → Without 10 (head k)
head_without k =
    without_append 10 (87 ∷ 65 ∷ 86 ∷ 69 ∷ 83 ∷ 32 ∷ []) (decimal k)
    ((λ e. omega arith), ((λ e. omega arith), ((λ e. omega arith), ((λ e. omega arith), ((λ e. omega arith), ((λ e. omega arith), tt))))))
    (decimal_without 10 (omega arith) k)

head_parts : (k : ℕ) → parts (head k) ≡ (87 ∷ 65 ∷ 86 ∷ 69 ∷ 83 ∷ []) ∷ decimal k ∷ []
head_parts k =
    parts_space (87 ∷ 65 ∷ 86 ∷ 69 ∷ 83 ∷ []) (decimal k)
    ((λ e. omega arith), ((λ e. omega arith), ((λ e. omega arith), ((λ e. omega arith), ((λ e. omega arith), tt)))))
    ∙ ap (◌∷◌ (87 ∷ 65 ∷ 86 ∷ 69 ∷ 83 ∷ [])) (parts_last (decimal k) (decimal_without 32 (omega arith) k))

-- the lines of the sheet of any waves
first_row-law : (ls : List Line) (n m : ℕ) → rows (sheet_of ls n m) ≡ head (length ls) ∷ rows (joined (map line_text ls) ++ last_text n m)
unfolding sheet_of head_text
first_row-law ls n m =
    let k : ℕ = length ls in
    let rest : List ℕ = joined (map line_text ls) ++ last_text n m in
    ap rows (append_assoc (head k) (10 ∷ []) rest) ∙ rows_feed (head k) rest (head_without k)

sheet_rows : (ls : List Line) → Lettered ls → (n m : ℕ) → rows (sheet_of ls n m) ≡ head (length ls) ∷ (map front ls ++ (foot_text n m ∷ []))
sheet_rows ls good n m =
    first_row-law ls n m
    ∙ ap (◌∷◌ (head (length ls))) (lines_rows ls good (last_text n m) ∙ ap (λ (r : List (List ℕ)). map front ls ++ r) (last_rows n m))

-- what stands between the first line and the last, and the last
between_is : (first last : List ℕ) (ls : List (List ℕ)) → between (first ∷ (ls ++ (last ∷ []))) ≡ ls
unfolding between
between_is first last ls = take_at ls (last ∷ []) (length (first ∷ (ls ++ (last ∷ []))) - 2) (omega (arith, length-append ls (last ∷ [])))

last_is : (first last : List ℕ) (ls : List (List ℕ))
    → get_or (first ∷ (ls ++ (last ∷ []))) (length (first ∷ (ls ++ (last ∷ []))) - 1) [] ≡ last
last_is first last ls = get_or_at (first ∷ ls) last [] [] (length (first ∷ (ls ++ (last ∷ []))) - 1) (omega (arith, length-append ls (last ∷ [])))

-- the sheet of any waves gives their number
pub count_of : (ls : List Line) (n m : ℕ) → count_read (sheet_of ls n m) ≡ length ls
unfolding count_read
count_of ls n m = rw (first_row-law ls n m, head_parts (length ls)) (decimal_value (length ls))

-- and, if they have letters, the waves and the numbers of the foot
module _ (ls : List Line) (good : Lettered ls) (n m : ℕ) where
  pub waves_of : waves_read (sheet_of ls n m) ≡ ls
  unfolding waves_read
  waves_of = ap (λ (rs : List (List ℕ)). map wave_on (between rs)) (sheet_rows ls good n m)
      ∙ ap (map wave_on) (between_is (head (length ls)) (foot_text n m) (map front ls))
      ∙ lines_on-law ls good

  pub totals_of-law : totals_read (sheet_of ls n m) ≡ totals_of n m
  unfolding totals_read
  totals_of-law = ap (λ (rs : List (List ℕ)). totals_on (get_or rs (length rs - 1) [])) (sheet_rows ls good n m)
      ∙ ap totals_on (last_is (head (length ls)) (foot_text n m) (map front ls))
      ∙ totals_on-law n m

-- the sheet of a plan
pub count_read-law : (G : Graph) → count_read (sheet G) ≡ wave_count G
unfolding sheet
count_read-law G = count_of (lines_of G) G.banks (clash_count G) ∙ count_lines-law G

module _ (G : Graph) (clashes : Clashes G) where
  lettered_in : (cs : List ℕ) → ((c : ℕ) → T (memb c cs) → c < wave_count G) → Lettered (map (line_of G) cs)
  lettered_in [] h = tt
  lettered_in (c ∷ cs) h =
      let few : wave_count G ≤ 24 = few_waves G clashes in
      let low : c < wave_count G = h c (in_head c c cs refl) in
      (letter_high c (omega arith), lettered_in cs (λ x m. h x (in_tail x c cs m)))

  lettered : Lettered (lines_of G)
  unfolding lines_of
  lettered = lettered_in (upto (wave_count G)) (upto_below (wave_count G))

  pub waves_read-law : waves_read (sheet G) ≡ lines_of G
  unfolding sheet
  waves_read-law = waves_of (lines_of G) lettered G.banks (clash_count G)

  pub totals_read-law : totals_read (sheet G) ≡ totals_of G.banks (clash_count G)
  unfolding sheet
  totals_read-law = totals_of-law (lines_of G) lettered G.banks (clash_count G)

  pub banks_read-law : banks_read (sheet G) ≡ banks_shown G
  unfolding banks_read banks_shown
  banks_read-law = ap (λ (ls : List Line). joined (map (λ (l : Line). l.banks) ls)) waves_read-law

  -- as many banks stand above the foot as it says
  pub banks_add_up : length (banks_read (sheet G)) ≡ (totals_read (sheet G)).banks
  banks_add_up = ap length banks_read-law ∙ shown_count G ∙ sym (ap (λ (t : Totals). t.banks) totals_read-law)
