-- The theorems to cite. Their proofs are in the files beside this one.
use mathlib.Core.Bool.{cond, ◌&&◌}
use mathlib.Core.List.{List, [], ◌∷◌}
use mathlib.Core.Path.{◌≡◌}
use Prim.Native.Nat.{ℕ, ◌≤◌, ◌<◌}
use lib.Dec.{T, ltb, eqb}
use lib.ListN.{length, get_or}
use Rattle.rule.specs.Lists.{memb, Sorted}
use Rattle.rule.specs.Graph.{Graph}
use Rattle.rule.specs.Wave.{wave, wave_count}
use Rattle.memory.specs.declared.Tally.{Tally}
use Rattle.memory.specs.Plan.{Slices, clash_count, Clashes, PlanOf}
use Rattle.wave_lines.specs.Lines.{letters, Line, line_of, lines_of, banks_shown, times}
use Rattle.wave_lines.specs.Foot.{foot_text, totals_of, totals_on}
use Rattle.wave_lines.specs.Calls.{write_text}
use Rattle.wave_lines.proofs.Letters
use Rattle.wave_lines.proofs.Shown
use Rattle.wave_lines.proofs.Totals
use Rattle.wave_lines.proofs.Plans
use Rattle.wave_lines.proofs.Writing

-- 1. the 24 wave letters, one by one, and that they are all different
pub letters_are : letters
    ≡ 65 ∷ 66 ∷ 67 ∷ 68 ∷ 69 ∷ 70 ∷ 71 ∷ 72 ∷ 74 ∷ 75 ∷ 76 ∷ 77 ∷ 78 ∷ 80 ∷ 81 ∷ 82 ∷ 83 ∷ 84 ∷ 85 ∷ 86 ∷ 87 ∷ 88 ∷ 89 ∷ 90 ∷ []
letters_are = Letters.letters_are

pub letters_differ : (c d : ℕ) → c < 24 → d < 24 → get_or letters c 0 ≡ get_or letters d 0 → c ≡ d
letters_differ = Letters.letters_differ

module _ (G : Graph) where
  -- 2. there are k lines, and line c is that of wave c; no plan has more than 24, nor more than 11,776 clashes
  pub count_lines-law : length (lines_of G) ≡ wave_count G
  count_lines-law = Shown.count_lines-law G

  pub line_at : (c : ℕ) (none : Line) → c < wave_count G → get_or (lines_of G) c none ≡ line_of G c
  line_at = Shown.line_at G

  pub few_waves : Clashes G → wave_count G ≤ 24
  few_waves = Plans.few_waves G

  pub few_clashes : Clashes G → clash_count G ≤ 11776
  few_clashes = Plans.few_clashes G

  -- 3. every bank stands on the lines exactly once, and no other number does; so as many stand there as the plan has
  pub bank_once : (b : ℕ) → times b (banks_shown G) ≡ cond (ltb b G.banks) 1 0
  bank_once = Shown.bank_once G

  pub shown_count : length (banks_shown G) ≡ G.banks
  shown_count = Shown.shown_count G

  -- 4. it stands on the line of its rule wave; a line's banks ascend; no line is without one
  pub on_line : (b c : ℕ) → memb b (line_of G c).banks ≡ (ltb b G.banks && eqb (wave G b) c)
  on_line = Shown.on_line G

  pub line_ascends : (c : ℕ) → Sorted ltb (line_of G c).banks
  line_ascends = Shown.line_ascends G

  pub no_empty_line : (c : ℕ) → c < wave_count G → (b : ℕ) × T (memb b (line_of G c).banks)
  no_empty_line = Shown.no_empty_line G

-- 5. the lines depend on nothing but the clashes whose plan memory holds
pub one_lines : (G H : Graph) (s : Slices) (t : Tally) → PlanOf G s t → PlanOf H s t → lines_of G ≡ lines_of H
one_lines = Plans.one_lines

-- 6. the length that writing a text answers is one of bytes in the output
pub written_within : (text : Graph → List ℕ) (s : Slices) (t : Tally) (out : List ℕ)
    → (write_text text s t out).answer.length ≤ length (write_text text s t out).out
written_within = Writing.written_within

-- 7. reading a foot gives the numbers that were put on it
pub totals_on-law : (n m : ℕ) → totals_on (foot_text n m) ≡ totals_of n m
totals_on-law = Totals.totals_on-law
