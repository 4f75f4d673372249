-- The theorems to cite. Their proofs are in the files beside this one.
use mathlib.Core.Bool.{cond}
use mathlib.Core.List.{List, [], ◌∷◌}
use mathlib.Core.Path.{◌≡◌, sym, ap, ap₂, ◌∙◌}
use Prim.Native.Nat.{ℕ, ◌+◌, ◌*◌, ◌/◌, ◌≤◌, ◌<◌}
use lib.Dec.{T, ltb}
use lib.ListN.{length, get_or, replicate}
use Rattle.std.specs.Prelude.{Ok}
use Rattle.rule.specs.Graph.{Graph}
use Rattle.memory.specs.declared.Tally.{Tally}
use Rattle.memory.specs.Cells.{over}
use Rattle.memory.specs.Plan.{Slices, clash_count, graph_in, cap_fits, Clashes, PlanOf}
use Rattle.text.specs.Text.{joined}
use Rattle.wave_lines.specs.Lines.{lines_of, banks_shown, times}
use Rattle.wave_lines.specs.Foot.{totals_of}
use Rattle.wave_lines.specs.Calls.{text_result, written_bytes}
use Rattle.wave_lines.proofs.Theorems.{bank_once, written_within}
use Rattle.wave_lines.proofs.Plans as WaveLines
use Rattle.wave_lines.proofs.Writing as Writing
use Rattle.poster_lines.specs.Poster.{padded, foot_line, poster_lines, filled, poster}
use Rattle.poster_lines.proofs.Each.{each_at}
use Rattle.poster_writer.specs.Calls.{write_poster}
use Rattle.poster_writer.specs.Reading.{lines_on, banks_read, waves_read, totals_read, Row}
use Rattle.poster_writer.proofs.Shown
use Rattle.poster_writer.proofs.Plans

-- the poster of any plan
module _ (G : Graph) (clashes : Clashes G) where
  -- 1. the lines on its pages are those of the waves, the foot and the filling; every one is 40 characters, none a line feed, and then a line feed,
  -- and the second is a space, but on the foot
  pub lines_on-law : lines_on (poster G) ≡ filled (poster_lines G)
  lines_on-law = Shown.lines_on-law G clashes

  pub every_line : (i : ℕ) → i < length (lines_on (poster G)) → Row (foot_line G.banks (clash_count G)) (get_or (lines_on (poster G)) i [])
  every_line i h =
      each_at (Row (foot_line G.banks (clash_count G))) [] (lines_on (poster G)) i (rw (Shown.lines_on-law G clashes) (Shown.all_rows G clashes)) h

  -- 2. its length is one of whole pages, 50 lines of 41 bytes each: as few as the lines of the waves and the foot need; and no plan has more than four
  pub whole_pages : length (poster G) ≡ 50 * 41 * ((length (poster_lines G) + 49) / 50)
  whole_pages = Shown.length_poster G clashes

  pub poster_fits : length (poster G) ≤ 8200
  poster_fits = Shown.poster_fits G clashes

  -- 3. the banks read off the pages, line by line, are those of the sheet in its order: each bank of the plan once, and no other number
  pub banks_read-law : banks_read (poster G) ≡ banks_shown G
  banks_read-law = Shown.banks_read-law G clashes

  pub bank_once_read : (b : ℕ) → times b (banks_read (poster G)) ≡ cond (ltb b G.banks) 1 0
  bank_once_read b = ap (times b) banks_read-law ∙ bank_once G b

  -- 4. the waves read off the pages, each from its letter on and over the lines that start with a space, are the sheet's: letters and banks
  pub waves_read-law : waves_read (poster G) ≡ lines_of G
  waves_read-law = Shown.waves_read-law G clashes

  -- 5. the numbers read off its foot are the banks and the clashes of the plan, and the banks read off the pages are as many
  pub totals_read-law : totals_read (poster G) ≡ totals_of G.banks (clash_count G)
  totals_read-law = Shown.totals_read-law G clashes

  pub banks_add_up : length (banks_read (poster G)) ≡ (totals_read (poster G)).banks
  banks_add_up = Shown.banks_add_up G clashes

-- 6. a plan without banks has one page, with the foot on it
pub one_page : (G : Graph) → G.banks ≡ 0 → poster G ≡ joined (foot_line 0 0 ∷ replicate 49 (padded []))
one_page = Shown.one_page

-- 7. the poster of memory depends on nothing but the clashes whose plan it holds
pub one_poster : (G H : Graph) (s : Slices) (t : Tally) → PlanOf G s t → PlanOf H s t → poster G ≡ poster H
unfolding poster
one_poster G H s t p q = ap (λ (ls : List (List ℕ)). joined (filled ls)) (sym (Plans.lines_are G s t p) ∙ Plans.lines_are H s t q)

-- 8. an output of 8,200 bytes is never too short: memory that holds the plan of G, under a cap that fits, gives its poster
pub never_short : (G : Graph) (s : Slices) (t : Tally) (out : List ℕ) → PlanOf G s t → T (cap_fits t) → 8200 ≤ length out
    → text_result (Ok (length (poster G))) (over (poster G) out) ≡ write_poster s t out
never_short = Writing.never_short poster 8200 poster_fits one_poster

-- 9. the numbers read off the foot that the call wrote are the tally's
pub written_totals : (s : Slices) (t : Tally) (out : List ℕ) → (write_poster s t out).answer.number ≡ 0
    → totals_read (written_bytes (write_poster s t out)) ≡ totals_of t.banks t.clashes
written_totals s t out done =
    let G = graph_in t.banks s in
    let held = Writing.written_plan poster s t out done in
    ap totals_read (Writing.written_text poster s t out one_poster G held done)
    ∙ totals_read-law G held.clashes
    ∙ sym (ap₂ totals_of (WaveLines.plan_banks G s t held) (WaveLines.plan_clashes G s t held))

-- 10. the length that is answered is one of bytes in the output
pub within_output : (s : Slices) (t : Tally) (out : List ℕ) → (write_poster s t out).answer.length ≤ length (write_poster s t out).out
within_output = written_within poster
