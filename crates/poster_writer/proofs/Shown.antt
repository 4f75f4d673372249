-- The poster of a set of clashes: its lines are good ones, and few enough.
use mathlib.Core.List.{List, [], ◌∷◌, ◌++◌, map, flat_map}
use mathlib.Core.Path.{◌≡◌, refl, sym, ap, ◌∙◌}
use Prim.Native.Nat.{ℕ, ◌+◌, ◌*◌, ◌-◌, ◌/◌, ◌%◌, ◌≤◌, ◌<◌}
use native.Mathlib.Omega.{arith}
use lib.Dec.{T, ltb, eqb, ltb→lt}
use lib.ListN.{length, get_or, replicate, length-append}
use Rattle.rule.specs.Lists.{upto, memb}
use Rattle.rule.specs.Graph.{Graph}
use Rattle.rule.specs.Wave.{wave, wave_count, banks_of}
use Rattle.rule.proofs.Booleans.{t_along, and_l}
use Rattle.rule.proofs.Lists.{in_head, in_tail, in_none, upto_below}
use Rattle.memory.specs.Plan.{clash_count, Clashes}
use Rattle.text.specs.Text.{joined}
use Rattle.wave_lines.specs.Lines.{Line, line_of, lines_of, banks_shown}
use Rattle.wave_lines.specs.Foot.{Totals, totals_of, totals_on}
use Rattle.wave_lines.proofs.Letters.{letter_high}
use Rattle.wave_lines.proofs.Plans.{few_waves, few_clashes}
use Rattle.wave_lines.proofs.Shown.{shown_count, count_lines-law, on_line, no_empty_line}
use Rattle.poster_lines.specs.Poster.{sevens, padded, wave_lines, foot_line, poster_lines, filled, poster}
use Rattle.poster_lines.proofs.Each.{Each}
use Rattle.poster_lines.proofs.Pieces.{length_marked, length_sevens}
use Rattle.poster_writer.specs.Reading.{lines_on, banks_on, above_foot, banks_read, grouped, waves_read, totals_read, Row}
use Rattle.poster_writer.proofs.Pages.{length_filled}
use Rattle.poster_writer.proofs.ReadBack.{Good, lines_rows, filled_rows, each_long, lines_again, above_foot-law, foot_at-law, foot_totals, none_continues, waves_again, banks_by_wave, waves_long}

some_long : (xs : List ℕ) (x : ℕ) → T (memb x xs) → 1 ≤ length xs
some_long [] x m = absurd (in_none x m)
some_long (y ∷ ys) x m = omega arith

-- the lines of the waves are at most a seventh of the banks, and one for each wave
few_lines : (ls : List Line) → 7 * length (flat_map wave_lines ls) ≤ length (joined (map (λ (l : Line). l.banks) ls)) + 6 * length ls
unfolding flat_map wave_lines joined
few_lines [] = omega arith
few_lines (l ∷ ls) =
    let lines = length-append (wave_lines l) (flat_map wave_lines ls) in
    let banks = length-append l.banks (joined (map (λ (l : Line). l.banks) ls)) in
    omega (arith, few_lines ls, length_marked l.letter (sevens l.banks), length_sevens l.banks)

module _ (G : Graph) (clashes : Clashes G) where
  good_line : (c : ℕ) → c < wave_count G → Good (line_of G c)
  good_line c h =
      let few : wave_count G ≤ 24 = few_waves G clashes in
      let most : G.banks ≤ 1024 = clashes.most in
      let held = no_empty_line G c h in
      record {
        high = letter_high c (omega arith);
        small = λ b m.
            let below : b < G.banks = ltb→lt b G.banks (and_l (ltb b G.banks) (eqb (wave G b) c) (t_along (on_line G b c) m)) in
            omega arith;
        some = some_long (banks_of G c) held.0 held.1;
      }

  good_lines : (cs : List ℕ) → ((c : ℕ) → T (memb c cs) → c < wave_count G) → Each Good (map (line_of G) cs)
  good_lines [] h = tt
  good_lines (c ∷ cs) h = (good_line c (h c (in_head c c cs refl)), good_lines cs (λ x m. h x (in_tail x c cs m)))

  all_good : Each Good (lines_of G)
  unfolding lines_of
  all_good = good_lines (upto (wave_count G)) (upto_below (wave_count G))

  abbrev foot : List ℕ
  foot = foot_line G.banks (clash_count G)

  abbrev filling : List (List ℕ)
  filling = replicate ((50 - length (poster_lines G) % 50) % 50) (padded [])

  low_banks : G.banks < 10000
  low_banks = omega (arith, clashes.most)

  low_clashes : clash_count G < 100000
  low_clashes = omega (arith, few_clashes G clashes)

  all_lines : Each (Row foot) (poster_lines G)
  unfolding poster_lines
  all_lines = lines_rows (lines_of G) all_good G.banks (clash_count G) low_banks low_clashes

  pub all_rows : Each (Row (foot_line G.banks (clash_count G))) (filled (poster_lines G))
  all_rows = filled_rows foot (poster_lines G) all_lines

  pub all_long-law : Each (λ l. length l ≡ 41) (poster_lines G)
  all_long-law = each_long foot (poster_lines G) all_lines

  pub waves_41 : Each (λ l. length l ≡ 41) (flat_map wave_lines (lines_of G))
  waves_41 = waves_long (lines_of G) all_good

  pub lines_on-law : lines_on (poster G) ≡ filled (poster_lines G)
  unfolding poster
  lines_on-law = lines_again foot (filled (poster_lines G)) all_rows

  -- the lines above the foot are those of the waves
  above : above_foot (lines_on (poster G)) ≡ flat_map wave_lines (lines_of G)
  unfolding filled poster_lines
  above = ap above_foot lines_on-law ∙ above_foot-law (lines_of G) G.banks (clash_count G) filling

  pub waves_read-law : waves_read (poster G) ≡ lines_of G
  unfolding waves_read
  waves_read-law = ap grouped above ∙ waves_again (lines_of G) all_good

  pub banks_read-law : banks_read (poster G) ≡ banks_shown G
  unfolding banks_read banks_shown
  banks_read-law =
      let lines : List (List ℕ) = flat_map wave_lines (lines_of G) in
      ap (λ (ls : List (List ℕ)). joined (map banks_on ls)) above
      ∙ banks_by_wave lines
      ∙ ap (λ (bs : List ℕ). bs ++ joined (map (λ (l : Line). l.banks) (grouped lines))) (none_continues (lines_of G) all_good)
      ∙ ap (λ (ls : List Line). joined (map (λ (l : Line). l.banks) ls)) (waves_again (lines_of G) all_good)

  pub totals_read-law : totals_read (poster G) ≡ totals_of G.banks (clash_count G)
  unfolding totals_read filled poster_lines
  totals_read-law =
      ap (λ (ls : List (List ℕ)). totals_on (get_or (lines_on (poster G)) (length ls) [])) above
      ∙ ap (λ (ls : List (List ℕ)). totals_on (get_or ls (length (flat_map wave_lines (lines_of G))) [])) lines_on-law
      ∙ ap totals_on (foot_at-law (lines_of G) G.banks (clash_count G) filling)
      ∙ foot_totals G.banks (clash_count G) low_banks low_clashes

  pub banks_add_up : length (banks_read (poster G)) ≡ (totals_read (poster G)).banks
  banks_add_up = ap length banks_read-law ∙ shown_count G ∙ sym (ap (λ (t : Totals). t.banks) totals_read-law)

  pub length_poster : length (poster G) ≡ 2050 * ((length (poster_lines G) + 49) / 50)
  unfolding poster
  length_poster = length_filled (poster_lines G) all_long-law

  -- the longest poster: 1,024 banks in 24 waves, and the foot
  pub poster_fits : length (poster G) ≤ 8200
  unfolding poster_lines banks_shown
  poster_fits =
      let lines = length-append (flat_map wave_lines (lines_of G)) (foot ∷ []) in
      omega (arith, length_poster, few_lines (lines_of G), shown_count G, count_lines-law G, few_waves G clashes, clashes.most)

-- no bank, and still a page: the foot, and the filling
pub one_page : (G : Graph) → G.banks ≡ 0 → poster G ≡ joined (foot_line 0 0 ∷ replicate 49 (padded []))
unfolding poster filled poster_lines lines_of wave_count clash_count upto flat_map
one_page G e = rw e
