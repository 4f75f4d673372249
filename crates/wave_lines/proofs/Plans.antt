-- The lines of memory that holds a plan: by its wave cells they are those of its clashes.
use mathlib.Core.Bool.{Bool, ◌&&◌}
use mathlib.Core.List.{List, [], ◌∷◌, map, foldr, map_congr_left}
use mathlib.Core.Path.{◌≡◌, refl, sym, ap, ◌∙◌}
use Prim.Native.Nat.{ℕ, suc, ◌+◌, ◌*◌, ◌≤◌, ◌<◌, max}
use native.Mathlib.Nat.{max-le}
use native.Mathlib.Omega.{arith}
use lib.Dec.{T, eqb}
use lib.ListN.{length, get_or, drop, length-map, get_or-append}
use Rattle.rule.specs.Lists.{upto, filter, memb}
use Rattle.rule.specs.Graph.{Graph, neighbours, degree, earlier, earlier_neighbours}
use Rattle.rule.specs.Wave.{wave, waves, wave_count, banks_by, banks_of}
use Rattle.rule.proofs.Booleans.{and_l}
use Rattle.rule.proofs.Lists.{in_head, in_tail, upto_below, length_upto, filter_cong, count_le}
use Rattle.rule.proofs.Theorems.{wave_le}
use Rattle.memory.specs.declared.Tally.{Tally}
use Rattle.memory.specs.Cells.{over}
use Rattle.memory.specs.Plan.{Slices, clash_count, plan_in, tally_of, Clashes, PlanOf}
use Rattle.memory.proofs.Fronts.{get_d_map, get_d_upto}
use Rattle.memory.proofs.Theorems.{long}
use Rattle.wave_lines.specs.Lines.{letters, line_of, lines_of}
use Rattle.wave_lines.specs.inner.Cells.{members_of, line_in}

-- no plan has more than 24 waves
module _ (G : Graph) (clashes : Clashes G) where
  few_earlier : (b : ℕ) → b < G.banks → wave G b ≤ 23
  unfolding degree neighbours earlier_neighbours
  few_earlier b h =
      let all = upto G.banks in
      let fewer : length (filter (λ v. G.clash b v && earlier G v b) all) ≤ length (filter (G.clash b) all) =
      count_le (λ v. G.clash b v && earlier G v b) (G.clash b) all (λ v m t. and_l (G.clash b v) (earlier G v b) t) in
      omega (arith, wave_le G b h, clashes.few b h)

  few_in : (bs : List ℕ) → ((b : ℕ) → T (memb b bs) → b < G.banks) → foldr (λ b k. max (suc (wave G b)) k) 0 bs ≤ 24
  few_in [] h = omega arith
  few_in (b ∷ bs) h =
      let w : wave G b ≤ 23 = few_earlier b (h b (in_head b b bs refl)) in
      max-le (omega arith) (few_in bs (λ x m. h x (in_tail x b bs m)))

  pub few_waves : wave_count G ≤ 24
  unfolding wave_count
  few_waves = few_in (upto G.banks) (upto_below G.banks)

  -- nor more than 11,776 clashes: 23 at each of 1,024 banks, each counted at two
  clashes_in-law : (bs : List ℕ) → ((b : ℕ) → T (memb b bs) → b < G.banks) → foldr (λ b m. degree G b + m) 0 bs ≤ 23 * length bs
  clashes_in-law [] h = omega arith
  clashes_in-law (b ∷ bs) h = omega (arith, clashes.few b (h b (in_head b b bs refl)), clashes_in-law bs (λ x m. h x (in_tail x b bs m)))

  pub few_clashes : clash_count G ≤ 11776
  unfolding clash_count
  few_clashes = omega (arith, clashes_in-law (upto G.banks) (upto_below G.banks), length_upto G.banks, clashes.most)

-- memory that holds the plan of G
module _ (G : Graph) (s : Slices) (t : Tally) (p : PlanOf G s t) where
  pub plan_banks : t.banks ≡ G.banks
  unfolding tally_of
  plan_banks = ap (λ (u : Tally). u.banks) p.tally

  pub plan_count : t.waves ≡ wave_count G
  unfolding tally_of
  plan_count = ap (λ (u : Tally). u.waves) p.tally

  pub plan_clashes : t.clashes ≡ clash_count G
  unfolding tally_of
  plan_clashes = ap (λ (u : Tally). u.clashes) p.tally

  pub plan_room : t.banks ≤ length s.waves
  plan_room = rw plan_banks (long G.banks s p.long).waves

  pub plan_most : t.banks ≤ 1024
  plan_most = rw plan_banks p.clashes.most

  pub plan_few : t.waves ≤ 24
  plan_few = rw plan_count (few_waves G p.clashes)

  wave_cell : (b : ℕ) → b < G.banks → get_or s.waves b 0 ≡ wave G b
  unfolding plan_in over waves
  wave_cell b h =
      let all = upto G.banks in
      let count = length_upto G.banks in
      ap (λ (q : Slices). get_or q.waves b 0) (sym p.cells)
      ∙ get_or-append (waves G) (drop (length (waves G)) s.waves) 0 b (omega (arith, length-map all (wave G)))
      ∙ get_d_map (wave G) all b (omega arith)
      ∙ ap (wave G) (get_d_upto G.banks b h)

  -- the banks whose wave cell is c
  members_are : (c : ℕ) → members_of s.waves c t.banks ≡ banks_of G c
  unfolding members_of banks_by
  members_are c =
      let at : ℕ → Bool = λ b. eqb (get_or s.waves b 0) c in
      let same : (b : ℕ) → T (memb b (upto G.banks)) → at b ≡ eqb (wave G b) c =
      λ b m. ap (λ (w : ℕ). eqb w c) (wave_cell b (upto_below G.banks b m)) in
      ap (λ (n : ℕ). filter at (upto n)) plan_banks ∙ filter_cong at (λ b. eqb (wave G b) c) (upto G.banks) same

  pub line_is : (c : ℕ) → line_in s.waves t.banks c ≡ line_of G c
  line_is c = ap (λ (bs : List ℕ). record { letter = get_or letters c 0; banks = bs }) (members_are c)

  pub lines_are : map (line_in s.waves t.banks) (upto t.waves) ≡ lines_of G
  unfolding lines_of
  lines_are = ap (λ (k : ℕ). map (line_in s.waves t.banks) (upto k)) plan_count ∙ map_congr_left {l = upto (wave_count G)} (λ c m. line_is c)

-- the lines depend on nothing but the clashes whose plan memory holds
pub one_lines : (G H : Graph) (s : Slices) (t : Tally) → PlanOf G s t → PlanOf H s t → lines_of G ≡ lines_of H
one_lines G H s t p q = sym (lines_are G s t p) ∙ lines_are H s t q
