-- The search for a wave: each earlier neighbour counted by its wave, the lowest wave left free, and why the search ends.
use mathlib.Core.Bool.{true, false}
use mathlib.Core.List.{List, map}
use mathlib.Core.Logic.{inl, inr}
use mathlib.Core.Path.{◌≡◌, refl, sym, ap, subst, ◌∙◌}
use native.Mathlib.Omega.{arith}
use Prim.Native.Nat.{ℕ, zero, suc, ◌+◌, ◌*◌, ◌≤◌, ◌<◌}
use lib.Dec.{T}
use lib.ListN.{get_or, set, replicate, length-replicate, get_or-replicate}
use Rattle.rule.specs.Graph.{Graph, earlier_neighbours}
use Rattle.rule.specs.Lists.{upto, memb}
use Rattle.rule.specs.Wave.{lowest_free, wave, waves}
use Rattle.rule.proofs.Booleans.{t_along, lt_or_ge}
use Rattle.rule.proofs.Lists.{in_upto, length_upto, count_lt}
use Rattle.rule.proofs.Order.{keyed_strict}
use Rattle.rule.proofs.Waves.{earlier_neighbours_in}
use Rattle.rule.proofs.Theorems.{wave_equation, wave_small, lowest_free_free, lowest_free_smaller}
use Rattle.rule.specs.Lists.{Strict}
use Rattle.memory.specs.declared.Tally.{Tally}
use Rattle.memory.specs.Plan.{Slices, graph_in, PlanOf}
use Rattle.memory.specs.inner.Counts.{by_cells, standing, Countable}
use Rattle.memory.specs.inner.Test.{Lowest}
use Rattle.memory.proofs.Fronts.{get_d_map, get_d_upto}
use Rattle.memory.proofs.Tallies.{shown, countable, counts_are, count_none, v_bank, count_few, skipped, counted}
use Rattle.memory.proofs.Standing.{standing_cong, standing_pos, pos_standing}
use Rattle.memory.proofs.Theorems.{held_of, length_waves}
use Rattle.direct_rule.specs.inner.Search.{read_in, Readable, HeldTo, place_of}

-- the order by the cells is a strict one, so an earlier bank has a lower place
by_cells-law : (ds rs : List ℕ) → Strict (by_cells ds rs)
unfolding by_cells
by_cells-law ds rs = keyed_strict (λ x. get_or ds x 0) (λ x. get_or rs x 0)

pub place_falls : (ds rs : List ℕ) (n v b : ℕ) → v < n → by_cells ds rs v b ≡ true → place_of ds rs n v < place_of ds rs n b
unfolding place_of
place_falls ds rs n v b h e =
    let t : T (by_cells ds rs v b) = t_along (sym e) tt in
    count_lt (λ u. by_cells ds rs u v) (λ u. by_cells ds rs u b) (upto n) (λ u m s. (by_cells-law ds rs).trans u v b s t) v (in_upto n v h)
    ((by_cells-law ds rs).irrefl v) t

-- the rule waves as cells
wave_cell : (G : Graph) (x : ℕ) → x < G.banks → get_or (waves G) x 0 ≡ wave G x
unfolding waves
wave_cell G x h = get_d_map (wave G) (upto G.banks) x (omega (arith, length_upto G.banks)) ∙ ap (wave G) (get_d_upto G.banks x h)

-- one number alone is the lowest that is free
lowest_one : (count : ℕ → ℕ) {w z : ℕ} → Lowest count w → Lowest count z → w ≡ z
lowest_one count {w} {z} a b =
    elim (lt_or_ge w z) [
      | inl l ↦ absurd (b.below w l a.at)
      | inr g ↦ elim (lt_or_ge z w) [ inl l ↦ absurd (a.below z l b.at) | inr h ↦ omega arith ]
    ]

-- what is lent to the search for the wave of b
module _ {ns ds rs : List ℕ} {n b : ℕ} (r : Readable ns ds rs n b) where
  abbrev G : Graph
  G = read_in n ns rs

  banks_are : n ≡ G.banks
  unfolding graph_in
  banks_are = refl

  inside : (x : ℕ) → x < n → x < G.banks
  inside x h = omega (arith, banks_are)

  small : (x : ℕ) → x < n → wave G x ≤ 23
  small x h = wave_small G x (inside x h) (r.shown.small x (inside x h))

  -- its earlier neighbours can be counted by their rule waves
  pub can_count : Countable ns ds rs (waves G) n b
  can_count =
      countable r.shown banks_are (omega (arith, banks_are, length_waves G)) (λ x h. omega (arith, wave_cell G x (inside x h), small x h)) r.bank

  -- none is counted yet
  pub none_held : HeldTo ns ds rs n b (replicate 24 0) 0
  none_held =
      count_none ds rs (waves G) b (record { long = length-replicate {A = ℕ} 24 0; counts = λ c h. get_or-replicate {A = ℕ} 24 c 0 0 h })

  -- the bank in cell i of its row: it is a bank, of which the same can be asked
  module _ {i : ℕ} (lt : i < get_or ds b 0) where
    abbrev v : ℕ
    v = get_or ns (b * 23 + i) 0

    pub named : v < n
    named = v_bank can_count lt

    pub again : Readable ns ds rs n v
    again = record { shown = r.shown; bank = named }

    pub named_small : {w : ℕ} → w ≡ wave G v → w < 24
    named_small is = omega (arith, small v named)

    pub falls : by_cells ds rs v b ≡ true → place_of ds rs n v < place_of ds rs n b
    falls = place_falls ds rs n v b named

    module _ {held : List ℕ} (so : HeldTo ns ds rs n b held i) where
      pub held_few : (c : ℕ) → c < 24 → get_or held c 0 < 24
      held_few = count_few can_count lt so

      -- it is later,
      pub passed : by_cells ds rs v b ≡ false → HeldTo ns ds rs n b held (i + 1)
      passed = skipped can_count lt so

      -- or its wave is counted
      pub taken : by_cells ds rs v b ≡ true → {w : ℕ} → w ≡ wave G v → HeldTo ns ds rs n b (set held w (get_or held w 0 + 1)) (i + 1)
      taken e is = counted can_count lt so e (is ∙ sym (wave_cell G v (inside v named)))

  -- all are counted: the rule wave is the lowest that is free
  abbrev E : List ℕ
  E = earlier_neighbours G b

  module _ {held : List ℕ} (all : HeldTo ns ds rs n b held (get_or ds b 0)) where
    holds_so : (c : ℕ) → c < 24 → get_or held c 0 ≡ standing (wave G) c E
    holds_so c h =
        all.counts c h ∙ counts_are r.shown (waves G) b c (inside b r.bank)
        ∙ standing_cong (λ v. get_or (waves G) v 0) (wave G) c E (λ v m. wave_cell G v (earlier_neighbours_in G b v m).0)

    rule : wave G b ≡ lowest_free (map (wave G) E)
    rule = wave_equation G b (inside b r.bank)

    zero_if : (k : ℕ) → (0 < k → ⊥) → k ≡ 0
    zero_if zero h = refl
    zero_if (suc k) h = absurd (h (omega arith))

    pub rule_lowest : Lowest (λ c. get_or held c 0) (wave G b)
    rule_lowest = record {
      below = λ c l e. omega (
        arith,
        holds_so c (omega (arith, small b r.bank)),
        pos_standing (wave G) c E (lowest_free_smaller (map (wave G) E) c (omega (arith, rule))),
      );
      at = holds_so (wave G b) (omega (arith, small b r.bank)) ∙ zero_if (standing (wave G) (wave G b) E) (λ l.
          lowest_free_free (map (wave G) E) (subst (λ (x : ℕ). T (memb x (map (wave G) E))) rule (standing_pos (wave G) (wave G b) E l)));
    }

    pub some_free : (w : ℕ) × (w < 24) × Lowest (λ c. get_or held c 0) w
    some_free = (wave G b, omega (arith, small b r.bank), rule_lowest)

    pub free_rule : {w : ℕ} → Lowest (λ c. get_or held c 0) w → w ≡ wave G b
    free_rule {w} low = lowest_one _ low rule_lowest

-- a walk up from 0 that has met no free wave yet stays at or below the lowest one
module _ (count : ℕ → ℕ) {c : ℕ} (met : (k : ℕ) → k < c → count k ≡ 0 → ⊥) where
  pub not_past : {w : ℕ} → Lowest count w → c ≤ w
  not_past {w} low = elim (lt_or_ge w c) [ inl l ↦ absurd (met w l low.at) | inr g ↦ g ]

-- memory that holds the plan of what its rows name gives the search what it asks, and the wave found is that of the memory
module _ (s : Slices) (t : Tally) {b : ℕ} (plan : PlanOf (graph_in t.banks s) s t) (bank : b < t.banks) where
  pub plan_readable : Readable s.neighbours s.degrees s.ranks t.banks b
  unfolding graph_in
  plan_readable = let h = held_of _ s t plan in record { shown = shown h.rowed h.ranked; bank = bank }

pub read_wave : (s : Slices) (n b : ℕ) → wave (read_in n s.neighbours s.ranks) b ≡ wave (graph_in n s) b
unfolding graph_in
read_wave s n b = refl
