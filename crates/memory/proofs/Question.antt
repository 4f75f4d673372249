-- `is_plan` is true exactly if memory is, cell by cell, the plan of some set of clashes.
use mathlib.Core.Bool.{Bool, true, false, ◌&&◌, ◌||◌, not}
use mathlib.Core.Logic.{inl, inr}
use mathlib.Core.Path.{◌≡◌, refl, sym, ap, ◌∙◌}
use Prim.Native.Nat.{ℕ, ◌≤◌, ◌<◌}
use native.Mathlib.Omega.{arith}
use lib.Dec.{T, eqb, ltb, leb, eqb→eq, ltb→lt, lt→ltb, le→leb, leb→le, not_T, T_not}
use Rattle.rule.specs.Lists.{upto, some}
use Rattle.rule.specs.Graph.{Graph, Same}
use Rattle.rule.specs.Wave.{waves, wave_count}
use Rattle.rule.proofs.Booleans.{and_l, and_r, both, or_l, or_r, or_cases, stable, test_ext, t_along, eq→eqb, lt_or_ge, is_true, is_false}
use Rattle.rule.proofs.Lists.{in_upto, upto_below, some_in, in_some}
use Rattle.memory.specs.declared.Tally.{Tally}
use Rattle.memory.specs.Cells.{starts}
use Rattle.memory.specs.Plan.{Slices, long_enough, neighbour_cells, degree_cells, count_cells, rank_cells, clash_count, tally_of, graph_in, proper, low_ranks, is_plan, cap_fits, holds}
use Rattle.memory.specs.Plan.{PlanOf}
use Rattle.memory.specs.inner.Test.{Tested}
use Rattle.memory.proofs.Cells.{starts_over, over_starts}
use Rattle.memory.proofs.Plans.{long, long_enough-law}
use Rattle.memory.proofs.Agree.{tally_eq, plan_agree}
use Rattle.memory.proofs.Views.{AtFronts, fronts_of, of_fronts, fronts_long, tally_banks, held_of}
use Rattle.memory.proofs.Rows.{in_rows, few_named, row_names}
use Rattle.memory.proofs.Tested.{tested_plan, plan_tested}

-- clashes of different banks, each in both rows
module _ (G : Graph) where
  abbrev wrong : ℕ → Bool
  wrong x = G.clash x x || some (λ y. G.clash x y && not (G.clash y x)) (upto G.banks)

  abbrev high : ℕ → Bool
  high x = ltb 9999 (G.rank x)

  proper_apart : T (proper G) → (x : ℕ) → x < G.banks → T (G.clash x x) → ⊥
  unfolding proper
  proper_apart t x h c =
      T_not (some wrong (upto G.banks)) t (some_in wrong (upto G.banks) x (in_upto G.banks x h) (or_l (G.clash x x) _ c))

  proper_back : T (proper G) → (x y : ℕ) → x < G.banks → y < G.banks → T (G.clash x y) → T (G.clash y x)
  unfolding proper
  proper_back t x y hx hy c =
      stable (G.clash y x) (λ u.
      T_not (some wrong (upto G.banks)) t (some_in wrong (upto G.banks) x (in_upto G.banks x hx) (or_r (G.clash x x) _ (
      some_in (λ z. G.clash x z && not (G.clash z x)) (upto G.banks) y (in_upto G.banks y hy) (both (G.clash x y) (not (G.clash y x)) c u)))))

  is_proper-law : ((x : ℕ) → x < G.banks → T (G.clash x x) → ⊥) → ((x y : ℕ) → x < G.banks → y < G.banks → G.clash x y ≡ G.clash y x) → T (proper G)
  unfolding proper
  is_proper-law apart symmetric =
      not_T (some wrong (upto G.banks)) (λ u.
      let r = in_some wrong (upto G.banks) u in
      let h = upto_below G.banks r.0 r.1 in
      elim (or_cases (G.clash r.0 r.0) _ r.2) [
        | inl c ↦ apart r.0 h c
        | inr v ↦
            let q = in_some (λ y. G.clash r.0 y && not (G.clash y r.0)) (upto G.banks) v in
            T_not (G.clash q.0 r.0) (and_r (G.clash r.0 q.0) _ q.2)
            (t_along (symmetric r.0 q.0 h (upto_below G.banks q.0 q.1)) (and_l (G.clash r.0 q.0) _ q.2))
      ])

  are_low : T (low_ranks G) → (x : ℕ) → x < G.banks → G.rank x ≤ 9999
  unfolding low_ranks
  are_low t x h =
      elim (lt_or_ge 9999 (G.rank x)) [
        | inl l ↦ absurd (T_not (some high (upto G.banks)) t (some_in high (upto G.banks) x (in_upto G.banks x h) (lt→ltb 9999 (G.rank x) l)))
        | inr g ↦ g
      ]

  is_low-law : ((x : ℕ) → x < G.banks → G.rank x ≤ 9999) → T (low_ranks G)
  unfolding low_ranks
  is_low-law low =
      not_T (some high (upto G.banks)) (λ u.
      let r = in_some high (upto G.banks) u in
      omega (arith, low r.0 (upto_below G.banks r.0 r.1), ltb→lt 9999 (G.rank r.0) r.2))

-- the parts of `is_plan`
record Parts (s : Slices) (t : Tally) (G : Graph) : Type 0 where
  is_proper : T (proper G)
  is_low : T (low_ranks G)
  fronts : AtFronts G s
  clashes : t.clashes ≡ clash_count G
  most : t.waves ≡ wave_count G

module _ (s : Slices) (t : Tally) where
  abbrev all : Graph → Bool
  all G =
      proper G
      && (low_ranks G
      && (starts (neighbour_cells G) s.neighbours
      && (starts (degree_cells G) s.degrees
      && (starts (waves G) s.waves
      && (starts (count_cells G) s.counts
      && (starts (rank_cells G) s.ranks
      && (eqb t.clashes (clash_count G) && eqb t.waves (wave_count G))))))))

  apart : (G : Graph) → T (all G) → Parts s t G
  apart G h =
      let h₀ = and_r (proper G) _ h in
      let h₁ = and_r (low_ranks G) _ h₀ in
      let h₂ = and_r (starts (neighbour_cells G) s.neighbours) _ h₁ in
      let h₃ = and_r (starts (degree_cells G) s.degrees) _ h₂ in
      let h₄ = and_r (starts (waves G) s.waves) _ h₃ in
      let h₅ = and_r (starts (count_cells G) s.counts) _ h₄ in
      let h₆ = and_r (starts (rank_cells G) s.ranks) _ h₅ in
      record {
        is_proper = and_l (proper G) _ h;
        is_low = and_l (low_ranks G) _ h₀;
        fronts = record {
          rows = starts_over (neighbour_cells G) s.neighbours (and_l (starts (neighbour_cells G) s.neighbours) _ h₁);
          degrees = starts_over (degree_cells G) s.degrees (and_l (starts (degree_cells G) s.degrees) _ h₂);
          waves_are = starts_over (waves G) s.waves (and_l (starts (waves G) s.waves) _ h₃);
          counts = starts_over (count_cells G) s.counts (and_l (starts (count_cells G) s.counts) _ h₄);
          ranks = starts_over (rank_cells G) s.ranks (and_l (starts (rank_cells G) s.ranks) _ h₅);
        };
        clashes = eqb→eq t.clashes (clash_count G) (and_l (eqb t.clashes (clash_count G)) _ h₆);
        most = eqb→eq t.waves (wave_count G) (and_r (eqb t.clashes (clash_count G)) _ h₆);
      }

  together : (G : Graph) → Parts s t G → T (all G)
  together G p =
      both (proper G) _ p.is_proper
      (both (low_ranks G) _ p.is_low
      (both (starts (neighbour_cells G) s.neighbours) _ (over_starts (neighbour_cells G) s.neighbours p.fronts.rows)
      (both (starts (degree_cells G) s.degrees) _ (over_starts (degree_cells G) s.degrees p.fronts.degrees)
      (both (starts (waves G) s.waves) _ (over_starts (waves G) s.waves p.fronts.waves_are)
      (both (starts (count_cells G) s.counts) _ (over_starts (count_cells G) s.counts p.fronts.counts)
      (both (starts (rank_cells G) s.ranks) _ (over_starts (rank_cells G) s.ranks p.fronts.ranks)
      (both (eqb t.clashes (clash_count G)) _ (eq→eqb t.clashes (clash_count G) p.clashes) (eq→eqb t.waves (wave_count G) p.most))))))))

  abbrev K : Graph
  K = in_rows t.banks s.neighbours s.ranks

  own_plan : t.banks ≤ 1024 → T (is_plan s t) → PlanOf K s t
  unfolding is_plan graph_in tally_of
  own_plan few h =
      let p = apart K h in
      record {
        clashes = record {
          most = few;
          symmetric = λ x y hx hy. test_ext (K.clash x y) (K.clash y x) (proper_back K p.is_proper x y hx hy) (proper_back K p.is_proper y x hy hx);
          apart = proper_apart K p.is_proper;
          few = λ x l. few_named t.banks s.neighbours s.ranks x;
          ranks = are_low K p.is_low;
        };
        long = long_enough-law t.banks s (fronts_long p.fronts);
        cells = of_fronts p.fronts;
        tally = tally_eq refl p.clashes p.most;
      }

  own_is_plan : PlanOf K s t → T (is_plan s t)
  unfolding is_plan graph_in tally_of
  own_is_plan p = together K (record {
    is_proper = is_proper-law K p.clashes.apart p.clashes.symmetric;
    is_low = is_low-law K p.clashes.ranks;
    fronts = fronts_of p.cells;
    clashes = ap (λ (u : Tally). u.clashes) p.tally;
    most = ap (λ (u : Tally). u.waves) p.tally;
  })

  -- memory that holds a plan holds that of the clashes that its rows name
  pub is_plan_of : t.banks ≤ 1024 → T (is_plan s t) → PlanOf (graph_in t.banks s) s t
  unfolding graph_in
  is_plan_of = own_plan

  -- and these are the plan's
  module _ (G : Graph) (p : PlanOf G s t) where
    pub rows_give_clashes : (x y : ℕ) → x < G.banks → y < G.banks → (graph_in t.banks s).clash x y ≡ G.clash x y
    unfolding graph_in
    rows_give_clashes x y hx hy = row_names (held_of G s t p).rowed x hx y hy

    -- so memory holds the plan of no other clashes and ranks
    pub cells_give : Same (graph_in t.banks s) G
    unfolding graph_in
    cells_give = record { banks = tally_banks t G p.tally; clash = rows_give_clashes; rank = λ x h. (held_of G s t p).ranked.cells x h }

    pub plan_is_plan : T (is_plan s t)
    unfolding graph_in
    plan_is_plan = own_is_plan (plan_agree cells_give s t p)

  -- the answer of the test
  module _ (few : t.banks ≤ 1024) (room : long_enough t.banks s ≡ true) where
    pub accepts : Tested s t → true ≡ is_plan s t
    accepts h = test_ext true (is_plan s t) (λ u. own_is_plan (tested_plan s t few (long t.banks s room) h)) (λ u. tt)

    pub refuses : (Tested s t → ⊥) → false ≡ is_plan s t
    refuses h = test_ext false (is_plan s t) (λ u. absurd u) (λ u. h (plan_tested s t (own_plan few u)))

-- the cap, part by part
module _ (t : Tally) where
  pub cap_fits-law : 1 ≤ t.cap → t.cap ≤ 24 → t.waves ≤ t.cap → T (cap_fits t)
  unfolding cap_fits
  cap_fits-law a b c = both (leb 1 t.cap) _ (le→leb 1 t.cap a) (both (leb t.cap 24) _ (le→leb t.cap 24 b) (le→leb t.waves t.cap c))

  pub cap_parts : T (cap_fits t) → (1 ≤ t.cap) × (t.cap ≤ 24) × (t.waves ≤ t.cap)
  unfolding cap_fits
  cap_parts h =
      let r = and_r (leb 1 t.cap) _ h in
      (leb→le 1 t.cap (and_l (leb 1 t.cap) _ h), leb→le t.cap 24 (and_l (leb t.cap 24) _ r), leb→le t.waves t.cap (and_r (leb t.cap 24) _ r))

  -- the answer of its test
  pub cap_fine : 1 ≤ t.cap → t.cap ≤ 24 → t.waves ≤ t.cap → true ≡ cap_fits t
  cap_fine a b c = sym (is_true (cap_fits t) (cap_fits-law a b c))

  pub cap_unfit : (1 ≤ t.cap → t.cap ≤ 24 → t.waves ≤ t.cap → ⊥) → false ≡ cap_fits t
  cap_unfit f = sym (is_false (cap_fits t) (λ h. let p = cap_parts h in f p.0 p.1 p.2))

-- question 5 asks both
module _ (s : Slices) (t : Tally) where
  pub holds_plan-law : t.banks ≤ 1024 → T (holds s t) → PlanOf (graph_in t.banks s) s t
  unfolding holds
  holds_plan-law few h = is_plan_of s t few (and_l (is_plan s t) _ h)

  pub holds_cap : T (holds s t) → T (cap_fits t)
  unfolding holds
  holds_cap h = and_r (is_plan s t) _ h

  pub plan_holds : (G : Graph) → PlanOf G s t → T (cap_fits t) → T (holds s t)
  unfolding holds
  plan_holds G p c = both (is_plan s t) _ (plan_is_plan s t G p) c

  -- the answer, once the cap is tested
  pub cap_refused : false ≡ cap_fits t → false ≡ holds s t
  cap_refused e = sym (is_false (holds s t) (λ h. t_along (sym e) (holds_cap h)))

  pub cap_granted : {r : Bool} → true ≡ cap_fits t → r ≡ is_plan s t → r ≡ holds s t
  unfolding holds
  cap_granted e q = q ∙ test_ext (is_plan s t) (is_plan s t && cap_fits t) (λ u. both (is_plan s t) _ u (t_along e tt)) (λ u. and_l (is_plan s t) _ u)
