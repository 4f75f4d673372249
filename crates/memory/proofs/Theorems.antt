-- The theorems to cite. Their proofs are in the files beside this one.
use mathlib.Core.Bool.{true}
use mathlib.Core.List.{List}
use mathlib.Core.Logic.{◌↔◌}
use mathlib.Core.Path.{◌≡◌, refl, ap}
use native.Mathlib.Omega.{arith}
use Prim.Native.Nat.{ℕ, ◌+◌, ◌*◌, ◌-◌, ◌/◌, ◌≤◌, ◌<◌}
use lib.Dec.{T}
use lib.ListN.{length, get_or, take, drop}
use Rattle.rule.specs.Graph.{Graph, earlier, earlier_neighbours, empty, Same}
use Rattle.rule.specs.Wave.{wave, waves, wave_count}
use Rattle.rule.specs.Bounds.{wave_bound, largest_degree}
use Rattle.rule.proofs.Theorems.{wave_bound-law, wave_degrees, wave_most, wave_count_small}
use Rattle.memory.specs.declared.Tally.{Tally}
use Rattle.memory.specs.Plan.{Slices, long_enough, neighbour_cells, degree_cells, count_cells, rank_cells, tally_of, plan_in, graph_in, clash_count, cap_fits, holds, Clashes}
use Rattle.memory.specs.Plan.{PlanOf}
use Rattle.memory.specs.inner.Counts.{by_cells, standing, count_in, Countable, most_of}
use Rattle.memory.specs.PlanCells.{plan_cells}
use Rattle.memory.specs.Pairs.{pairs}
use Rattle.memory.specs.inner.View.{Long, Ranked, Shown, Rowed, Held}
use Rattle.memory.proofs.Plans
use Rattle.memory.proofs.Agree
use Rattle.memory.proofs.Views
use Rattle.memory.proofs.Tallies
use Rattle.memory.proofs.Sums
use Rattle.memory.proofs.Question
use Rattle.memory.proofs.ClashPairs

-- 1. question 5: memory passes exactly if it holds the plan of some set of clashes, under a cap that fits; then it holds that of the clashes that
-- its rows name, which are the plan's
pub question_5 : (s : Slices) (t : Tally) → t.banks ≤ 1024 → T (holds s t) ↔ ((G : Graph) × PlanOf G s t × T (cap_fits t))
question_5 s t few =
    (λ h. (graph_in t.banks s, Question.holds_plan-law s t few h, Question.holds_cap s t h), λ g. Question.plan_holds s t g.0 g.1 g.2)

pub holds_plan-law : (s : Slices) (t : Tally) → t.banks ≤ 1024 → T (holds s t) → PlanOf (graph_in t.banks s) s t
holds_plan-law = Question.holds_plan-law

pub holds_cap : (s : Slices) (t : Tally) → T (holds s t) → T (cap_fits t)
holds_cap = Question.holds_cap

pub plan_holds : (s : Slices) (t : Tally) (G : Graph) → PlanOf G s t → T (cap_fits t) → T (holds s t)
plan_holds = Question.plan_holds

pub rows_give_clashes : (s : Slices) (t : Tally) (G : Graph) → PlanOf G s t → (x y : ℕ) → x < G.banks → y < G.banks
    → (graph_in t.banks s).clash x y ≡ G.clash x y
rows_give_clashes = Question.rows_give_clashes

pub cells_give : (s : Slices) (t : Tally) (G : Graph) → PlanOf G s t → Same (graph_in t.banks s) G
cells_give = Question.cells_give

-- 2. as many banks, the same clashes between them and the same ranks: the same plan cells, whatever lies beyond, and the same tally
module _ {G H : Graph} (a : Same G H) where
  pub same_cells : (s s' : Slices) → plan_cells H.banks (plan_in G s) ≡ plan_cells H.banks (plan_in H s')
  same_cells = Agree.same_cells a

  pub plan_in_agree : (s : Slices) → plan_in G s ≡ plan_in H s
  plan_in_agree = Agree.plan_in_agree a

  pub tally_agree : (cap : ℕ) → tally_of cap G ≡ tally_of cap H
  tally_agree = Agree.tally_agree a

  pub plan_agree : (s : Slices) (t : Tally) → PlanOf H s t → PlanOf G s t
  plan_agree = Agree.plan_agree a

-- 3. a plan put over one of as many banks, or over itself
pub plan_over : (G H : Graph) (s : Slices) → H.banks ≡ G.banks → plan_in H (plan_in G s) ≡ plan_in H s
plan_over = Plans.plan_over

pub plan_again : (G : Graph) (s : Slices) → plan_in G (plan_in G s) ≡ plan_in G s
plan_again G s = Plans.plan_over G G s refl

-- 4. the sizes of a plan
pub length_neighbour_cells : (G : Graph) → length (neighbour_cells G) ≡ 23 * G.banks
length_neighbour_cells = Plans.length_neighbour_cells

pub length_degree_cells : (G : Graph) → length (degree_cells G) ≡ G.banks
length_degree_cells = Plans.length_degree_cells

pub length_waves : (G : Graph) → length (waves G) ≡ G.banks
length_waves = Plans.length_waves

pub length_count_cells : (G : Graph) → length (count_cells G) ≡ 24 * G.banks
length_count_cells = Plans.length_count_cells

pub length_rank_cells : (G : Graph) → length (rank_cells G) ≡ G.banks
length_rank_cells = Plans.length_rank_cells

pub long : (n : ℕ) (s : Slices) → long_enough n s ≡ true → Long n s
long = Plans.long

pub long_enough-law : (n : ℕ) (s : Slices) → Long n s → long_enough n s ≡ true
long_enough-law = Plans.long_enough-law

pub long_again : (G : Graph) (s : Slices) → long_enough G.banks s ≡ true → long_enough G.banks (plan_in G s) ≡ true
long_again = Plans.long_again

-- 5. memory that holds a plan, as facts on its cells, and the other way
pub held_of : (G : Graph) (s : Slices) (t : Tally) → PlanOf G s t → Held G s t.banks
held_of = Views.held_of

pub plan_of : (G : Graph) (s : Slices) (t : Tally) (n : ℕ) → Held G s n → t ≡ tally_of t.cap G
    → PlanOf G s t
plan_of = Views.plan_of

pub open_plan : (cap n : ℕ) (s : Slices) → n ≤ 1024 → long_enough n s ≡ true → PlanOf (empty n) (plan_in (empty n) s) (tally_of cap (empty n))
open_plan = Plans.open_plan

pub held_small : {G : Graph} {s : Slices} {n : ℕ} → Held G s n → (x : ℕ) → x < n → get_or s.waves x 0 < 24
held_small = Views.held_small

-- 6. what the code finds in cells that show a plan: its order, its Counts, its number of waves
pub shown : {G : Graph} {ns ds rs : List ℕ} → Rowed G ns ds → Ranked G rs → Shown G ns ds rs
shown = Tallies.shown

module _ {G : Graph} {ns ds rs : List ℕ} (sh : Shown G ns ds rs) where
  pub cells_earlier : (p q : ℕ) → p < G.banks → q < G.banks → by_cells ds rs p q ≡ earlier G p q
  cells_earlier = Tallies.cells_earlier sh

  pub countable : {ws : List ℕ} {n b : ℕ} → n ≡ G.banks → n ≤ length ws → ((x : ℕ) → x < n → get_or ws x 0 < 24) → b < n → Countable ns ds rs ws n b
  countable = Tallies.countable sh

  pub counts_are : (ws : List ℕ) (b c : ℕ) → b < G.banks
      → count_in ds rs ws b (take (get_or ds b 0) (drop (b * 23) ns)) c ≡ standing (λ v. get_or ws v 0) c (earlier_neighbours G b)
  counts_are = Tallies.counts_are sh

pub wave_count_is : (G : Graph) (ws : List ℕ) → ((x : ℕ) → x < G.banks → get_or ws x 0 ≡ wave G x) → most_of ws G.banks ≡ wave_count G
wave_count_is = Sums.wave_count_is

-- 7. the tally's clashes are the number of pairs a < b that clash
pub clash_count_pairs : (G : Graph) → Clashes G → clash_count G ≡ length (pairs G)
clash_count_pairs = ClashPairs.clash_count_pairs

-- 8. how many waves k at most: k (k - 1) / 2 is at most the number of clashes. As pairs,
pub wave_pairs : (G : Graph) → Clashes G → wave_count G * (wave_count G - 1) ≤ 2 * length (pairs G)
wave_pairs G good = omega (arith, wave_degrees G, ClashPairs.degrees_pairs G good)

-- as the tally counts them,
pub wave_clashes : (G : Graph) → wave_count G * (wave_count G - 1) / 2 ≤ clash_count G
unfolding clash_count
wave_clashes G = omega (arith, wave_degrees G)

-- and in the tally itself, where memory holds a plan; its k is at most the bound of Welsh and Powell, one plus the largest degree, and 24
module _ {G : Graph} {s : Slices} {t : Tally} (plan : PlanOf G s t) where
  waves_are : t.waves ≡ wave_count G
  unfolding tally_of
  waves_are = ap (λ (u : Tally). u.waves) plan.tally

  clashes_are : t.clashes ≡ clash_count G
  unfolding tally_of
  clashes_are = ap (λ (u : Tally). u.clashes) plan.tally

  pub tally_clashes : t.waves * (t.waves - 1) / 2 ≤ t.clashes
  tally_clashes = rw (waves_are, clashes_are) (wave_clashes G)

  pub tally_bound : t.waves ≤ wave_bound G
  tally_bound = omega (arith, waves_are, wave_bound-law G)

  pub tally_most : t.waves ≤ 1 + largest_degree G
  tally_most = omega (arith, waves_are, wave_most G)

  pub tally_waves : t.waves ≤ 24
  tally_waves = omega (arith, waves_are, wave_count_small G plan.clashes.few)

-- 9. a cap of 24 fits every plan
pub widest_cap : {G : Graph} {s : Slices} {t : Tally} → PlanOf G s t → t.cap ≡ 24 → T (cap_fits t)
widest_cap plan e = Question.cap_fits-law _ (omega (arith, e)) (omega (arith, e)) (omega (arith, e, tally_waves plan))
