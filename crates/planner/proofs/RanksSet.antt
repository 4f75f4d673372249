-- An entry in memory that holds a plan. A rank is set before the first edit: no two banks clash then, so of the plan's cells only that rank differs.
use mathlib.Core.Bool.{Bool, true, false, cond, not}
use mathlib.Core.List.{List, [], ◌∷◌}
use mathlib.Core.Path.{◌≡◌, refl, sym, ap, ◌∙◌, subst}
use Prim.Native.Nat.{ℕ, zero, suc, ◌≤◌, ◌<◌}
use native.Mathlib.Decide.{ℕ_discrete}
use native.Mathlib.Omega.{arith}
use lib.Dec.{eqb, ltb}
use lib.ListN.{length, get_or, set, length-set}
use lib.Seq.{get_or-set_same, get_or-set_other}
use borrow.Author.Tests.{eq-eqb, ne_eqb, lt-ltb, le-ltb, not-true, ltb-true}
use Rattle.rule.specs.Graph.{Graph, neighbours, degree, ranked}
use Rattle.rule.specs.declared.Bank.{Bank}
use Rattle.rule.specs.declared.Kind.{Kind}
use Rattle.rule.specs.declared.Entry.{Entry}
use Rattle.rule.specs.declared.Entry.TheVariants.{Clash, Rank}
use Rattle.memory.specs.declared.Tally.{Tally}
use Rattle.memory.specs.Cells.{over}
use Rattle.memory.specs.Plan.{Slices, slices_of, rank_cells, tally_of, plan_in, Clashes, PlanOf}
use Rattle.memory.specs.Memory.{Memory, memory_of, Ready}
use Rattle.memory.proofs.Cells.{cells_over}
use Rattle.memory.proofs.Views.{fronts_of}
use Rattle.memory.proofs.Theorems.{held_of}
use Rattle.planner.specs.declared.Edited.{Edited}
use Rattle.planner.specs.Questions.{first_no}
use Rattle.rule.specs.Reach.{edited}
use Rattle.planner.specs.Calls.{no_edit, edit_number}
use Rattle.planner.specs.States.{State, make, entry_number, set_rank, enter, begin, begin_number}
use Rattle.planner.specs.inner.Held.{EditMade, at, Bare, Fresh, tried, Stands, EntryDone, rank_number, ranks_by, RankDone, RankFits}
use Rattle.planner.proofs.Numbers.{none}
use Rattle.planner.proofs.NoClash.{bare_neighbours, bare_degrees, bare_waves, bare_counts, bare_tally, none_clash}
use Rattle.planner.proofs.After.{plan_in-law}
use Rattle.planner.proofs.Made.{ready_banks, edit_made, not_fresh, Holding, make_kept, begin_holds}

-- a plan without clashes, with the rank of b set to r
module _ {G : Graph} {s : Slices} {t : Tally} (bare : Bare G) (plan : PlanOf G s t) (b r : ℕ) (bank : b < G.banks) (fits : r ≤ 9999) where
  abbrev H : Graph
  H = ranked G b r

  bare_h : Bare H
  bare_h = bare

  abbrev rs' : List ℕ
  rs' = set s.ranks b r

  rank_cells-law : rs' ≡ over (rank_cells H) s.ranks
  unfolding rank_cells
  rank_cells-law =
      cells_over G.banks H.rank rs' s.ranks (omega (arith, wide, length-set s.ranks b r)) (λ x l. cell x l (ℕ_discrete x b))
      (record { long = length-set s.ranks b r; same = λ i l. get_or-set_other s.ranks b i r 0 (λ e. omega arith) })
    where
      wide : G.banks ≤ length s.ranks
      wide = (held_of G s t plan).ranked.wide

      cell : (x : ℕ) → x < G.banks → Dec (x ≡ b) → get_or rs' x 0 ≡ cond (eqb x b) r (G.rank x)
      cell x l (yes e) = rw (e, eq-eqb b b refl) (get_or-set_same s.ranks b r 0 (omega (arith, wide)))
      cell x l (no d) = rw (ne_eqb x b d) (get_or-set_other s.ranks b x r 0 d ∙ (held_of G s t plan).ranked.cells x l)

  -- only that cell differs
  pub ranked_cells : slices_of s.neighbours s.degrees s.waves s.counts rs' ≡ plan_in H s
  unfolding plan_in
  ranked_cells =
      let f = fronts_of plan.cells in
      let e₁ = sym (ap (λ (c : List ℕ). over c s.neighbours) (bare_neighbours H bare_h ∙ sym (bare_neighbours G bare)) ∙ f.rows) in
      let e₂ = sym (ap (λ (c : List ℕ). over c s.degrees) (bare_degrees H bare_h ∙ sym (bare_degrees G bare)) ∙ f.degrees) in
      let e₃ = sym (ap (λ (c : List ℕ). over c s.waves) (bare_waves H bare_h ∙ sym (bare_waves G bare)) ∙ f.waves_are) in
      let e₄ = sym (ap (λ (c : List ℕ). over c s.counts) (bare_counts H bare_h ∙ sym (bare_counts G bare)) ∙ f.counts) in
      λ i. record { neighbours = e₁ i; degrees = e₂ i; waves = e₃ i; counts = e₄ i; ranks = rank_cells-law i }

  pub ranked_tally : t ≡ tally_of t.cap H
  ranked_tally = plan.tally ∙ bare_tally G bare t.cap ∙ sym (bare_tally H bare_h t.cap)

  low : (x : ℕ) → x < G.banks → Dec (x ≡ b) → H.rank x ≤ 9999
  low x l (yes e) = rw (eq-eqb x b e) fits
  low x l (no d) = rw (ne_eqb x b d) (plan.clashes.ranks x l)

  ranked_clashes : Clashes H
  unfolding degree neighbours
  ranked_clashes = record {
    most = plan.clashes.most;
    symmetric = plan.clashes.symmetric;
    apart = plan.clashes.apart;
    few = plan.clashes.few;
    ranks = λ x l. low x l (ℕ_discrete x b);
  }

  pub ranked_plan : (cap : ℕ) → PlanOf H (plan_in H s) (tally_of cap H)
  ranked_plan cap = plan_in-law cap H s ranked_clashes plan.long

-- the answers of `rank_held`
module _ {begun : Bool} {b r : ℕ} {t : Tally} {rs : List ℕ} {e : Edited} where
  pub rank_late : begun ≡ true → (e.answer ≡ no_edit 18) × (e.tally ≡ t) → RankDone begun b r t rs rs e
  unfolding first_no ranks_by
  rank_late q d = record { answer = rw q d.0; ranks = rw q refl; tally = d.1 }

  pub rank_far : begun ≡ false → t.banks ≤ b → (e.answer ≡ no_edit 4) × (e.tally ≡ t) → RankDone begun b r t rs rs e
  unfolding first_no ranks_by
  rank_far q l d = record { answer = rw (q, le-ltb b t.banks l) d.0; ranks = rw (q, le-ltb b t.banks l) refl; tally = d.1 }

pub rank_done : {begun : Bool} {b r at : ℕ} {t : Tally} {rs : List ℕ} → begun ≡ false → b < t.banks → at ≡ b
    → RankDone begun b r t rs (set rs at r) (record { answer = no_edit 0; tally = t })
unfolding first_no ranks_by
rank_done {begun} {b} {r} {at} {t} {rs} q l e = record {
  answer = rw (q, lt-ltb b t.banks l) refl;
  ranks = rw (q, lt-ltb b t.banks l, e) refl;
  tally = refl;
}

-- what `rank_held` asks
pub ranks_wide : (G : Graph) (m : Memory) → Ready G m → m.tally.banks ≤ length m.slices.ranks
ranks_wide G m ready =
    let h = held_of G m.slices m.tally ready.plan in
    omega (arith, h.banks, h.ranked.wide)

pub rank_of-law : {e : Entry} {b : Bank} {r : ℕ} → e ≡ Rank b r → RankFits e → r ≤ 9999
rank_of-law e f = rw e at f

-- an edit is the entry of a clash
pub clash_entered : (k : Kind) (begun : Bool) (a b : Bank) (G : Graph) (m : Memory) (r : Edited) (m' : Memory)
    → EditMade k G a.0 b.0 m r m' → Fresh begun G → EntryDone (Clash k a b) (at begun G m) r.answer.number m'
unfolding entry_number enter
clash_entered k begun a b G m r m' e f = let d = edit_made k begun G a.0 b.0 m r m' e f in record { is = d.0; stands = d.1 }

-- where a pass stands: memory holds the plan of its clashes, and before the first edit there is none
pub record Sound (s : State) : Type 0 where
  pub holding : Holding s
  pub fresh : Fresh s.begun s.graph

pub begin_sound : (n : ℕ) (m : Memory) → begin_number n m ≡ 0 → Sound (begin n m)
unfolding begin
begin_sound n m z = record { holding = begin_holds n m z; fresh = λ f. none_clash n }

pub make_sound : (k : Kind) (a b : ℕ) (s : State) → Holding s → edit_number k s.graph a b ≡ 0 → Sound (make k a b s)
make_sound k a b s h z = record { holding = make_kept k a b s h z; fresh = unfold make in not_fresh (edited k s.graph a b) }

rank_passed : (begun : Bool) (b n : ℕ) → rank_number begun b n ≡ 0 → (begun ≡ false) × (b < n)
rank_passed begun b n z =
    let p = none (not begun) 17 (record { holds = ltb b n; number = 4 } ∷ []) z in
    let q = none (ltb b n) 3 [] p.1 in
    (not-true begun p.0, ltb-true b n q.0)

-- an entry to which no refusal is due keeps it so
pub enter_sound : (e : Entry) (s : State) → Sound s → RankFits e → entry_number e s ≡ 0 → Sound (enter e s)
unfolding enter entry_number set_rank
enter_sound (Clash k a b) s h f z = make_sound k a.0 b.0 s h.holding z
enter_sound (Rank b r) s h f z =
    let p = rank_passed s.begun b.0 s.graph.banks z in
    record { holding = ranked_plan (h.fresh p.0) h.holding b.0 r p.1 f s.memory.tally.cap; fresh = λ q. h.fresh q }

module _ (begun : Bool) (b : Bank) (r : ℕ) {G : Graph} {m : Memory} (ready : Ready G m) (fresh : Fresh begun G) (fits : r ≤ 9999) where
  number_is : rank_number begun b.0 m.tally.banks ≡ entry_number (Rank b r) (at begun G m)
  unfolding entry_number
  number_is = ap (λ (n : ℕ). rank_number begun b.0 n) (ready_banks G m ready)

  passed : rank_number begun b.0 m.tally.banks ≡ 0 → (begun ≡ false) × (b.0 < G.banks)
  passed z =
      let p = rank_passed begun b.0 m.tally.banks z in
      (p.0, omega (arith, p.1, ready_banks G m ready))

  abbrev left : List ℕ → Tally → Memory
  left rs t = memory_of (slices_of m.slices.neighbours m.slices.degrees m.slices.waves m.slices.counts rs) m.trail m.moved t

  stands_by : (n : ℕ) → rank_number begun b.0 m.tally.banks ≡ n
      → Stands (tried n (enter (Rank b r) (at begun G m)) (at begun G m)) (left (ranks_by n b.0 r m.slices.ranks) m.tally)
  unfolding tried enter set_rank ranks_by
  stands_by zero z =
      let p = passed z in
      let bare = fresh p.0 in
      let cells = ranked_cells bare ready.plan b.0 r p.1 fits in
      let tally = ranked_tally bare ready.plan b.0 r p.1 fits in
      record {
        memory = λ i. memory_of (cells i) m.trail m.moved (tally i);
        ready = record {
          plan = rw cells (subst (PlanOf (ranked G b.0 r) (plan_in (ranked G b.0 r) m.slices)) (sym tally) (ranked_plan bare ready.plan b.0 r p.1 fits m.tally.cap));
          trail_room = ready.trail_room;
          moved_room = ready.moved_room;
        };
        fresh = λ f. fresh f;
      }
  stands_by (suc c) z = record { memory = refl; ready = ready; fresh = fresh }

  -- what `rank_held` did is what entering a rank is to do
  pub rank_entered : {e : Edited} {rs' : List ℕ} → RankDone begun b.0 r m.tally m.slices.ranks rs' e
      → EntryDone (Rank b r) (at begun G m) e.answer.number (left rs' e.tally)
  rank_entered d = record {
    is = ap (λ a. a.number) d.answer ∙ number_is;
    stands = rw (d.ranks, d.tally, ← number_is) (stands_by (rank_number begun b.0 m.tally.banks) refl);
  }
