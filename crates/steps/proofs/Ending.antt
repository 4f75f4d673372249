-- The work-list when nothing waits.
use mathlib.Core.Bool.{Bool, true, false, ◌&&◌}
use mathlib.Core.List.{List}
use mathlib.Core.Logic.{inl, inr}
use mathlib.Core.Path.{◌≡◌, sym, ap, ◌∙◌}
use Prim.Native.Nat.{ℕ, ◌*◌, ◌/◌, ◌%◌, ◌≤◌, ◌<◌}
use native.Mathlib.Nat.{div-add-mod'}
use native.Mathlib.Omega.{arith}
use lib.Dec.{T, eqb, ltb, ltb→lt, lt→ltb}
use lib.ListN.{length, get_or, take, length-take}
use Rattle.rule.specs.Lists.{memb, filter}
use Rattle.rule.specs.Graph.{Graph, earlier, earlier_neighbours}
use Rattle.rule.specs.Wave.{wave, waves}
use Rattle.rule.specs.Reach.{changed, moved}
use Rattle.rule.specs.WorkList.{is_taken, taken}
use Rattle.rule.proofs.Booleans.{and_l, and_r, both, t_along, test_ext, passes?, cond_yes, cond_no}
use Rattle.rule.proofs.Sorting.{sorted_filter, memb_filter}
use Rattle.rule.proofs.Spread.{not_taken}
use Rattle.rule.proofs.Waves.{earlier_neighbours_in}
use Rattle.rule.proofs.Theorems.{settled_end, done_is_taken, is_taken-law, is_moved}
use Rattle.memory.specs.Cells.{cells, over, Beyond}
use Rattle.memory.specs.inner.Counts.{standing}
use Rattle.memory.specs.Plan.{count_cells}
use Rattle.memory.specs.inner.View.{Counted}
use Rattle.memory.proofs.Cells.{cells_over}
use Rattle.memory.proofs.Fronts.{front_over}
use Rattle.steps.specs.declared.can_step.Progress.{Progress}
use Rattle.memory.specs.Memory.{Memory}
use Rattle.queue.specs.Queue.{waits, Queue, Keyed, Empty, TellsEmpty, Idle}
use Rattle.steps.specs.inner.Work.{Edit, new, Working, Steppable, Settled}
use Rattle.queue.proofs.Queues.{none_waits, some_waits, queue_idle}
use Rattle.recolouring.proofs.Counting.{counted_cong}
use Rattle.recolouring.proofs.Shows.{keyed}
use Rattle.steps.proofs.Stepping.{changed_not}

-- r tells whether the queue is empty, whichever clashes it is of
abbrev Tells : List ℕ → Bool → Type 0
Tells q r = (G : Graph) → Keyed G → Queue G q → TellsEmpty G q r

-- Counts as a whole slice
counts_over : (G : Graph) (cs was : List ℕ) → Counted G cs (λ b v. wave G v) → Beyond (G.banks * 24) cs was → cs ≡ over (count_cells G) was
unfolding count_cells standing
counts_over G cs was ct beyond =
    let e : 24 * G.banks ≡ G.banks * 24 = omega arith in
    cells_over (24 * G.banks) (λ i. length (filter (λ v. eqb (wave G v) (i % 24)) (earlier_neighbours G (i / 24)))) cs was (omega (arith, ct.wide_counts))
    (λ i l. ap (λ (k : ℕ). get_or cs k 0) (sym (div-add-mod' i 24)) ∙ ct.cell (i / 24) (i % 24) (omega arith) (omega arith)) (rw e beyond)

-- what `is_empty` said, where the code tests its denial
module _ {e : Edit} {m : Memory} {q : List ℕ} {p : Progress} (wk : Working e m q p) {r : Bool} (tells : Tells q r) where
  pub steppable : r ≡ false → Steppable e m q p
  steppable more = record {
    working = wk;
    waiting =
        some_waits (tells (new e) (keyed wk.shown) wk.queue) (keyed wk.shown) wk.queue wk.shown.ranked.wide wk.shown.ranked.cells more;
  }

  empty : r ≡ true → Empty (new e) q
  empty = none_waits (tells (new e) (keyed wk.shown) wk.queue)

module _ {e : Edit} {m : Memory} {q : List ℕ} {p : Progress} (wk : Working e m q p) (none : Empty (new e) q) where
  abbrev G : Graph
  G = new e

  abbrev D : List ℕ
  D = take p.taken m.trail

  stored : (x : ℕ) → x < G.banks → get_or m.slices.waves x 0 ≡ wave G x
  stored x l =
      wk.stored x l ∙ elim (passes? (memb x D)) [
        | inl t ↦ cond_yes (memb x D) (wave G x) (wave e.old x) t
        | inr f ↦ cond_no (memb x D) (wave G x) (wave e.old x) f ∙ settled_end e.old G e.a e.b wk.edit (λ y. memb y D) (waits G q) wk.list none x l f
      ]

  counted : Counted G m.slices.counts (λ b v. wave G v)
  counted = counted_cong G m.slices.counts (λ b v. get_or m.slices.waves v 0) (λ b v. wave G v) (λ b v l i. stored v (earlier_neighbours_in G b v i).0) wk.counted

  all_waves : m.slices.waves ≡ over (waves G) e.was.slices.waves
  unfolding waves cells
  all_waves = cells_over G.banks (wave G) m.slices.waves e.was.slices.waves wk.wide_waves stored wk.waves_beyond

  members : (x : ℕ) → memb x D ≡ (ltb x G.banks && is_taken e.old G e.a e.b x)
  members x =
      let is : x < G.banks → memb x D ≡ is_taken e.old G e.a e.b x =
      done_is_taken e.old G e.a e.b wk.edit (λ y. memb y D) (waits G q) wk.list none x in
      test_ext (memb x D) (ltb x G.banks && is_taken e.old G e.a e.b x)
      (λ i. both (ltb x G.banks) _ (lt→ltb x G.banks (wk.names x i)) (t_along (is (wk.names x i)) i))
      (λ t. t_along (sym (is (ltb→lt x G.banks (and_l (ltb x G.banks) _ t)))) (and_r (ltb x G.banks) _ t))

  trail_is : take p.taken m.trail ≡ taken e.old G e.a e.b
  trail_is = is_taken-law e.old G e.a e.b D wk.sorted members

  -- a bank that changed is taken up
  changed_done : (x : ℕ) → x < G.banks → T (changed e.old G x) → T (memb x D)
  changed_done x l c =
      elim (passes? (memb x D)) [
        | inl i ↦ i
        | inr f ↦ absurd (changed_not e.old G x (not_taken e.old G e.a e.b wk.edit x l (λ t. f (t_along (sym (members x)) (both (ltb x G.banks) _ (lt→ltb x G.banks l) t)))) c)
      ]

  moved_is : take p.moved m.moved ≡ moved e.old G
  moved_is = wk.moves ∙ is_moved e.old G (filter (changed e.old G) D) (sorted_filter (earlier G) (changed e.old G) D wk.sorted) (λ x.
      memb_filter (changed e.old G) D x ∙ test_ext (memb x D && changed e.old G x) (ltb x G.banks && changed e.old G x)
      (λ t. both (ltb x G.banks) _ (lt→ltb x G.banks (wk.names x (and_l (memb x D) _ t))) (and_r (memb x D) _ t))
      (λ t. (let c = and_r (ltb x G.banks) _ t in both (memb x D) _ (changed_done x (ltb→lt x G.banks (and_l (ltb x G.banks) _ t)) c) c)))

  all_settled : Settled e m p
  all_settled =
      let lt : p.taken ≤ length m.trail = omega (arith, wk.room, wk.wide_trail) in
      let lm : p.moved ≤ length m.moved = omega (arith, wk.room, wk.wide_moved, wk.few) in
      record {
        right_waves = all_waves;
        right_counts = counts_over G m.slices.counts e.was.slices.counts counted wk.counts_beyond;
        right_trail = front_over p.taken m.trail e.was.trail (taken e.old G e.a e.b) trail_is lt wk.trail_beyond;
        right_moved = front_over p.moved m.moved e.was.moved (moved e.old G) moved_is lm wk.moved_beyond;
        trail_count = omega (arith, ap length trail_is, length-take p.taken m.trail);
        moved_count = omega (arith, ap length moved_is, length-take p.moved m.moved);
        few = wk.room;
        fewer = wk.few;
        wide_waves = wk.wide_waves;
        stored = stored;
        counted = counted;
        top = wk.top;
      }

pub settled : {e : Edit} {m : Memory} {q : List ℕ} {p : Progress} (wk : Working e m q p) {r : Bool} → Tells q r → r ≡ true
    → Settled e m p × Idle (new e).banks m.slices.ranks q
settled {m = m} wk tells end =
    let none = empty wk tells end in
    (all_settled wk none, queue_idle wk.queue none (keyed wk.shown) m.slices.ranks wk.shown.ranked.cells)
