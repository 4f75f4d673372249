-- From rows and degrees that are written to the plan of the new clashes.
use mathlib.Core.Bool.{Bool, false, cond, ◌||◌}
use mathlib.Core.List.{List, []}
use mathlib.Core.Logic.{inl, inr}
use mathlib.Core.Path.{◌≡◌, refl, sym, ap, ap₂, ◌∙◌}
use Prim.Native.Nat.{ℕ, ◌+◌, ◌*◌, ◌/◌, ◌%◌, ◌≤◌, ◌<◌}
use native.Mathlib.Nat.{div-add-mod'}
use native.Mathlib.Omega.{arith}
use lib.ListN.{length, get_or, take}
use Rattle.rule.specs.Lists.{memb, filter}
use Rattle.rule.specs.Graph.{Graph, neighbours, degree, earlier_neighbours}
use Rattle.rule.specs.Wave.{wave, wave_count}
use Rattle.rule.specs.Reach.{edited, changed, on_trail, trail, moved}
use Rattle.rule.specs.declared.Kind.{Kind}
use Rattle.rule.specs.WorkList.{OneEdit, seed, taken, WorkList}
use Rattle.rule.proofs.Booleans.{t_along, passes?}
use Rattle.rule.proofs.Lists.{in_none}
use Rattle.rule.proofs.Reaches.{ordered_few}
use Rattle.rule.proofs.Spread.{same_neighbours}
use Rattle.rule.proofs.Waves.{earlier_neighbours_in}
use Rattle.rule.proofs.Theorems.{wave_small, start, edited_one, trail_taken}
use Rattle.memory.specs.declared.Tally.{Tally}
use Rattle.memory.specs.Cells.{over, Beyond}
use Rattle.memory.specs.inner.Counts.{standing, most_of}
use Rattle.memory.specs.Plan.{slices_of, neighbour_cells, degree_cells, rank_cells, clash_count, tally_of, plan_in, PlanOf}
use Rattle.memory.specs.inner.View.{Ranked, Rowed, Shown}
use Rattle.memory.proofs.Cells.{cells_over}
use Rattle.memory.proofs.Fronts.{beyond_refl, over_long}
use Rattle.memory.proofs.Standing.{standing_cong}
use Rattle.memory.proofs.Theorems.{shown, wave_count_is, held_of, plan_of}
use Rattle.steps.specs.declared.can_step.Progress.{Progress}
use Rattle.neighbour_rows.specs.declared.clash.Degrees.{Degrees}
use Rattle.memory.specs.Memory.{Memory, memory_of}
use Rattle.edits.specs.Edits.{Editable, Outcome}
use Rattle.queue.specs.Queue.{waits, Idle}
use Rattle.neighbour_rows.specs.Rewritten.{Rewritten}
use Rattle.recolouring.specs.inner.Tops.{Top}
use Rattle.steps.specs.inner.Work.{Edit, new, begun, Working, Settled}
use Rattle.edits.specs.inner.Recount.{with_counts}
use Rattle.edits.specs.inner.Seeds.{Seedable, Seeded}
use Rattle.edits.specs.inner.Change.{Origin, edit_at, RowsChanged}
use Rattle.queue.proofs.Queues.{idle_queue, idle_empty}
use Rattle.recolouring.proofs.Notices.{memb_none}
use Rattle.recolouring.proofs.Tops.{top_of}

beyond_same : (k : ℕ) (xs was : List ℕ) → xs ≡ was → Beyond k xs was
beyond_same k xs was e = rw e (beyond_refl k was)

-- rows, degrees and ranks as whole slices
module _ {G : Graph} {ns ds was : List ℕ} (rd : Rowed G ns ds) where
  rows_over : Beyond (G.banks * 23) ns was → ns ≡ over (neighbour_cells G) was
  unfolding neighbour_cells
  rows_over beyond =
      let e : 23 * G.banks ≡ G.banks * 23 = omega arith in
      cells_over (23 * G.banks) (λ i. get_or (neighbours G (i / 23)) (i % 23) 65535) ns was (omega (arith, rd.wide_rows))
      (λ i l. ap (λ (k : ℕ). get_or ns k 0) (sym (div-add-mod' i 23)) ∙ rd.rows (i / 23) (i % 23) (omega arith) (omega arith)) (rw e beyond)

  degrees_over : Beyond G.banks ds was → ds ≡ over (degree_cells G) was
  unfolding degree_cells
  degrees_over beyond = cells_over G.banks (degree G) ds was rd.wide_degrees rd.degrees beyond

ranks_over : {G : Graph} {rs was : List ℕ} → Ranked G rs → rs ≡ was → rs ≡ over (rank_cells G) was
unfolding rank_cells
ranks_over {G} {rs} {was} rk e = cells_over G.banks G.rank rs was rk.wide rk.cells (beyond_same G.banks rs was e)

-- trail and moved name no more banks than there are
trail_few : (k : Kind) (old new : Graph) (a b : ℕ) → length (trail k old new a b) ≤ new.banks
unfolding trail
trail_few k old new a b = ordered_few new (on_trail k old new a b)

moved_few : (old new : Graph) → length (moved old new) ≤ new.banks
unfolding moved
moved_few old new = ordered_few new (changed old new)

-- a work-list by other tests that say the same
list_cong : (old new : Graph) (a b : ℕ) (done queued done' queued' : ℕ → Bool) → ((x : ℕ) → done x ≡ done' x) → ((x : ℕ) → x < new.banks → queued x ≡ queued' x)
    → WorkList old new a b done queued → WorkList old new a b done' queued'
list_cong old new a b done queued done' queued' d q l = record {
  seeds = λ x h s. t_along (ap₂ ◌||◌ (d x) (q x h)) (l.seeds x h s);
  spreads = λ v x hv hx t c u. t_along (ap₂ ◌||◌ (d x) (q x hx)) (l.spreads v x hv hx (t_along (sym (d v)) t) c u);
  only_taken = λ x h t. l.only_taken x h (t_along (sym (ap₂ ◌||◌ (d x) (q x h))) t);
  after = λ v x hv hx t u. l.after v x hv hx (t_along (sym (d v)) t) (t_along (sym (q x hx)) u);
}

filter_none : (p : ℕ → Bool) → [] ≡ filter p []
unfolding filter
filter_none p = refl

module _ {e : Edit} {m : Memory} {before : Degrees} {t : Tally} (ch : RowsChanged e m before t) where
  abbrev G : Graph
  G = new e

  abbrev n : ℕ
  n = t.banks

  edit : OneEdit e.old G e.a e.b
  edit = edited_one e.old ch.held.rowed.symmetric e.a e.b ch.acceptable.bank_a ch.acceptable.bank_b ch.acceptable.differ e.kind

  banks : n ≡ G.banks
  banks = ch.held.banks ∙ edit.same_banks

  -- the edit changes no rank
  ranks_kept : Ranked G m.slices.ranks
  ranks_kept = record {
    wide = rw ch.same_ranks (omega (arith, ch.held.ranked.wide, edit.same_banks));
    cells = λ b l. rw ch.same_ranks (ch.held.ranked.cells b (omega (arith, edit.same_banks)) ∙ edit.same_ranks b l);
  }

  shows : Shown G m.slices.neighbours m.slices.degrees m.slices.ranks
  shows = shown ch.rewritten.rowed ranks_kept

  stored : (x : ℕ) → x < G.banks → get_or m.slices.waves x 0 ≡ wave e.old x
  stored x l = rw ch.same_waves (ch.held.waves x (omega (arith, edit.same_banks)))

  small : (x : ℕ) → x < G.banks → wave e.old x < 24
  small x l =
      let k : x < e.old.banks = omega (arith, edit.same_banks) in
      omega (arith, wave_small e.old x k (ch.held.rowed.small x k))

  -- the highest wave by the tally
  top_before : Top (new e).banks m.slices.waves (begun t.waves).top
  top_before =
      let was : most_of m.slices.waves e.old.banks ≡ wave_count e.old = wave_count_is e.old m.slices.waves (λ x l. rw ch.same_waves (ch.held.waves x l)) in
      top_of m.slices.waves (omega (arith, ch.acceptable.bank_a, edit.same_banks)) (ch.waves ∙ sym was ∙ ap (most_of m.slices.waves) edit.same_banks)

  -- before the seeds, with an idle queue
  pub seedable : {q : List ℕ} → Idle n m.slices.ranks q → Seedable e m.slices q n before
  seedable idle = record {
    edit = edit;
    counts = record {
      banks = banks;
      shown = shows;
      wide_waves = rw ch.same_waves ch.held.wide_waves;
      small = λ x h. (let l : x < G.banks = omega (arith, banks) in omega (arith, stored x l, small x l));
      wide_counts = rw ch.same_counts (omega (arith, ch.held.counted.wide_counts, edit.same_banks));
      queue = idle_queue idle G banks ranks_kept.cells;
      right = λ x c l t h. absurd (t_along (idle_empty idle G banks ranks_kept.cells x l) t);
      kept = λ x c l t h. refl;
      beyond = beyond_refl ((new e).banks * 24) m.slices.counts;
    };
    empty = λ x h. idle_empty idle G banks ranks_kept.cells x (omega (arith, banks));
    bank_a = omega (arith, ch.acceptable.bank_a, ch.held.banks);
    bank_b = omega (arith, ch.acceptable.bank_b, ch.held.banks);
    degree_a = ch.rewritten.degree_a;
    degree_b = ch.rewritten.degree_b;
  }

  module _ {cs q : List ℕ} (sd : Seeded e (with_counts m.slices cs) m.slices.counts q n) where
    seeds_are : (x : ℕ) → x < G.banks → waits G q x ≡ seed e.old G e.a e.b x
    seeds_are x l = sd.seeds x (omega (arith, banks))

    -- a bank that is no seed has the earlier neighbours that it had
    cell_is : (x c : ℕ) → x < G.banks → c < 24 → get_or cs (x * 24 + c) 0 ≡ standing (λ v. get_or m.slices.waves v 0) c (earlier_neighbours G x)
    cell_is x c lx lc =
        elim (passes? (waits G q x)) [
          | inl i ↦ sd.counts.right x c lx i lc
          | inr f ↦
              sd.counts.kept x c lx f lc ∙ ap (λ (xs : List ℕ). get_or xs (x * 24 + c) 0) ch.same_counts
              ∙ ch.held.counted.cell x c (omega (arith, edit.same_banks)) lc
              ∙ ap (standing (wave e.old) c) (same_neighbours e.old G e.a e.b edit x lx (λ s. f (t_along (sym (seeds_are x lx)) s)))
              ∙ standing_cong (wave e.old) (λ v. get_or m.slices.waves v 0) c (earlier_neighbours G x) (λ v i. sym (stored v (earlier_neighbours_in G x v i).0))
        ]

    pub working : Working e (memory_of (with_counts m.slices cs) m.trail m.moved m.tally) q (begun t.waves)
    working = record {
      edit = edit;
      shown = shows;
      queue = sd.counts.queue;
      list = list_cong e.old G e.a e.b (λ x. false) (seed e.old G e.a e.b) (λ x. memb x (take 0 m.trail)) (waits G q)
          (λ x. sym (memb_none x)) (λ x l. sym (seeds_are x l)) (start e.old G e.a e.b edit);
      wide_waves = omega (arith, sd.counts.wide_waves, banks);
      stored = λ x l. stored x l ∙ ap (λ (b : Bool). cond b (wave G x) (wave e.old x)) (sym (memb_none x));
      small = small;
      waves_beyond = beyond_same G.banks m.slices.waves e.was.slices.waves ch.same_waves;
      counted = record { wide_counts = sd.counts.wide_counts; cell = cell_is };
      counts_beyond = rw (← ch.same_counts) sd.counts.beyond;
      wide_trail = rw ch.same_trail (omega (arith, ch.wide_trail, banks));
      room = omega arith;
      names = λ x i. absurd (in_none x i);
      sorted = tt;
      trail_beyond = beyond_same 0 m.trail e.was.trail ch.same_trail;
      wide_moved = rw ch.same_moved (omega (arith, ch.wide_moved, banks));
      few = omega arith;
      moves = filter_none (changed e.old G);
      moved_beyond = beyond_same 0 m.moved e.was.moved ch.same_moved;
      top = top_before;
    }

  -- the queue afterwards
  pub idle_after : {rs q : List ℕ} → Idle (new e).banks rs q → Idle n rs q
  idle_after idle = rw banks idle

  -- nothing waits
  module _ {ws cs tr mv : List ℕ} {p : Progress}
      (st : Settled e (memory_of (slices_of m.slices.neighbours m.slices.degrees ws cs m.slices.ranks) tr mv m.tally) p) where
    -- the tally, with k waves
    abbrev tallied : ℕ → Tally
    tallied k = record { banks = n; clashes = t.clashes; waves = k; cap = t.cap }

    pub count_in-law : n ≤ length ws
    count_in-law = omega (arith, st.wide_waves, banks)

    pub waves_small : (x : ℕ) → x < n → get_or ws x 0 < 24
    waves_small x h =
        let l : x < G.banks = omega (arith, banks) in
        omega (arith, st.stored x l, wave_small G x l (ch.rewritten.rowed.small x l))

    pub top_after : Top n ws p.top
    top_after = rw banks st.top

    pub few_taken : p.taken ≤ 1024
    few_taken = omega (arith, st.few, ch.rewritten.rowed.few)

    tally_is : (k : ℕ) → k ≡ most_of ws n → tallied k ≡ tally_of t.cap G
    unfolding tally_of
    tally_is k most =
        let number : k ≡ wave_count G = most ∙ ap (most_of ws) banks ∙ wave_count_is G ws st.stored in
        λ i. record { banks = banks i; clashes = ch.number i; waves = number i; cap = t.cap }

    pub outcome : (k : ℕ) → k ≡ most_of ws n → let u = tallied k in
        Outcome e.kind e.old (new e) e.a e.b e.was (memory_of (slices_of m.slices.neighbours m.slices.degrees ws cs m.slices.ranks) tr mv u)
        (record { moved = p.moved; trail = p.taken; tally = u })
    unfolding plan_in
    outcome k most = record {
      slices = λ i. record { neighbours = rows i; degrees = ds i; waves = st.right_waves i; counts = st.right_counts i; ranks = rs i };
      tally = tally_is k most ∙ ap (λ (c : ℕ). tally_of c G) ch.cap;
      trail = trail_is;
      moved = st.right_moved;
      trail_count = rw bridge st.trail_count;
      moved_count = st.moved_count;
      ready = record { plan = plan k most; trail_room = trail_room-law; moved_room = moved_room-law };
    }
      where
        same : e.old.banks ≡ G.banks
        same = edit.same_banks

        rows : m.slices.neighbours ≡ over (neighbour_cells G) e.was.slices.neighbours
        rows = rows_over ch.rewritten.rowed (rw (← same) ch.rewritten.rows_beyond)

        ds : m.slices.degrees ≡ over (degree_cells G) e.was.slices.degrees
        ds = degrees_over ch.rewritten.rowed (rw (← same) ch.rewritten.degrees_beyond)

        rs : m.slices.ranks ≡ over (rank_cells G) e.was.slices.ranks
        rs = ranks_over ranks_kept ch.same_ranks

        bridge : trail e.kind e.old G e.a e.b ≡ taken e.old G e.a e.b
        bridge =
            let ac = ch.acceptable in
            trail_taken e.old ch.held.rowed.symmetric e.a e.b ac.bank_a ac.bank_b ac.differ e.kind ac.allowed

        trail_is : tr ≡ over (trail e.kind e.old G e.a e.b) e.was.trail
        trail_is = rw bridge st.right_trail

        plan : (k : ℕ) → k ≡ most_of ws n → PlanOf G (slices_of m.slices.neighbours m.slices.degrees ws cs m.slices.ranks) (tallied k)
        plan k most =
            plan_of G _ (tallied k) n
            (record {
              banks = banks;
              rowed = ch.rewritten.rowed;
              wide_waves = count_in-law;
              waves = st.stored;
              counted = st.counted;
              ranked = ranks_kept;
              low = λ x l. omega (arith, ch.held.low x (omega (arith, edit.same_banks)), edit.same_ranks x l);
            })
            (tally_is k most)

        trail_room-law : G.banks ≤ length tr
        trail_room-law =
            let few = trail_few e.kind e.old G e.a e.b in
            omega (arith, banks, ch.wide_trail, over_long _ tr e.was.trail (omega (arith, few, banks, ch.wide_trail)) trail_is)

        moved_room-law : G.banks ≤ length mv
        moved_room-law =
            let few = moved_few e.old G in
            omega (arith, banks, ch.wide_moved, over_long _ mv e.was.moved (omega (arith, few, banks, ch.wide_moved)) st.right_moved)

-- what was found, and what is to be propagated
abbrev pub origin_of : Kind → Graph → Memory → Origin
origin_of k G m = record { kind = k; graph = G; memory = m }

pub rowed_before : {k : Kind} {G : Graph} {m : Memory} {a b : ℕ} → Editable k G m a b → Rowed G m.slices.neighbours m.slices.degrees
rowed_before {G = G} {m = m} ed = (held_of G m.slices m.tally ed.ready.plan).rowed

-- the tally with another number of clashes
abbrev pub with_clashes : Tally → ℕ → Tally
with_clashes t clashes = record { banks = t.banks; clashes = clashes; waves = t.waves; cap = t.cap }

pub changed_from : {k : Kind} {G : Graph} {m : Memory} {a b : ℕ} {ns ds : List ℕ} {before : Degrees} {clashes : ℕ}
    → Editable k G m a b → Rewritten k G a b m.slices.neighbours m.slices.degrees ns ds before → clashes ≡ clash_count (edited k G a b)
    → RowsChanged (edit_at (origin_of k G m) a b) (memory_of (slices_of ns ds m.slices.waves m.slices.counts m.slices.ranks) m.trail m.moved m.tally)
    before (with_clashes m.tally clashes)
unfolding tally_of
changed_from {G = G} {m = m} ed rewritten number =
    let held = held_of G m.slices m.tally ed.ready.plan in
    record {
      acceptable = ed.acceptable;
      held = held;
      rewritten = rewritten;
      same_waves = refl;
      same_counts = refl;
      same_ranks = refl;
      same_trail = refl;
      same_moved = refl;
      wide_trail = omega (arith, held.banks, ed.ready.trail_room);
      wide_moved = omega (arith, held.banks, ed.ready.moved_room);
      number = number;
      waves = ap (λ (u : Tally). u.waves) ed.ready.plan.tally;
      cap = refl;
    }
