-- The neighbours whose order turned over, and the seeds.
use mathlib.Core.Bool.{Bool, true, false, ◌&&◌, ◌||◌, not, beq}
use mathlib.Core.List.{List}
use mathlib.Core.Logic.{◌≢◌}
use mathlib.Core.Path.{◌≡◌, refl, sym, ap, ◌∙◌}
use Prim.Native.Nat.{ℕ, ◌+◌, ◌*◌, ◌≤◌, ◌<◌}
use native.Mathlib.Omega.{arith}
use lib.Dec.{T, eqb, eqb→eq}
use lib.ListN.{length, get_or, take}
use Rattle.rule.specs.Lists.{memb}
use Rattle.rule.specs.Order.{earlier_by}
use Rattle.rule.specs.Graph.{Graph, neighbours, degree, earlier}
use Rattle.rule.specs.Reach.{is_named}
use Rattle.rule.specs.WorkList.{turned, seed}
use Rattle.rule.proofs.Booleans.{or_l, or_r, is_true, t_along, eq→eqb, or_false}
use Rattle.rule.proofs.Neighbours.{memb_neighbours}
use Rattle.rule.proofs.Spread.{degree_elsewhere}
use Rattle.memory.specs.inner.Counts.{by_cells}
use Rattle.memory.specs.Plan.{Slices}
use Rattle.memory.proofs.Theorems.{cells_earlier}
use Rattle.neighbour_rows.specs.declared.clash.Degrees.{Degrees}
use Rattle.queue.specs.Queue.{waits}
use Rattle.edits.specs.inner.Recount.{Recounting, SeedQueued, with_counts}
use Rattle.steps.specs.inner.Work.{Edit, new}
use Rattle.edits.specs.inner.Seeds.{turned_from, Search, Turning, Seedable, Seeded}
use Rattle.recolouring.proofs.Notices.{memb_none, more_and}
use Rattle.recolouring.proofs.Shows.{cell_inside, cell_bank, cell_degree, row_memb, whole_row}

-- one more that fails the test
no_and : (s t e : Bool) → (T t → T e → ⊥) → (s && e) ≡ ((s || t) && e)
no_and true t e h = refl
no_and false true true h = absurd (h tt tt)
no_and false true false h = refl
no_and false false e h = refl

module _ {from : Search} {s : Slices} {queue : List ℕ} {n y d i : ℕ} (tn : Turning from s queue n y d i) where
  y_bank : y < from.graph.banks
  y_bank = omega (arith, tn.bank, tn.counts.banks)

  pub y_inside : y < length s.degrees
  y_inside = omega (arith, y_bank, tn.counts.shown.wide_degrees)

  pub y_rank : y < length s.ranks
  y_rank = omega (arith, y_bank, tn.counts.shown.ranked.wide)

  pub y_small : get_or s.degrees y 0 ≤ 23
  y_small = omega (arith, tn.counts.shown.degrees y y_bank, tn.counts.shown.small y y_bank)

module _ {from : Search} {s : Slices} {queue : List ℕ} {n y d i : ℕ} (tn : Turning from s queue n y d i) (lt : i < get_or s.degrees y 0) where
  abbrev v : ℕ
  v = get_or s.neighbours (y * 23 + i) 0

  pub in_row : y * 23 + i < length s.neighbours
  in_row = cell_inside tn.counts.shown y i (y_bank tn) lt

  pub v_degree : v < length s.degrees
  v_degree = cell_degree tn.counts.shown y i (y_bank tn) lt

  pub v_rank : v < length s.ranks
  v_rank = omega (arith, cell_bank tn.counts.shown y i (y_bank tn) lt, tn.counts.shown.ranked.wide)

  pub v_bank : v < n
  v_bank = omega (arith, cell_bank tn.counts.shown y i (y_bank tn) lt, tn.counts.banks)

  next_memb : (x : ℕ) → memb x (take (i + 1) (neighbours from.graph y)) ≡ (memb x (take i (neighbours from.graph y)) || eqb x v)
  next_memb = row_memb tn.counts.shown y i (y_bank tn) lt

  -- what the two tests say
  module _ {was is : Bool} (p : was ≡ earlier_by (get_or s.degrees v 0) (get_or s.ranks v 0) v d (get_or s.ranks y 0) y) (r : is ≡ by_cells s.degrees s.ranks v y) where
    tests : turned_from s.degrees s.ranks d y v ≡ not (beq was is)
    unfolding turned_from
    tests = rw (p, r)

    pub not_turned : beq was is ≡ true → T (turned_from s.degrees s.ranks d y v) → ⊥
    not_turned e u = t_along (tests ∙ ap not e) u

    pub has_turned : beq was is ≡ false → T (turned_from s.degrees s.ranks d y v)
    has_turned e = t_along (sym (tests ∙ ap not e)) tt

  pub passed : (T (turned_from s.degrees s.ranks d y v) → ⊥) → Turning from s queue n y d (i + 1)
  passed kept = record {
    counts = tn.counts;
    bank = tn.bank;
    members = λ x h. tn.members x h ∙ ap (λ (b : Bool). from.given x || b)
        (no_and (memb x (take i (neighbours from.graph y))) (eqb x v) (turned_from s.degrees s.ranks d y x) (λ u e. kept (rw (eqb→eq x v u) at e))
        ∙ ap (λ (b : Bool). b && turned_from s.degrees s.ranks d y x) (sym (next_memb x)));
  }

  pub queued : T (turned_from s.degrees s.ranks d y v) → {cs' queue' : List ℕ}
      → SeedQueued from.graph (with_counts s cs') from.counts queue queue' n v → Turning from (with_counts s cs') queue' n y d (i + 1)
  queued went re = record {
    counts = re.counts;
    bank = tn.bank;
    members = λ x h. re.put.members x (omega (arith, tn.counts.banks)) ∙ ap (λ (b : Bool). b || eqb x v) (tn.members x h)
        ∙ more_and (from.given x) (memb x (take i (neighbours from.graph y))) (eqb x v) (turned_from s.degrees s.ranks d y x) true (λ u. rw (eqb→eq x v u) (sym (is_true _ went)))
        ∙ ap (λ (b : Bool). from.given x || (b && turned_from s.degrees s.ranks d y x)) (sym (next_memb x));
  }

-- nothing looked at yet
abbrev search_of : Graph → List ℕ → List ℕ → Search
search_of G was queue = record { graph = G; counts = was; given = waits G queue }

turn_start : {G : Graph} {s : Slices} {was queue : List ℕ} {n : ℕ} (y d : ℕ) → Recounting G s was queue n → y < n
    → Turning (search_of G was queue) s queue n y d 0
turn_start {G} {s} {queue = queue} y d rc bank = record {
  counts = rc;
  bank = bank;
  members = λ x h. sym (or_false (waits G queue x)) ∙ ap (λ (t : Bool). waits G queue x || (t && turned_from s.degrees s.ranks d y x)) (sym (memb_none x));
}

-- the parts of a seed, one by one
seed_parts : (p q s t s' t' : Bool) → ((T (p || q) → ⊥) → s ≡ s') → ((T (p || q) → ⊥) → t ≡ t') → ((((false || p) || q) || s) || t) ≡ ((p || q) || (s' || t'))
seed_parts true q s t s' t' h k = refl
seed_parts false true s t s' t' h k = refl
seed_parts false false s t s' t' h k = let e = h (λ u. u) in let f = k (λ u. u) in cc

was_earlier : (H : Graph) (dx rx d ry x y : ℕ) → dx ≡ degree H x → rx ≡ H.rank x → d ≡ degree H y → ry ≡ H.rank y → earlier_by dx rx x d ry y ≡ earlier H x y
unfolding earlier
was_earlier H dx rx d ry x y e r f k = cc

module _ {e : Edit} {s : Slices} {queue : List ℕ} {n : ℕ} {before : Degrees} (sd : Seedable e s queue n before) where
  abbrev G : Graph
  G = new e

  -- a neighbour of y, which is a or b, that is neither: its order turned as `turned` says
  turned_is : (y d x : ℕ) → y < G.banks → d ≡ degree e.old y → x < G.banks → x ≢ e.a → x ≢ e.b
      → (memb x (take (get_or s.degrees y 0) (neighbours G y)) && turned_from s.degrees s.ranks d y x) ≡ turned e.old G y x
  unfolding turned turned_from
  turned_is y d x ly is lx na nb =
      ap (λ (xs : List ℕ). memb x xs && turned_from s.degrees s.ranks d y x) (whole_row sd.counts.shown y ly)
      ∙ ap (λ (t : Bool). t && turned_from s.degrees s.ranks d y x) (memb_neighbours G y x lx)
      ∙ ap (λ (t : Bool). G.clash y x && not (beq t (by_cells s.degrees s.ranks x y))) was
      ∙ ap (λ (t : Bool). G.clash y x && not (beq (earlier e.old x y) t)) (cells_earlier sd.counts.shown x y lx ly)
    where
      rank_was : (z : ℕ) → z < G.banks → get_or s.ranks z 0 ≡ e.old.rank z
      rank_was z lz = sd.counts.shown.ranked.cells z lz ∙ sym (sd.edit.same_ranks z lz)

      was : earlier_by (get_or s.degrees x 0) (get_or s.ranks x 0) x d (get_or s.ranks y 0) y ≡ earlier e.old x y
      was =
          was_earlier e.old (get_or s.degrees x 0) (get_or s.ranks x 0) d (get_or s.ranks y 0) x y
          (sd.counts.shown.degrees x lx ∙ sym (degree_elsewhere e.old G e.a e.b sd.edit x lx na nb)) (rank_was x lx) is (rank_was y ly)

  module _ {cs1 q1 cs2 q2 : List ℕ} (one : SeedQueued (new e) (with_counts s cs1) s.counts queue q1 n e.a)
      (two : SeedQueued (new e) (with_counts s cs2) s.counts q1 q2 n e.b) where
    pub turn_a : Turning (search_of (new e) s.counts q2) (with_counts s cs2) q2 n e.a before.a 0
    turn_a = turn_start e.a before.a two.counts sd.bank_a

    module _ {cs3 q3 : List ℕ} (ta : Turning (search_of (new e) s.counts q2) (with_counts s cs3) q3 n e.a before.a (get_or s.degrees e.a 0)) where
      pub turn_b : Turning (search_of (new e) s.counts q3) (with_counts s cs3) q3 n e.b before.b 0
      turn_b = turn_start e.b before.b ta.counts sd.bank_b

      pub seeded : {cs4 q4 : List ℕ} → Turning (search_of (new e) s.counts q3) (with_counts s cs4) q4 n e.b before.b (get_or s.degrees e.b 0)
          → Seeded e (with_counts s cs4) s.counts q4 n
      unfolding seed is_named
      seeded {cs4} {q4} tb = record {
        counts = tb.counts;
        seeds = λ x h.
            let l : x < G.banks = omega (arith, sd.counts.banks) in
            let la : e.a < G.banks = omega (arith, sd.bank_a, sd.counts.banks) in
            let lb : e.b < G.banks = omega (arith, sd.bank_b, sd.counts.banks) in
            let na : (T (eqb x e.a || eqb x e.b) → ⊥) → x ≢ e.a = λ f k. f (or_l (eqb x e.a) (eqb x e.b) (eq→eqb x e.a k)) in
            let nb : (T (eqb x e.a || eqb x e.b) → ⊥) → x ≢ e.b = λ f k. f (or_r (eqb x e.a) (eqb x e.b) (eq→eqb x e.b k)) in
            tb.members x h
            ∙ ap (λ (t : Bool). t || (memb x (take (get_or s.degrees e.b 0) (neighbours G e.b)) && turned_from s.degrees s.ranks before.b e.b x)) (ta.members x h
            ∙ ap (λ (t : Bool). t || (memb x (take (get_or s.degrees e.a 0) (neighbours G e.a)) && turned_from s.degrees s.ranks before.a e.a x)) (two.put.members x l
            ∙ ap (λ (t : Bool). t || eqb x e.b) (one.put.members x l ∙ ap (λ (t : Bool). t || eqb x e.a) (sd.empty x h))))
            ∙ seed_parts (eqb x e.a) (eqb x e.b) _ _ (turned e.old G e.a x) (turned e.old G e.b x)
            (λ f. turned_is e.a before.a x la sd.degree_a l (na f) (nb f))
            (λ f. turned_is e.b before.b x lb sd.degree_b l (na f) (nb f));
      }
