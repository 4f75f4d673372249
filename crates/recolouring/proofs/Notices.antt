-- The later neighbours of a bank: what it is to notify them all, and one neighbour notified, if it is later.
use mathlib.Core.Bool.{Bool, true, false, cond, ◌&&◌, ◌||◌}
use mathlib.Core.List.{List, []}
use mathlib.Core.Path.{◌≡◌, refl, sym, ap, ap₂, ◌∙◌}
use Prim.Native.Nat.{ℕ, ◌+◌, ◌*◌, ◌≤◌, ◌<◌}
use native.Mathlib.Decide.{ℕ_discrete}
use native.Mathlib.Omega.{arith}
use lib.Dec.{T, eqb, eqb→eq}
use lib.ListN.{length, get_or, take}
use Rattle.rule.specs.Lists.{memb, some}
use Rattle.rule.specs.Order.{earlier_by}
use Rattle.rule.specs.Graph.{Graph, neighbours, earlier, earlier_neighbours}
use Rattle.rule.proofs.Booleans.{and_l, and_r, both, or_r, is_true, and_true, and_false, t_along, eq→eqb, cond_no, or_false}
use Rattle.rule.proofs.Neighbours.{neighbours_in, in_neighbours}
use Rattle.rule.proofs.Waves.{earlier_neighbours_in, in_earlier_neighbours}
use Rattle.memory.specs.inner.Counts.{by_cells}
use Rattle.memory.specs.inner.View.{Shown}
use Rattle.memory.proofs.Theorems.{cells_earlier}
use Rattle.queue.specs.Queue.{waits, Enqueuable, Enqueued}
use Rattle.recolouring.specs.Recolouring.{one_moved, later_neighbour, Notified}
use Rattle.recolouring.specs.inner.Notices.{Movable, Notice, Notifiable, Notifying}
use Rattle.recolouring.proofs.Counting.{moved_here, notified_elsewhere, notified_length}
use Rattle.recolouring.proofs.Shows.{cell_inside, cell_bank, cell_clash, cell_degree, cell_new, row_memb, whole_row, enqueuable_of}

pub memb_none : (x : ℕ) → memb x [] ≡ false
unfolding memb some
memb_none x = refl

-- one more, which is added if u, where u is the test of it
pub more_and : (g s t e u : Bool) → (T t → u ≡ e) → ((g || (s && e)) || (u && t)) ≡ (g || ((s || t) && e))
more_and true s t e u h = refl
more_and false true true true u h = refl
more_and false true true false u h = and_true u ∙ h tt
more_and false true false e u h = ap (λ (x : Bool). e || x) (and_false u) ∙ or_false e
more_and false false true e u h = and_true u ∙ h tt
more_and false false false e u h = and_false u

or_not : (s t : Bool) → (T t → ⊥) → (s || t) ≡ s
or_not true t h = refl
or_not false true h = absurd (h tt)
or_not false false h = refl

-- x is a later neighbour of b exactly if b is an earlier neighbour of x
module _ {G : Graph} {ns ds rs : List ℕ} (sh : Shown G ns ds rs) (b x : ℕ) where
  pub later_bank : T (later_neighbour G b x) → x < G.banks
  unfolding later_neighbour
  later_bank t = (neighbours_in G b x (and_l (memb x (neighbours G b)) (earlier G b x) t)).0

  pub later_counts : b < G.banks → T (later_neighbour G b x) → T (memb b (earlier_neighbours G x))
  unfolding later_neighbour
  later_counts bank t =
      let r = neighbours_in G b x (and_l (memb x (neighbours G b)) (earlier G b x) t) in
      in_earlier_neighbours G x b bank
      (both (G.clash x b) (earlier G b x) (t_along (sh.symmetric b x bank r.0) r.1) (and_r (memb x (neighbours G b)) (earlier G b x) t))

  pub counts_later : x < G.banks → T (memb b (earlier_neighbours G x)) → T (later_neighbour G b x)
  unfolding later_neighbour
  counts_later lx m =
      let r = earlier_neighbours_in G x b m in
      both (memb x (neighbours G b)) (earlier G b x)
      (in_neighbours G b x lx (t_along (sh.symmetric x b lx r.0) (and_l (G.clash x b) (earlier G b x) r.1)))
      (and_r (G.clash x b) (earlier G b x) r.1)

-- equal tests name the same banks
notified_cong : {G : Graph} {cs cs' q q' : List ℕ} {o w : ℕ} (f g : ℕ → Bool) → ((x : ℕ) → f x ≡ g x) → Notified G cs cs' q q' o w f → Notified G cs cs' q q' o w g
notified_cong {G} {cs} {q = q} {o = o} {w = w} f g same n = record {
  long = n.long;
  counts = λ x c l. n.counts x c l ∙ ap (λ (t : Bool). cond t (get_or (one_moved cs x o w) (x * 24 + c) 0) (get_or cs (x * 24 + c) 0)) (same x);
  queue = n.queue;
  members = λ x l. n.members x l ∙ ap (λ (t : Bool). waits G q x || t) (same x);
}

module _ {G : Graph} {ns ds rs cs q : List ℕ} {b : ℕ} {changed : Bool} {o w : ℕ} (nf : Notifiable G ns ds rs cs q b changed o w) where
  pub few_neighbours : get_or ds b 0 ≤ 23
  few_neighbours = omega (arith, nf.shown.degrees b nf.bank, nf.shown.small b nf.bank)

  -- no bank is notified
  pub none_notified : (f : ℕ → Bool) → ((x : ℕ) → f x ≡ false) → Notified G cs cs q q o w f
  none_notified f no_one = record {
    long = refl;
    counts = λ x c l. sym (ap (λ (t : Bool). cond t (get_or (one_moved cs x o w) (x * 24 + c) 0) (get_or cs (x * 24 + c) 0)) (no_one x));
    queue = nf.queue;
    members = λ x l. sym (or_false (waits G q x)) ∙ ap (λ (t : Bool). waits G q x || t) (sym (no_one x));
  }

module _ {s : Notice} {ns ds rs cs q : List ℕ} {h o w i : ℕ} (nt : Notifying s ns ds rs cs q h o w i) (lt : i < get_or ds h 0) where
  abbrev G : Graph
  G = s.graph

  abbrev N : List ℕ
  N = neighbours s.graph h

  abbrev v : ℕ
  v = get_or ns (h * 23 + i) 0

  pub in_row : h * 23 + i < length ns
  in_row = cell_inside nt.start.shown h i nt.start.bank lt

  v_bank : v < G.banks
  v_bank = cell_bank nt.start.shown h i nt.start.bank lt

  pub v_degree : v < length ds
  v_degree = cell_degree nt.start.shown h i nt.start.bank lt

  pub h_degree : h < length ds
  h_degree = omega (arith, nt.start.bank, nt.start.shown.wide_degrees)

  pub v_rank : v < length rs
  v_rank = omega (arith, v_bank, nt.start.shown.ranked.wide)

  pub h_rank : h < length rs
  h_rank = omega (arith, nt.start.bank, nt.start.shown.ranked.wide)

  next_memb : (x : ℕ) → memb x (take (i + 1) N) ≡ (memb x (take i N) || eqb x v)
  next_memb = row_memb nt.start.shown h i nt.start.bank lt

  order_is : by_cells ds rs h v ≡ earlier G h v
  order_is = cells_earlier nt.start.shown h v nt.start.bank v_bank

  -- v is one of those that h notifies, if it is later
  is_later : T (earlier G h v) → T (later_neighbour G h v)
  unfolding later_neighbour
  is_later = both (memb v N) (earlier G h v) (in_neighbours G h v v_bank (cell_clash nt.start.shown h i nt.start.bank lt))

  before : Movable s.counts v o w (later_neighbour G h v)
  before = nt.start.movable v v_bank

  -- v is not yet notified
  not_yet : (c : ℕ) → c < 24 → get_or cs (v * 24 + c) 0 ≡ get_or s.counts (v * 24 + c) 0
  not_yet c lc =
      nt.made.counts v c lc ∙ cond_no (memb v (take i N) && earlier G h v) _ _
      (λ t. cell_new nt.start.shown h i nt.start.bank lt (and_l (memb v (take i N)) (earlier G h v) t))

  -- what `enqueue` asks
  pub enqueuable : Enqueuable G q v (get_or ds v 0)
  enqueuable = enqueuable_of nt.start.shown nt.made.queue v_bank

  -- the test is that of the cells
  pub by_cells-law : {later : Bool} {d k : ℕ} → d ≡ get_or ds h 0 → k ≡ get_or rs h 0 → later ≡ earlier_by d k h (get_or ds v 0) (get_or rs v 0) v → later ≡ by_cells ds rs h v
  unfolding by_cells
  by_cells-law e f is = is ∙ ap₂ (λ (x y : ℕ). earlier_by x y h (get_or ds v 0) (get_or rs v 0) v) e f

  -- v is notified exactly if it is later
  module _ {later : Bool} (is : later ≡ by_cells ds rs h v) where
    notified_is : later ≡ earlier G h v
    notified_is = is ∙ order_is

    notified_later : T later → T (later_neighbour G h v)
    notified_later t = is_later (t_along notified_is t)

    -- what `move_count` asks
    pub movable : Movable cs v o w later
    movable = record {
      row = omega (arith, before.row, nt.made.long);
      low = before.low;
      high = before.high;
      some = λ t. omega (arith, not_yet o before.low, before.some (notified_later t));
      few = omega (arith, not_yet w before.high, before.few);
    }

    -- the cells of v go as they would from the start
    notified_here : (t : Bool) → (T t → T later) → (c : ℕ) → c < 24
        → get_or (cond t (one_moved cs v o w) cs) (v * 24 + c) 0 ≡ cond t (get_or (one_moved s.counts v o w) (v * 24 + c) 0) (get_or s.counts (v * 24 + c) 0)
    notified_here true is-notified c lc =
        omega (
          arith,
          moved_here cs v o w movable.row before.low before.high (nt.start.differ tt) c lc (movable.some (is-notified tt)),
          moved_here s.counts v o w before.row before.low before.high (nt.start.differ tt) c lc (before.some (notified_later (is-notified tt))),
          not_yet c lc,
        )
    notified_here false is-notified c lc = not_yet c lc

    cells_after-law : (x c : ℕ) → c < 24
        → get_or (cond later (one_moved cs v o w) cs) (x * 24 + c) 0
        ≡ cond (memb x (take (i + 1) N) && earlier G h x) (get_or (one_moved s.counts x o w) (x * 24 + c) 0) (get_or s.counts (x * 24 + c) 0)
    cells_after-law x c lc =
        elim (ℕ_discrete x v) [
          | yes e ↦ rw e (notified_here later (λ t. t) c lc
              ∙ ap (λ (t : Bool). cond t (get_or (one_moved s.counts v o w) (v * 24 + c) 0) (get_or s.counts (v * 24 + c) 0))
              (notified_is ∙ sym (ap (λ (t : Bool). t && earlier G h v) (next_memb v ∙ is_true _ (or_r (memb v (take i N)) (eqb v v) (eq→eqb v v refl))))))
          | no d ↦
              notified_elsewhere cs v o w movable.row before.low before.high (nt.start.differ tt) later x c lc d ∙ nt.made.counts x c lc
              ∙ ap (λ (t : Bool). cond (t && earlier G h x) (get_or (one_moved s.counts x o w) (x * 24 + c) 0) (get_or s.counts (x * 24 + c) 0))
              (sym (next_memb x ∙ or_not (memb x (take i N)) (eqb x v) (λ t. d (eqb→eq x v t))))
        ]

    -- one neighbour more
    pub notified : {q' : List ℕ} → Enqueued G q q' v later → Notifying s ns ds rs (cond later (one_moved cs v o w) cs) q' h o w (i + 1)
    notified put = record {
      start = nt.start;
      made = record {
        long = notified_length cs v o w movable.row before.low before.high (nt.start.differ tt) later ∙ nt.made.long;
        counts = cells_after-law;
        queue = put.queue;
        members = λ x l. put.members x l ∙ ap (λ (t : Bool). t || (later && eqb x v)) (nt.made.members x l)
            ∙ more_and (waits G s.queue x) (memb x (take i N)) (eqb x v) (earlier G h x) later (λ t. rw (eqb→eq x v t) notified_is)
            ∙ ap (λ (t : Bool). waits G s.queue x || (t && earlier G h x)) (sym (next_memb x));
      };
    }

abbrev pub notice_of : Graph → List ℕ → List ℕ → Notice
notice_of G cs q = record { graph = G; counts = cs; queue = q }

-- no neighbour is looked at
pub start_notifying : {G : Graph} {ns ds rs cs q : List ℕ} {b o w : ℕ} {changed : Bool} → changed ≡ true → Notifiable G ns ds rs cs q b changed o w
    → Notifying (notice_of G cs q) ns ds rs cs q b o w 0
start_notifying {G} {b = b} said nf = record { start = rw said at nf; made = none_notified nf _ (λ x. ap (λ (t : Bool). t && earlier G b x) (memb_none x)) }

-- all are
pub all_notified : {s : Notice} {ns ds rs cs q : List ℕ} {h o w : ℕ} {changed : Bool} → changed ≡ true → Notifying s ns ds rs cs q h o w (get_or ds h 0)
    → Notified s.graph s.counts cs s.queue q o w (λ x. changed && later_neighbour s.graph h x)
unfolding later_neighbour
all_notified {s} {h = h} said nt =
    notified_cong _ _ (λ x. rw said (ap (λ (xs : List ℕ). memb x xs && earlier s.graph h x) (whole_row nt.start.shown h nt.start.bank))) nt.made
