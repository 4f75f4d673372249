-- The theorems to cite, each restated. Their proofs are in the files beside this one.
use mathlib.Core.Bool.{Bool, true, false, cond, ◌&&◌, ◌||◌, not}
use mathlib.Core.List.{List, map, foldr}
use mathlib.Core.Logic.{◌↔◌, ◌≢◌}
use mathlib.Core.Path.{◌≡◌, refl, sym, ◌∙◌}
use native.Mathlib.Omega.{arith}
use Prim.Native.Nat.{ℕ, ◌+◌, ◌*◌, ◌-◌, ◌≤◌, ◌<◌}
use lib.Dec.{T, ltb, eqb}
use lib.ListN.{length}
use Rattle.rule.specs.Lists.{upto, memb, insert_by, Sorted, Once, Strict}
use Rattle.rule.specs.Graph.{Graph, degree, earlier, earlier_neighbours, order, Same}
use Rattle.rule.specs.Wave.{lowest_free, wave, wave_count}
use Rattle.rule.specs.Reach.{edited, changed, is_turned, on_trail, trail, moved, around}
use Rattle.rule.specs.Renumbering.{Renumbered, RanksDiffer}
use Rattle.rule.specs.Bounds.{wave_bound, largest_degree, banks_from}
use Rattle.rule.specs.declared.Kind.{Kind}
use Rattle.rule.specs.WorkList.{OneEdit, Allowed, turned, seed, is_taken, taken, WorkList, Next}
use Rattle.rule.proofs.Free
use Rattle.rule.proofs.Order
use Rattle.rule.proofs.Waves
use Rattle.rule.proofs.Agree
use Rattle.rule.proofs.Sorting
use Rattle.rule.proofs.Neighbours
use Rattle.rule.proofs.Spread
use Rattle.rule.proofs.Steps
use Rattle.rule.proofs.Turned
use Rattle.rule.proofs.Reaches
use Rattle.rule.proofs.Fixed
use Rattle.rule.proofs.Renumbering
use Rattle.rule.proofs.Bounds
use Rattle.rule.proofs.Booleans.{t_along, and_l, and_r, both}
use Rattle.rule.proofs.Lists.{filter_true}

-- 1. the rule order is a strict total order
pub earlier_strict : (G : Graph) → Strict (earlier G)
earlier_strict = Order.earlier_strict

-- 2. the lowest free number is free, all below it are held, it is at most the number of those held; only it is so; and it depends on the
-- members alone
pub lowest_free_free : (held : List ℕ) → T (memb (lowest_free held) held) → ⊥
lowest_free_free = Free.lowest_free_free

pub lowest_free_smaller : (held : List ℕ) (c : ℕ) → c < lowest_free held → T (memb c held)
lowest_free_smaller = Free.lowest_free_smaller

pub lowest_free_le : (held : List ℕ) → lowest_free held ≤ length held
lowest_free_le = Free.lowest_free_le

pub lowest_free_only : (held : List ℕ) (r : ℕ) → (T (memb r held) → ⊥) → ((c : ℕ) → c < r → T (memb c held)) → r ≡ lowest_free held
lowest_free_only = Free.lowest_free_only

pub lowest_free_members : (xs ys : List ℕ) → ((c : ℕ) → memb c xs ≡ memb c ys) → lowest_free xs ≡ lowest_free ys
lowest_free_members = Free.lowest_free_members

-- 3. the rule: each bank has the lowest wave that no earlier neighbour has; nothing else obeys it; a wave is at most the number of earlier
-- neighbours, and at most 23 where degrees are
pub wave_equation : (G : Graph) (b : ℕ) → b < G.banks → wave G b ≡ lowest_free (map (wave G) (earlier_neighbours G b))
wave_equation = Waves.wave_equation

pub wave_unique : (G : Graph) (w : ℕ → ℕ) → ((b : ℕ) → b < G.banks → w b ≡ lowest_free (map w (earlier_neighbours G b)))
    → (b : ℕ) → b < G.banks → w b ≡ wave G b
wave_unique = Waves.wave_unique

pub wave_le : (G : Graph) (b : ℕ) → b < G.banks → wave G b ≤ length (earlier_neighbours G b)
wave_le = Waves.wave_le

pub wave_small : (G : Graph) (b : ℕ) → b < G.banks → degree G b ≤ 23 → wave G b ≤ 23
wave_small G b h few = omega (arith, Waves.wave_le G b h, Neighbours.fewer_earlier G b)

-- 4. only the clashes between banks and their ranks count: for the waves, the order, the trail and the moved list
pub wave_agree : {G H : Graph} → Same G H → (x : ℕ) → x < H.banks → wave G x ≡ wave H x
wave_agree = Agree.wave_agree

pub order_agree : {G H : Graph} → Same G H → order G ≡ order H
order_agree {G} {H} s =
    sym (filter_true (order G)) ∙ Reaches.ordered_agree s (λ x. true) (λ x. true) (λ x h. refl) ∙ filter_true (order H)

module _ {old new old' new' : Graph} (o : Same old old') (n : Same new new') (banks : old'.banks ≡ new'.banks) where
  pub moved_agree : moved old new ≡ moved old' new'
  moved_agree = Reaches.moved_agree o n banks

  pub trail_agree : (k : Kind) (a b : ℕ) → a < new'.banks → b < new'.banks → trail k old new a b ≡ trail k old' new' a b
  trail_agree = Reaches.trail_agree o n banks

-- the old and the new clashes and the ranks fix the trail of an edit, whatever its kind, and whichever of its banks is named first
pub trail_fixed : {G H : Graph} (k k' : Kind) (a b a' b' : ℕ) → a < G.banks → b < G.banks → Allowed k G a b
    → Same G H → Same (edited k G a b) (edited k' H a' b') → trail k G (edited k G a b) a b ≡ trail k' H (edited k' H a' b') a' b'
trail_fixed = Fixed.trail_fixed

-- and an edit changes no rank
pub edited_ranks : (k : Kind) (G : Graph) (a b : ℕ) → (edited k G a b).rank ≡ G.rank
edited_ranks = Fixed.edited_ranks

-- 5. the trail and the moved list are in the new order, name none twice, and name exactly the banks of their test
module _ (k : Kind) (old new : Graph) (a b : ℕ) where
  pub trail_sorted : Sorted (earlier new) (trail k old new a b)
  unfolding trail
  trail_sorted = Reaches.ordered_sorted new (on_trail k old new a b)

  pub trail_once : Once (trail k old new a b)
  unfolding trail
  trail_once = Reaches.ordered_once new (on_trail k old new a b)

  pub trail_members : (x : ℕ) → memb x (trail k old new a b) ≡ (ltb x new.banks && on_trail k old new a b x)
  unfolding trail
  trail_members = Reaches.ordered_members new (on_trail k old new a b)

  -- the trail count is at most the size of the set made of a, b, the moved banks and all neighbours of these after the edit
  pub trail_bound : a < new.banks → b < new.banks → length (trail k old new a b) ≤ length (around old new a b)
  trail_bound = Reaches.trail_bound k old new a b

module _ (old new : Graph) where
  pub moved_sorted : Sorted (earlier new) (moved old new)
  unfolding moved
  moved_sorted = Reaches.ordered_sorted new (changed old new)

  pub moved_once : Once (moved old new)
  unfolding moved
  moved_once = Reaches.ordered_once new (changed old new)

  pub moved_members : (x : ℕ) → memb x (moved old new) ≡ (ltb x new.banks && changed old new x)
  unfolding moved
  moved_members = Reaches.ordered_members new (changed old new)

-- 6. an edit to which no refusal is due
module _ (G : Graph) (symmetric : (x y : ℕ) → x < G.banks → y < G.banks → G.clash x y ≡ G.clash y x)
    (a b : ℕ) (la : a < G.banks) (lb : b < G.banks) (d : a ≢ b) (k : Kind) where
  -- it is one edit
  pub edited_one : OneEdit G (edited k G a b) a b
  edited_one = Turned.edited_one G symmetric a b la lb d k

  module _ (allowed : Allowed k G a b) where
    -- (ii), in 01's words, is that the order turned over
    pub is_turned-law : (x : ℕ)
        → (is_turned k G (edited k G a b) a x ≡ turned G (edited k G a b) a x) × (is_turned k G (edited k G a b) b x ≡ turned G (edited k G a b) b x)
    is_turned-law = Turned.is_turned-law G symmetric a b la lb d k allowed

    -- so the trail is what the work-list takes up
    pub trail_taken : trail k G (edited k G a b) a b ≡ taken G (edited k G a b) a b
    trail_taken = Turned.trail_taken G symmetric a b la lb d k allowed

    -- a bank off the trail keeps its wave
    pub off_trail : (x : ℕ) → x < (edited k G a b).banks → (T (on_trail k G (edited k G a b) a b x) → ⊥) → wave G x ≡ wave (edited k G a b) x
    off_trail x h n =
        Spread.not_taken G (edited k G a b) a b edited_one x h (λ t. n (t_along (sym (Turned.on_trail_taken G symmetric a b la lb d k allowed x)) t))

    -- every moved bank is on the trail
    pub moved_on_trail : (x : ℕ) → T (memb x (moved G (edited k G a b))) → T (memb x (trail k G (edited k G a b) a b))
    moved_on_trail x m =
        let new = edited k G a b in
        let r = t_along (moved_members G new x) m in
        let below = and_l (ltb x new.banks) (changed G new x) r in
        t_along (sym (trail_members k G new a b x))
        (both (ltb x new.banks) (on_trail k G new a b x) below
        (Reaches.changed_on G new x (on_trail k G new a b x) (off_trail x (lib.Dec.ltb→lt x new.banks below)) (and_r (ltb x new.banks) (changed G new x) r)))

-- 7. the work-list of one edit
module _ (old new : Graph) (a b : ℕ) (edit : OneEdit old new a b) where
  -- a bank that is no seed has the earlier neighbours that it had
  pub same_earlier : (x v : ℕ) → x < new.banks → v < new.banks → (T (seed old new a b x) → ⊥)
      → (old.clash x v && earlier old v x) ≡ (new.clash x v && earlier new v x)
  same_earlier = Spread.same_earlier old new a b edit

  -- it starts with the seeds;
  pub start : WorkList old new a b (λ x. false) (seed old new a b)
  start = Steps.start old new a b edit

  module _ (done queued : ℕ → Bool) (list : WorkList old new a b done queued) where
    -- what is earlier than the next bank, and is not done, keeps its wave;
    pub settled_before : (h : ℕ) → Next new queued h → (x : ℕ) → x < new.banks → T (earlier new x h) → (T (done x) → ⊥) → wave old x ≡ wave new x
    settled_before = Spread.settled_before old new a b edit done queued list

    -- so the next bank gets its new wave from the new waves of the done and the old waves of the others;
    pub next_wave : (h : ℕ) → Next new queued h
        → lowest_free (map (λ v. cond (done v) (wave new v) (wave old v)) (earlier_neighbours new h)) ≡ wave new h
    next_wave = Spread.next_wave old new a b edit done queued list

    -- then it is done, and its later neighbours wait if it changed;
    pub step : (done' queued' : ℕ → Bool) (h : ℕ) → Next new queued h
        → ((x : ℕ) → x < new.banks → done' x ≡ (done x || eqb x h))
        → ((x : ℕ) → x < new.banks → queued' x ≡ (queued x && not (eqb x h) || changed old new h && (new.clash h x && earlier new h x)))
        → WorkList old new a b done' queued'
    step done' queued' = Steps.step old new a b edit done queued done' queued' list

    -- when nothing waits, what is not done keeps its wave, and the done are what is taken up
    pub settled_end : ((x : ℕ) → x < new.banks → T (queued x) → ⊥) → (x : ℕ) → x < new.banks → (T (done x) → ⊥) → wave old x ≡ wave new x
    settled_end = Spread.settled_end old new a b edit done queued list

    pub done_is_taken : ((x : ℕ) → x < new.banks → T (queued x) → ⊥) → (x : ℕ) → x < new.banks → done x ≡ is_taken old new a b x
    done_is_taken = Spread.done_is_taken old new a b edit done queued list

-- 8. strictly sorted lists with the same members are equal; insertion keeps a list so and adds one member
module _ (before : ℕ → ℕ → Bool) (strict : Strict before) where
  pub sorted_unique : (xs ys : List ℕ) → Sorted before xs → Sorted before ys → ((x : ℕ) → memb x xs ≡ memb x ys) → xs ≡ ys
  sorted_unique = Sorting.sorted_unique before strict

  pub sorted_insert_by : (x : ℕ) (xs : List ℕ) → (T (memb x xs) → ⊥) → Sorted before xs → Sorted before (insert_by before x xs)
  sorted_insert_by = Sorting.sorted_insert_by before strict

pub memb_insert_by : (before : ℕ → ℕ → Bool) (x : ℕ) (xs : List ℕ) (z : ℕ) → memb z (insert_by before x xs) ≡ (eqb z x || memb z xs)
memb_insert_by = Sorting.memb_insert_by

pub sorted_order : (G : Graph) → Sorted (earlier G) (order G)
sorted_order = Sorting.sorted_order

pub memb_order : (G : Graph) (x : ℕ) → memb x (order G) ≡ ltb x G.banks
memb_order = Sorting.memb_order

-- so a sorted list of the banks taken up is `taken`, and one of the changed banks is `moved`
pub is_taken-law : (old new : Graph) (a b : ℕ) (xs : List ℕ) → Sorted (earlier new) xs
    → ((x : ℕ) → memb x xs ≡ (ltb x new.banks && is_taken old new a b x)) → xs ≡ taken old new a b
unfolding taken
is_taken-law old new a b = Sorting.ordered_unique new (is_taken old new a b)

pub is_moved : (old new : Graph) (xs : List ℕ) → Sorted (earlier new) xs
    → ((x : ℕ) → memb x xs ≡ (ltb x new.banks && changed old new x)) → xs ≡ moved old new
unfolding moved
is_moved old new = Sorting.ordered_unique new (changed old new)

-- 9. if the banks are renumbered and no two ranks are equal, each bank keeps its wave, and the plan has as many waves
module _ {G H : Graph} {to from : ℕ → ℕ} where
  pub renumbered_waves : Renumbered G H to from → RanksDiffer G → (x : ℕ) → x < G.banks → wave H (to x) ≡ wave G x
  renumbered_waves = Renumbering.renumbered_waves

  pub renumbered_count : Renumbered G H to from → RanksDiffer G → wave_count H ≡ wave_count G
  renumbered_count = Renumbering.renumbered_count

-- 10. how many waves at most (Welsh and Powell): of all clashes, whether or not they go both ways; the bound is above d exactly if more than d
-- banks have degree d or more, so it takes the degrees alone
module _ (G : Graph) where
  pub wave_bound-law : wave_count G ≤ wave_bound G
  wave_bound-law = Bounds.count_bound G

  pub bound_counts : (d : ℕ) → (d < wave_bound G) ↔ (d < banks_from G d)
  bound_counts = Bounds.bound_counts G

  -- k banks have k - 1 clashes or more, so the degrees come to k (k - 1) or more
  pub wave_degrees : wave_count G * (wave_count G - 1) ≤ foldr (λ b m. degree G b + m) 0 (upto G.banks)
  wave_degrees = Bounds.count_degrees G

  -- one plus the largest degree
  pub wave_most : wave_count G ≤ 1 + largest_degree G
  wave_most = omega (arith, Bounds.count_bound G, Bounds.bound_small G (largest_degree G) (Bounds.degree_largest G))

  pub degree_largest : (x : ℕ) → x < G.banks → degree G x ≤ largest_degree G
  degree_largest = Bounds.degree_largest G

  -- 24, where degrees are at most 23
  pub wave_count_small : ((x : ℕ) → x < G.banks → degree G x ≤ 23) → wave_count G ≤ 24
  wave_count_small few = omega (arith, Bounds.count_bound G, Bounds.bound_small G 23 few)

  -- the bound itself is at most these, and at most the number of banks
  pub bound_most : wave_bound G ≤ 1 + largest_degree G
  bound_most = omega (arith, Bounds.bound_small G (largest_degree G) (Bounds.degree_largest G))

  pub bound_small : ((x : ℕ) → x < G.banks → degree G x ≤ 23) → wave_bound G ≤ 24
  bound_small = Bounds.bound_small G 23

  pub bound_banks : wave_bound G ≤ G.banks
  bound_banks = Bounds.bound_banks G

pub bound_agree : {G H : Graph} → Same G H → wave_bound G ≡ wave_bound H
bound_agree = Bounds.bound_agree
