-- The clashes of a plan as adds, the lowest pair first: made in turn from no clash, none is refused, and they end in these clashes; they change no rank.
use mathlib.Core.Bool.{Bool, false, ◌&&◌, ◌||◌, or_assoc}
use mathlib.Core.List.{List, [], ◌∷◌, map}
use mathlib.Core.Logic.{◌⊎◌, inl, inr, ◌≢◌}
use mathlib.Core.Path.{◌≡◌, refl, sym, ap, ◌∙◌, subst}
use Prim.Native.Nat.{ℕ, zero, suc, ◌≤◌, ◌<◌}
use native.Mathlib.Omega.{arith}
use lib.Dec.{T, ltb, eqb→eq, ltb→lt, lt→ltb}
use borrow.Author.Tests.{lt-ltb, le-ltb}
use Rattle.rule.specs.Lists.{upto, filter, some, memb, Once}
use Rattle.rule.specs.Graph.{Graph, neighbours, degree, pair, added, Same}
use Rattle.rule.specs.Reach.{edited}
use Rattle.rule.specs.declared.Kind.TheVariants.{Adding}
use Rattle.rule.specs.declared.Entry.{Entry}
use Rattle.rule.proofs.Booleans.{and_l, and_r, both, or_l, or_r, or_cases, or_false, and_true, and_false, t_along, test_ext, is_false, lt_or_ge}
use Rattle.rule.proofs.Lists.{in_head, in_tail, in_upto, in_filter, filter_in, upto_below, count_lt, some_in, in_some}
use Rattle.rule.proofs.Neighbours.{neighbours_in, in_neighbours, neighbours_sorted}
use Rattle.rule.proofs.OneClash.{pair_a}
use Rattle.rule.proofs.Order.{ltb_strict}
use Rattle.rule.proofs.Pairs.{pair_is, pair_here, pair_there}
use Rattle.rule.proofs.Reaches.{sorted_once}
use Rattle.rule.proofs.Sorting.{sorted_filter}
use Rattle.memory.specs.Plan.{Clashes}
use Rattle.planner.specs.Calls.{edit_number}
use Rattle.planner.proofs.Numbers.{two_banks, add_fine}
use Rattle.planner.proofs.Outcomes.{acceptable}
use Rattle.planner.proofs.After.{pair_clash, clashes_edited}
use Rattle.journal.specs.Calls.{entry_for, adds_of, adds_below}
use Rattle.planner.specs.States.{begun_by}
use Rattle.journal_replay.specs.Ends.{after_entry, after_entries}
use Rattle.journal.proofs.Turns.{due_number, NoneRefused, begun_after, after_append, none_append}

-- one of a pair with a is a
pair_near : (a b x y : ℕ) → T (pair a b x y) → T (ltb x (suc a) || ltb y (suc a))
pair_near a b x y t =
    elim (pair_is a b x y t) [
      | inl e ↦ or_l (ltb x (suc a)) (ltb y (suc a)) (lt→ltb x (suc a) (omega (arith, e.0)))
      | inr e ↦ or_r (ltb x (suc a)) (ltb y (suc a)) (lt→ltb y (suc a) (omega (arith, e.1)))
    ]

-- the adds of a with each of these banks
abbrev adds : ℕ → List ℕ → List Entry
adds a bs = map (entry_for Adding a) bs

-- the clashes after them
adds_clash : (a : ℕ) (bs : List ℕ) (H : Graph) (x y : ℕ) → (after_entries (adds a bs) H).clash x y ≡ (H.clash x y || some (λ b. pair a b x y) bs)
unfolding after_entries after_entry edited some
adds_clash a [] H x y = sym (or_false (H.clash x y))
adds_clash a (b ∷ bs) H x y = adds_clash a bs (added H a b) x y ∙ or_assoc (H.clash x y) (pair a b x y) (some (λ b. pair a b x y) bs)

-- and the ranks
adds_rank : (a : ℕ) (bs : List ℕ) (H : Graph) (x : ℕ) → (after_entries (adds a bs) H).rank x ≡ H.rank x
unfolding after_entries after_entry edited
adds_rank a [] H x = refl
adds_rank a (b ∷ bs) H x = adds_rank a bs (added H a b) x

-- one of two numbers is at most a: one is below a, or one is a and the other no less
data Near (a x y : ℕ) : Type 0 where
  below : T (ltb x a || ltb y a) → Near a x y
  first : x ≡ a → a ≤ y → Near a x y
  second : y ≡ a → a ≤ x → Near a x y

near : (a x y : ℕ) → T (ltb x (suc a) || ltb y (suc a)) → Near a x y
near a x y t = by (lt_or_ge x a) (lt_or_ge y a)
  where
    by : (x < a) ⊎ (a ≤ x) → (y < a) ⊎ (a ≤ y) → Near a x y
    by (inl h) k = below (or_l (ltb x a) (ltb y a) (lt→ltb x a h))
    by (inr h) (inl k) = below (or_r (ltb x a) (ltb y a) (lt→ltb y a k))
    by (inr h) (inr k) =
        elim (or_cases (ltb x (suc a)) (ltb y (suc a)) t) [
          | inl u ↦ first (omega (arith, ltb→lt x (suc a) u)) k
          | inr u ↦ second (omega (arith, ltb→lt y (suc a) u)) h
        ]

-- below a is below a + 1
next : (a x y : ℕ) → T (ltb x a || ltb y a) → T (ltb x (suc a) || ltb y (suc a))
next a x y t =
    elim (or_cases (ltb x a) (ltb y a) t) [
      | inl u ↦ or_l (ltb x (suc a)) (ltb y (suc a)) (lt→ltb x (suc a) (omega (arith, ltb→lt x a u)))
      | inr u ↦ or_r (ltb x (suc a)) (ltb y (suc a)) (lt→ltb y (suc a) (omega (arith, ltb→lt y a u)))
    ]

module _ (G : Graph) (c : Clashes G) where
  abbrev n : ℕ
  n = G.banks

  -- H has some of the clashes of G
  record Part (H : Graph) : Type 0 where
    banks : H.banks ≡ n
    clashes : Clashes H
    within : (x y : ℕ) → x < n → y < n → T (H.clash x y) → T (G.clash x y)

  -- one that it lacks leaves both banks room for it
  part_degree : (H : Graph) → Part H → (a b : ℕ) → a < n → b < n → T (G.clash a b) → (T (H.clash a b) → ⊥) → degree H a < degree G a
  unfolding degree neighbours
  part_degree H p a b ha hb g f =
      rw p.banks (count_lt (H.clash a) (G.clash a) (upto n) (λ x m t. p.within a x ha (upto_below n x m) t) b (in_upto n b hb) f g)

  module _ (H : Graph) (p : Part H) (a b : ℕ) (ha : a < n) (hb : b < n) (g : T (G.clash a b)) (f : T (H.clash a b) → ⊥) where
    differ : a ≢ b
    differ e = c.apart a ha (subst (λ (x : ℕ). T (G.clash a x)) (sym e) g)

    add_due : edit_number Adding H a b ≡ 0
    add_due =
        let ka : a < H.banks = omega (arith, p.banks) in
        let kb : b < H.banks = omega (arith, p.banks) in
        let g' : T (G.clash b a) = t_along (c.symmetric a b ha hb) g in
        let f' : T (H.clash b a) → ⊥ = λ t. f (t_along (p.clashes.symmetric b a kb ka) t) in
        two_banks H a b ka kb Adding differ
        ∙ rw (is_false (H.clash a b) f) (add_fine (degree H a) (degree H b)
        (omega (arith, part_degree H p a b ha hb g f, c.few a ha)) (omega (arith, part_degree H p b a hb ha g' f', c.few b hb)))

    part_added : Part (added H a b)
    part_added = record {
      banks = p.banks;
      clashes = unfold edited in clashes_edited H a b p.clashes Adding (acceptable H a b Adding add_due);
      within = λ x y hx hy t. elim (or_cases (H.clash x y) (pair a b x y) t) [
        | inl u ↦ p.within x y hx hy u
        | inr u ↦ t_along (sym (pair_clash G a b c ha hb x y u)) g
      ];
    }

  -- banks that clash with a in G and not yet in H
  abbrev Missing : ℕ → List ℕ → Graph → Type 0
  Missing a bs H = (b : ℕ) → T (memb b bs) → (b < n) × T (G.clash a b) × (T (H.clash a b) → ⊥)

  adds_fine : (a : ℕ) → a < n → (begun : Bool) (bs : List ℕ) (H : Graph) → Part H → Once bs → Missing a bs H
      → NoneRefused begun (adds a bs) H × Part (after_entries (adds a bs) H)
  unfolding after_entries after_entry due_number edited
  adds_fine a ha begun [] H p o w = (tt, p)
  adds_fine a ha begun (b ∷ bs) H p o w =
      let u = w b (in_head b b bs refl) in
      let p' = part_added H p a b ha u.0 u.1 u.2 in
      let r = adds_fine a ha (begun_by (entry_for Adding a b) begun) bs (added H a b) p' o.1 (λ x m.
      let v = w x (in_tail x b bs m) in (
        v.0,
        v.1,
        λ t. elim (or_cases (H.clash a x) (pair a b a x) t) [
          | inl k ↦ v.2 k
          | inr k ↦ o.0 (subst (λ (z : ℕ). T (memb z bs)) (eqb→eq x b (t_along (pair_a a b (differ H p a b ha u.0 u.1 u.2) x) k)) m)
        ],
      )) in
      ((add_due H p a b ha u.0 u.1 u.2, r.0), r.1)

  -- the larger banks that clash with a
  abbrev larger : ℕ → List ℕ
  larger a = filter (ltb a) (neighbours G a)

  larger_in : (a b : ℕ) → T (memb b (larger a)) → (b < n) × T (G.clash a b) × (a < b)
  larger_in a b m =
      let r = filter_in (ltb a) (neighbours G a) b m in
      let q = neighbours_in G a b r.0 in
      (q.0, q.1, ltb→lt a b r.1)

  in_larger : (a b : ℕ) → b < n → T (G.clash a b) → a < b → T (memb b (larger a))
  in_larger a b h t l = in_filter (ltb a) (neighbours G a) b (in_neighbours G a b h t) (lt→ltb a b l)

  -- H has those clashes of G of which a bank is below a
  abbrev Listed : ℕ → Graph → Type 0
  Listed a H = (x y : ℕ) → x < n → y < n → H.clash x y ≡ (G.clash x y && (ltb x a || ltb y a))

  module _ (a : ℕ) (ha : a < n) (H : Graph) (l : Listed a H) where
    not_yet : Missing a (larger a) H
    not_yet b m =
        let r = larger_in a b m in (
          r.0,
          r.1,
          λ t. elim (or_cases (ltb a a) (ltb b a) (and_r (G.clash a b) (ltb a a || ltb b a) (t_along (l a b ha r.0) t))) [
            | inl u ↦ omega (arith, ltb→lt a a u)
            | inr u ↦ omega (arith, ltb→lt b a u, r.2)
          ],
        )

    abbrev H' : Graph
    H' = after_entries (adds a (larger a)) H

    abbrev new : ℕ → ℕ → Bool
    new x y = some (λ b. pair a b x y) (larger a)

    module _ (x y : ℕ) (hx : x < n) (hy : y < n) where
      to : T (H.clash x y || new x y) → T (G.clash x y && (ltb x (suc a) || ltb y (suc a)))
      to t =
          elim (or_cases (H.clash x y) (new x y) t) [
            | inl u ↦
                let v = t_along (l x y hx hy) u in
                both (G.clash x y) _ (and_l (G.clash x y) (ltb x a || ltb y a) v) (next a x y (and_r (G.clash x y) (ltb x a || ltb y a) v))
            | inr u ↦
                let r = in_some (λ b. pair a b x y) (larger a) u in
                let q = larger_in a r.0 r.1 in
                both (G.clash x y) _ (t_along (sym (pair_clash G a r.0 c ha q.0 x y r.2)) q.1) (pair_near a r.0 x y r.2)
          ]

      by_new : (b : ℕ) → b < n → T (G.clash a b) → a ≤ b → T (pair a b x y) → T (H.clash x y || new x y)
      by_new b hb g h t =
          or_r (H.clash x y) (new x y) (some_in (λ b. pair a b x y) (larger a) b (in_larger a b hb g (omega (arith, other))) t)
        where
          other : a ≢ b
          other e = c.apart a ha (subst (λ (z : ℕ). T (G.clash a z)) (sym e) g)

      fro : T (G.clash x y) → Near a x y → T (H.clash x y || new x y)
      fro g (below t) = or_l (H.clash x y) (new x y) (t_along (sym (l x y hx hy)) (both (G.clash x y) (ltb x a || ltb y a) g t))
      fro g (first e h) = by_new y hy (rw e at g) h (rw e (pair_here a y))
      fro g (second e h) = by_new x hx (t_along (c.symmetric x a hx ha) (rw e at g)) h (rw e (pair_there a x))

    listed_next : Listed (suc a) H'
    listed_next x y hx hy =
        adds_clash a (larger a) H x y
        ∙ test_ext (H.clash x y || new x y) (G.clash x y && (ltb x (suc a) || ltb y (suc a))) (to x y hx hy)
        (λ t. fro x y hx hy (and_l (G.clash x y) _ t) (near a x y (and_r (G.clash x y) _ t)))

  -- from a plan of the same banks and ranks, without clashes
  module _ (E : Graph) (same : E.banks ≡ n) (bare : (x y : ℕ) → E.clash x y ≡ false) (ranks : (x : ℕ) → x < n → E.rank x ≡ G.rank x) (of : Clashes E) where
    -- the adds of all banks below k
    record Below (k : ℕ) : Type 0 where
      none : (begun : Bool) → NoneRefused begun (adds_below G k) E
      part : Part (after_entries (adds_below G k) E)
      listed : Listed k (after_entries (adds_below G k) E)
      rank : (x : ℕ) → (after_entries (adds_below G k) E).rank x ≡ E.rank x

    adds_below-law : (k : ℕ) → k ≤ n → Below k
    unfolding adds_below adds_of after_entries
    adds_below-law zero h = record {
      none = λ begun. tt;
      part = record { banks = same; clashes = of; within = λ x y hx hy t. absurd (t_along (bare x y) t) };
      listed = λ x y hx hy. bare x y ∙ sym (rw (le-ltb x 0 (omega arith), le-ltb y 0 (omega arith)) (and_false (G.clash x y)));
      rank = λ x. refl;
    }
    adds_below-law (suc a) h =
        let b = adds_below-law a (omega arith) in
        let H = after_entries (adds_below G a) E in
        let once = sorted_once ltb ltb_strict.irrefl (larger a) (sorted_filter ltb (ltb a) (neighbours G a) (neighbours_sorted G a)) in
        let missing = not_yet a h H b.listed in
        let e = after_append (adds_below G a) (adds a (larger a)) E in
        record {
          none = λ begun. none_append begun (adds_below G a) (adds a (larger a)) E (b.none begun)
              (adds_fine a h (begun_after (adds_below G a) begun) (larger a) H b.part once missing).0;
          part = rw e (adds_fine a h false (larger a) H b.part once missing).1;
          listed = rw e (listed_next a h H b.listed);
          rank = λ x. ap (λ (F : Graph). F.rank x) e ∙ adds_rank a (larger a) H x ∙ b.rank x;
        }

    -- none of the adds is refused, and they end in the clashes and ranks of G
    pub adds_none : (begun : Bool) → NoneRefused begun (adds_below G n) E
    adds_none = (adds_below-law n (omega arith)).none

    pub adds_same : Same (after_entries (adds_below G n) E) G
    adds_same =
        let b = adds_below-law n (omega arith) in
        record {
          banks = b.part.banks;
          clash = λ x y hx hy. b.listed x y hx hy ∙ rw (lt-ltb x n hx) (and_true (G.clash x y));
          rank = λ x hx. b.rank x ∙ ranks x hx;
        }
