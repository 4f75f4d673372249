-- The trail and the moved list as lists: in the new order, none twice, their members, and the bound of 000, theorem 4.3. And that all of it
-- depends on the clashes between the banks alone.
use mathlib.Core.Bool.{Bool, true, false, cond, ◌&&◌, ◌||◌, not}
use mathlib.Core.List.{List, [], ◌∷◌}
use mathlib.Core.Logic.{inl, inr}
use mathlib.Core.Path.{◌≡◌, refl, sym, ap, ap₂, ◌∙◌}
use native.Mathlib.Omega.{arith}
use Prim.Native.Nat.{ℕ, ◌≤◌, ◌<◌}
use lib.Dec.{T, eqb, ltb, ltb→lt, T_not}
use lib.ListN.{length}
use Rattle.rule.specs.Lists.{upto, filter, some, memb, insert_by, sort_by, Sorted, Once}
use Rattle.rule.specs.Graph.{Graph, earlier, later, order, Same}
use Rattle.rule.specs.Wave.{wave}
use Rattle.rule.specs.Reach.{changed, is_named, is_turned, is_reached, on_trail, trail, moved, in_core, around}
use Rattle.rule.specs.declared.Kind.{Kind}
use Rattle.rule.specs.declared.Kind.TheVariants.{Adding, Striking}
use Rattle.rule.proofs.Booleans.{and_l, and_r, both, or_l, or_r, or_cases, t_along, eq→eqb}
use Rattle.rule.proofs.Lists.{in_head, in_tail, in_upto, upto_below, length_upto, filter_short, some_in, in_some, count_le}
use Rattle.rule.proofs.Order.{earlier_strict}
use Rattle.rule.proofs.Sorting.{sorted_filter, sorted_order, memb_order, memb_filter, ordered_unique}
use Rattle.rule.proofs.Agree.{earlier_agree, wave_agree}

pub sorted_once : (before : ℕ → ℕ → Bool) → ((x : ℕ) → T (before x x) → ⊥) → (xs : List ℕ) → Sorted before xs → Once xs
sorted_once before irrefl [] s = tt
sorted_once before irrefl (x ∷ xs) s = (λ m. irrefl x (s.0 x m), sorted_once before irrefl xs s.1)

-- the banks of a test, in the order of G
module _ (G : Graph) (p : ℕ → Bool) where
  pub ordered_sorted : Sorted (earlier G) (filter p (order G))
  ordered_sorted = sorted_filter (earlier G) p (order G) (sorted_order G)

  pub ordered_once : Once (filter p (order G))
  ordered_once = sorted_once (earlier G) (earlier_strict G).irrefl (filter p (order G)) ordered_sorted

  pub ordered_members : (x : ℕ) → memb x (filter p (order G)) ≡ (ltb x G.banks && p x)
  ordered_members x = memb_filter p (order G) x ∙ ap (λ (t : Bool). t && p x) (memb_order G x)

-- a bank whose wave changed passes a test that all others fail
pub changed_on : (old new : Graph) (x : ℕ) (t : Bool) → ((T t → ⊥) → wave old x ≡ wave new x) → T (changed old new x) → T t
unfolding changed
changed_on old new x true h c = tt
changed_on old new x false h c = T_not (eqb (wave old x) (wave new x)) c (eq→eqb (wave old x) (wave new x) (h (λ u. u)))

-- sorting keeps how many pass a test
count_insert_by : (before : ℕ → ℕ → Bool) (p : ℕ → Bool) (x : ℕ) (xs : List ℕ) → length (filter p (insert_by before x xs)) ≡ length (filter p (x ∷ xs))
unfolding insert_by filter
count_insert_by before p x [] = refl
count_insert_by before p x (y ∷ ys) = go (before x y) (count_insert_by before p x ys)
  where
    swap : (s t : Bool) (k zs : List ℕ) → length k ≡ length (cond s (x ∷ zs) zs) → length (cond t (y ∷ k) k) ≡ length (cond s (x ∷ cond t (y ∷ zs) zs) (cond t (y ∷ zs) zs))
    swap true true k zs e = omega arith
    swap true false k zs e = omega arith
    swap false true k zs e = omega arith
    swap false false k zs e = e

    go : (t : Bool) → length (filter p (insert_by before x ys)) ≡ length (filter p (x ∷ ys))
        → length (filter p (cond t (x ∷ y ∷ ys) (y ∷ insert_by before x ys))) ≡ length (filter p (x ∷ y ∷ ys))
    go true e = refl
    go false e = swap (p x) (p y) (filter p (insert_by before x ys)) (filter p ys) e

count_cons : (p : ℕ → Bool) (x : ℕ) (xs ys : List ℕ) → length (filter p xs) ≡ length (filter p ys) → length (filter p (x ∷ xs)) ≡ length (filter p (x ∷ ys))
unfolding filter
count_cons p x xs ys e = go (p x)
  where
    go : (t : Bool) → length (cond t (x ∷ filter p xs) (filter p xs)) ≡ length (cond t (x ∷ filter p ys) (filter p ys))
    go true = omega arith
    go false = e

pub count_sort_by : (before : ℕ → ℕ → Bool) (p : ℕ → Bool) (xs : List ℕ) → length (filter p (sort_by before xs)) ≡ length (filter p xs)
unfolding sort_by
count_sort_by before p [] = refl
count_sort_by before p (x ∷ xs) =
    count_insert_by before p x (sort_by before xs) ∙ count_cons p x (sort_by before xs) xs (count_sort_by before p xs)

pub count_order : (G : Graph) (p : ℕ → Bool) → length (filter p (order G)) ≡ length (filter p (upto G.banks))
unfolding order
count_order G p = count_sort_by (earlier G) p (upto G.banks)

-- banks picked from the order are no more than all
pub ordered_few : (G : Graph) (p : ℕ → Bool) → length (filter p (order G)) ≤ G.banks
ordered_few G p = omega (arith, count_order G p, filter_short p (upto G.banks), length_upto G.banks)

-- 000, theorem 4.3
module _ (k : Kind) (old new : Graph) (a b : ℕ) (la : a < new.banks) (lb : b < new.banks) where
  near : ℕ → Bool
  near x = in_core old new a b x || some (λ v. new.clash v x && in_core old new a b v) (upto new.banks)

  named_core : (x : ℕ) → T (is_named a b x) → T (in_core old new a b x)
  unfolding in_core
  named_core x t = or_l (is_named a b x) (changed old new x) t

  beside : (v x : ℕ) → v < new.banks → T (new.clash v x) → T (in_core old new a b v) → T (near x)
  unfolding near
  beside v x h c t =
      or_r (in_core old new a b x) _
      (some_in (λ u. new.clash u x && in_core old new a b u) (upto new.banks) v (in_upto new.banks v h) (both (new.clash v x) (in_core old new a b v) c t))

  turned_clash : (e : Kind) (y x : ℕ) → T (is_turned e old new y x) → T (new.clash y x)
  unfolding is_turned
  turned_clash Adding y x t = and_l (new.clash y x) (earlier old x y && later new x y) t
  turned_clash Striking y x t = and_l (new.clash y x) (later old x y && earlier new x y) t

  named_a : T (is_named a b a)
  unfolding is_named
  named_a = or_l (eqb a a) (eqb a b) (eq→eqb a a refl)

  named_b : T (is_named a b b)
  unfolding is_named
  named_b = or_r (eqb b a) (eqb b b) (eq→eqb b b refl)

  trail_near : (x : ℕ) → T (on_trail k old new a b x) → T (near x)
  unfolding on_trail is_reached
  trail_near x t =
      elim (or_cases (is_named a b x || (is_turned k old new a x || is_turned k old new b x)) _ t) [
        | inl u ↦ elim (or_cases (is_named a b x) _ u) [
          | inl w ↦ unfold near in or_l (in_core old new a b x) _ (named_core x w)
          | inr w ↦ elim (or_cases (is_turned k old new a x) (is_turned k old new b x) w) [
            | inl z ↦ beside a x la (turned_clash k a x z) (named_core a named_a)
            | inr z ↦ beside b x lb (turned_clash k b x z) (named_core b named_b)
          ]
        ]
        | inr u ↦
            let r = in_some (λ v. new.clash v x && earlier new v x && changed old new v) (upto new.banks) u in
            let v = r.0 in
            let c = and_l (new.clash v x && earlier new v x) (changed old new v) r.2 in
            beside v x (upto_below new.banks v r.1) (and_l (new.clash v x) (earlier new v x) c)
            (unfold in_core in or_r (is_named a b v) (changed old new v) (and_r (new.clash v x && earlier new v x) (changed old new v) r.2))
      ]

  pub trail_bound : length (trail k old new a b) ≤ length (around old new a b)
  unfolding trail around near
  trail_bound =
      omega (arith, count_order new (on_trail k old new a b), count_le (on_trail k old new a b) near (upto new.banks) (λ x m t. trail_near x t))

-- of two sets of clashes that agree between the banks
module _ {G H : Graph} (s : Same G H) where
  same_earlier : (x y : ℕ) → x < H.banks → y < H.banks → earlier G x y ≡ earlier H x y
  same_earlier = earlier_agree s

  same_wave : (x : ℕ) → x < H.banks → wave G x ≡ wave H x
  same_wave = wave_agree s

  sorted_along : (xs : List ℕ) → ((x : ℕ) → T (memb x xs) → x < H.banks) → Sorted (earlier H) xs → Sorted (earlier G) xs
  sorted_along [] h t = tt
  sorted_along (x ∷ xs) h t = (
    λ y m. t_along (sym (same_earlier x y (h x (in_head x x xs refl)) (h y (in_tail y x xs m)))) (t.0 y m),
    sorted_along xs (λ y m. h y (in_tail y x xs m)) t.1,
  )

  below_H : (x : ℕ) → T (memb x (order H)) → x < H.banks
  below_H x m = ltb→lt x H.banks (t_along (memb_order H x) m)

  -- a test that agrees below the banks gives the same banks, in the same order
  pub ordered_agree : (p q : ℕ → Bool) → ((x : ℕ) → x < H.banks → p x ≡ q x) → filter p (order G) ≡ filter q (order H)
  ordered_agree p q e =
      sym (ordered_unique G p (filter q (order H))
      (sorted_along (filter q (order H)) (λ x m. ltb→lt x H.banks (and_l (ltb x H.banks) (q x) (t_along (ordered_members H q x) m))) (ordered_sorted H q))
      (λ x. ordered_members H q x ∙ cut x (ltb x H.banks) refl ∙ ap (λ (n : ℕ). ltb x n && p x) (sym s.banks)))
    where
      cut : (x : ℕ) (t : Bool) → ltb x H.banks ≡ t → (t && q x) ≡ (ltb x H.banks && p x)
      cut x true r = rw r (sym (e x (ltb→lt x H.banks (t_along (sym r) tt))))
      cut x false r = rw r

module _ {old new old' new' : Graph} (o : Same old old') (n : Same new new') (banks : old'.banks ≡ new'.banks) where
  changed_agree : (x : ℕ) → x < new'.banks → changed old new x ≡ changed old' new' x
  unfolding changed
  changed_agree x h = ap₂ (λ (s t : ℕ). not (eqb s t)) (same_wave o x (rw banks h)) (same_wave n x h)

  turned_agree : (k : Kind) (y x : ℕ) → y < new'.banks → x < new'.banks → is_turned k old new y x ≡ is_turned k old' new' y x
  unfolding is_turned later
  turned_agree Adding y x hy hx = rw (n.clash y x hy hx, same_earlier o x y (rw banks hx) (rw banks hy), same_earlier n x y hx hy)
  turned_agree Striking y x hy hx = rw (n.clash y x hy hx, same_earlier o x y (rw banks hx) (rw banks hy), same_earlier n x y hx hy)

  some_agree : (p q : ℕ → Bool) (xs : List ℕ) → ((x : ℕ) → T (memb x xs) → p x ≡ q x) → some p xs ≡ some q xs
  unfolding some
  some_agree p q [] e = refl
  some_agree p q (x ∷ xs) e = ap₂ ◌||◌ (e x (in_head x x xs refl)) (some_agree p q xs (λ y m. e y (in_tail y x xs m)))

  reached_agree : (x : ℕ) → x < new'.banks → is_reached old new x ≡ is_reached old' new' x
  unfolding is_reached
  reached_agree x h =
      ap (λ (m : ℕ). some (λ v. new.clash v x && earlier new v x && changed old new v) (upto m)) n.banks
      ∙ some_agree (λ v. new.clash v x && earlier new v x && changed old new v) (λ v. new'.clash v x && earlier new' v x && changed old' new' v) (upto new'.banks) (λ v m.
      let l = upto_below new'.banks v m in rw (n.clash v x l h, same_earlier n v x l h, changed_agree v l))

  pub moved_agree : moved old new ≡ moved old' new'
  unfolding moved
  moved_agree = ordered_agree n (changed old new) (changed old' new') changed_agree

  pub trail_agree : (k : Kind) (a b : ℕ) → a < new'.banks → b < new'.banks → trail k old new a b ≡ trail k old' new' a b
  unfolding trail on_trail
  trail_agree k a b la lb =
      ordered_agree n _ _ (λ x h. rw (turned_agree k a x la h, turned_agree k b x lb h, reached_agree x h))
