-- One clash more and one clash less: neighbours and degrees. A clash struck is one that, added again, gives back the neighbours.
use mathlib.Core.Bool.{Bool, true, false, ◌&&◌, ◌||◌, not, or_comm}
use mathlib.Core.Logic.{inl, inr, ◌≢◌}
use mathlib.Core.Path.{◌≡◌, refl, sym, ap, ◌∙◌}
use native.Mathlib.Omega.{arith}
use Prim.Native.Nat.{ℕ, ◌+◌, ◌<◌}
use lib.Dec.{T, eqb, ltb, eqb→eq, T_not}
use lib.ListN.{length}
use borrow.Author.Tests.{eq-eqb, ne_eqb}
use Rattle.rule.specs.Lists.{upto, memb, insert_by}
use Rattle.rule.specs.Graph.{Graph, neighbours, degree, pair, added, struck}
use Rattle.rule.proofs.Booleans.{and_l, and_r, both, or_l, or_r, or_cases, test_ext, t_along, eq→eqb, and_true, or_false}
use Rattle.rule.proofs.Lists.{filter_cong}
use Rattle.rule.proofs.Order.{ltb_strict}
use Rattle.rule.proofs.Sorting.{sorted_unique, sorted_insert_by, memb_insert_by, length_insert_by}
use Rattle.rule.proofs.Neighbours.{degree_length, neighbours_in, in_neighbours, neighbours_sorted}

put_back : (m e : Bool) → (T e → T m) → m ≡ (e || (m && not e))
put_back true true h = refl
put_back true false h = refl
put_back false true h = absurd (h tt)
put_back false false h = refl

-- the pair of a and b, seen from each bank
module _ (a b : ℕ) where
  pub pair_a : a ≢ b → (x : ℕ) → pair a b a x ≡ eqb x b
  unfolding pair
  pair_a d x = rw (eq-eqb a a refl, ne_eqb a b d, or_false)

  pub pair_b : a ≢ b → (x : ℕ) → pair a b b x ≡ eqb x a
  unfolding pair
  pair_b d x = rw (eq-eqb b b refl, ne_eqb b a (λ e. d (sym e)))

  pub pair_none : (y : ℕ) → y ≢ a → y ≢ b → (x : ℕ) → pair a b y x ≡ false
  unfolding pair
  pair_none y da db x = rw (ne_eqb y a da, ne_eqb y b db)

module _ (G : Graph) (a b : ℕ) where
  -- where the clash of a and b gives y the neighbour z
  module _ (y z : ℕ) (gives : (x : ℕ) → pair a b y x ≡ eqb x z) where
    pub neighbours_more : z < G.banks → (x : ℕ) → memb x (neighbours (added G a b) y) ≡ (memb x (neighbours G y) || eqb x z)
    neighbours_more lz x =
        test_ext (memb x (neighbours (added G a b) y)) (memb x (neighbours G y) || eqb x z)
        (λ m. (let r = neighbours_in (added G a b) y x m in
        elim (or_cases (G.clash y x) (pair a b y x) r.1) [
          | inl t ↦ or_l (memb x (neighbours G y)) (eqb x z) (in_neighbours G y x r.0 t)
          | inr t ↦ or_r (memb x (neighbours G y)) (eqb x z) (t_along (gives x) t)
        ]))
        (λ m. elim (or_cases (memb x (neighbours G y)) (eqb x z) m) [
          | inl t ↦ let r = neighbours_in G y x t in in_neighbours (added G a b) y x r.0 (or_l (G.clash y x) (pair a b y x) r.1)
          | inr t ↦ in_neighbours (added G a b) y x (rw (eqb→eq x z t) lz) (or_r (G.clash y x) (pair a b y x) (t_along (sym (gives x)) t))
        ])

    pub neighbours_less : (x : ℕ) → memb x (neighbours (struck G a b) y) ≡ (memb x (neighbours G y) && not (eqb x z))
    neighbours_less x =
        test_ext (memb x (neighbours (struck G a b) y)) (memb x (neighbours G y) && not (eqb x z))
        (λ m. (let r = neighbours_in (struck G a b) y x m in
        both (memb x (neighbours G y)) (not (eqb x z)) (in_neighbours G y x r.0 (and_l (G.clash y x) (not (pair a b y x)) r.1))
        (t_along (ap not (gives x)) (and_r (G.clash y x) (not (pair a b y x)) r.1))))
        (λ m. (let r = neighbours_in G y x (and_l (memb x (neighbours G y)) (not (eqb x z)) m) in
        in_neighbours (struck G a b) y x r.0 (both (G.clash y x) (not (pair a b y x)) r.1 (t_along (ap not (sym (gives x))) (and_r (memb x (neighbours G y)) (not (eqb x z)) m)))))

    pub degree_more : z < G.banks → (T (G.clash y z) → ⊥) → degree (added G a b) y ≡ degree G y + 1
    degree_more lz free =
        let is : neighbours (added G a b) y ≡ insert_by ltb z (neighbours G y) =
        sorted_unique ltb ltb_strict _ _ (neighbours_sorted (added G a b) y)
        (sorted_insert_by ltb ltb_strict z (neighbours G y) (λ m. free (neighbours_in G y z m).1) (neighbours_sorted G y))
        (λ x. neighbours_more lz x ∙ or_comm (memb x (neighbours G y)) (eqb x z) ∙ sym (memb_insert_by ltb z (neighbours G y) x)) in
        omega (arith, degree_length (added G a b) y, degree_length G y, ap length is, length_insert_by ltb z (neighbours G y))

    pub degree_less : z < G.banks → T (G.clash y z) → degree G y ≡ degree (struck G a b) y + 1
    degree_less lz there =
        let is : neighbours G y ≡ insert_by ltb z (neighbours (struck G a b) y) =
        sorted_unique ltb ltb_strict _ _ (neighbours_sorted G y)
        (sorted_insert_by ltb ltb_strict z (neighbours (struck G a b) y) (λ m. T_not (eqb z z) (and_r (memb z (neighbours G y)) (not (eqb z z)) (t_along (neighbours_less z) m)) (eq→eqb z z refl))
        (neighbours_sorted (struck G a b) y))
        (λ x. put_back (memb x (neighbours G y)) (eqb x z) (λ t. rw (eqb→eq x z t) (in_neighbours G y z lz there))
        ∙ ap (λ (t : Bool). eqb x z || t) (sym (neighbours_less x)) ∙ sym (memb_insert_by ltb z (neighbours (struck G a b) y) x)) in
        omega (arith, degree_length (struck G a b) y, degree_length G y, ap length is, length_insert_by ltb z (neighbours (struck G a b) y))

  -- every other bank keeps its neighbours
  module _ (y : ℕ) (da : y ≢ a) (db : y ≢ b) where
    pub neighbours_added : neighbours (added G a b) y ≡ neighbours G y
    unfolding neighbours
    neighbours_added =
        filter_cong (λ x. G.clash y x || pair a b y x) (G.clash y) (upto G.banks) (λ x m. ap (λ (t : Bool). G.clash y x || t) (pair_none a b y da db x) ∙ or_false (G.clash y x))

    pub neighbours_struck : neighbours (struck G a b) y ≡ neighbours G y
    unfolding neighbours
    neighbours_struck =
        filter_cong (λ x. G.clash y x && not (pair a b y x)) (G.clash y) (upto G.banks) (λ x m. ap (λ (t : Bool). G.clash y x && not t) (pair_none a b y da db x) ∙ and_true (G.clash y x))

    pub degree_added : degree (added G a b) y ≡ degree G y
    degree_added = degree_length (added G a b) y ∙ ap length neighbours_added ∙ sym (degree_length G y)

    pub degree_struck : degree (struck G a b) y ≡ degree G y
    degree_struck = degree_length (struck G a b) y ∙ ap length neighbours_struck ∙ sym (degree_length G y)

  -- the degrees of a and b, where they are different banks and the clash goes both ways
  module _ (la : a < G.banks) (lb : b < G.banks) (d : a ≢ b) where
    pub degrees_more : (T (G.clash a b) → ⊥) → (T (G.clash b a) → ⊥) → (degree (added G a b) a ≡ degree G a + 1) × (degree (added G a b) b ≡ degree G b + 1)
    degrees_more fa fb = (degree_more a b (pair_a a b d) lb fa, degree_more b a (pair_b a b d) la fb)

    pub degrees_less : T (G.clash a b) → T (G.clash b a) → (degree G a ≡ degree (struck G a b) a + 1) × (degree G b ≡ degree (struck G a b) b + 1)
    degrees_less ta tb = (degree_less a b (pair_a a b d) lb ta, degree_less b a (pair_b a b d) la tb)
