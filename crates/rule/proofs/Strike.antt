-- The lowest neighbour of a bank, and the neighbours that are left when the clash with it is struck.
use mathlib.Core.Bool.{Bool, true, false, ◌&&◌, not}
use mathlib.Core.List.{List, [], ◌∷◌}
use mathlib.Core.Path.{◌≡◌, refl, sym, ap, subst, ◌∙◌}
use Prim.Native.Nat.{ℕ, ◌<◌}
use lib.Dec.{T, eqb, ltb}
use borrow.Author.Tests.{eq-eqb, ne_eqb}
use Rattle.rule.specs.Lists.{upto, filter, memb, Sorted}
use Rattle.rule.specs.Graph.{Graph, neighbours, pair, struck}
use Rattle.rule.proofs.Booleans.{is_true, or_false}
use Rattle.rule.proofs.Lists.{in_head, in_tail, upto_below, filter_in, filter_cong, filter_filter}
use Rattle.rule.proofs.Order.{ltb_strict}
use Rattle.rule.proofs.Sorting.{sorted_upto, sorted_filter}

not_in : (v : ℕ) (xs : List ℕ) → (T (memb v xs) → ⊥) → filter (λ x. not (eqb x v)) xs ≡ xs
unfolding filter
not_in v [] n = refl
not_in v (x ∷ xs) n =
    rw (ne_eqb x v (λ e. n (in_head v x xs (sym e)))) (ap (◌∷◌ x) (not_in v xs (λ m. n (in_tail v x xs m))))

module _ (G : Graph) (b v : ℕ) (vs : List ℕ) (e : neighbours G b ≡ v ∷ vs) (apart : G.clash b b ≡ false) where
  in_row : T (memb v (filter (G.clash b) (upto G.banks)))
  unfolding neighbours
  in_row = rw e (in_head v v vs refl)

  pub first_below : v < G.banks
  first_below = upto_below G.banks v (filter_in (G.clash b) (upto G.banks) v in_row).0

  pub first_clash : G.clash b v ≡ true
  first_clash = is_true (G.clash b v) (filter_in (G.clash b) (upto G.banks) v in_row).1

  pub first_other : b ≡ v → ⊥
  first_other q =
      let f : G.clash b v ≡ false = rw (← q) apart in
      let z : true ≡ false = sym first_clash ∙ f in
      subst T z tt

  once : T (memb v vs) → ⊥
  unfolding neighbours
  once m =
      let s : Sorted ltb (v ∷ vs) = subst (Sorted ltb) e (sorted_filter ltb (G.clash b) (upto G.banks) (sorted_upto G.banks)) in
      ltb_strict.irrefl v (s.0 v m)

  this_pair : (x : ℕ) → pair b v b x ≡ eqb x v
  unfolding pair
  this_pair x = rw (eq-eqb b b refl, ne_eqb b v first_other) (or_false (eqb x v))

  pub struck_first : neighbours (struck G b v) b ≡ vs
  unfolding neighbours filter
  struck_first =
      filter_cong (λ x. G.clash b x && not (pair b v b x)) (λ x. G.clash b x && not (eqb x v)) (upto G.banks) (λ x m. ap (λ (t : Bool). G.clash b x && not t) (this_pair x))
      ∙ sym (filter_filter (G.clash b) (λ x. not (eqb x v)) (upto G.banks))
      ∙ ap (filter (λ x. not (eqb x v))) e
      ∙ rw (eq-eqb v v refl) (not_in v vs once)
