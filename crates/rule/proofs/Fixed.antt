-- The old and the new clashes fix the trail: the clash that differs says of which kind the edit is, and which two banks it names.
use mathlib.Core.Bool.{Bool, true, false, ◌&&◌, ◌||◌, not, or_comm}
use mathlib.Core.Logic.{inl, inr}
use mathlib.Core.Path.{◌≡◌, refl, sym, ap, ap₂, ◌∙◌}
use native.Mathlib.Omega.{arith}
use Prim.Native.Nat.{ℕ, ◌<◌}
use lib.Dec.{T, eqb}
use Rattle.rule.specs.Graph.{Graph, order, pair, Same}
use Rattle.rule.specs.Reach.{edited, is_named, is_turned, is_reached, on_trail, trail}
use Rattle.rule.specs.WorkList.{Allowed}
use Rattle.rule.specs.declared.Kind.{Kind}
use Rattle.rule.specs.declared.Kind.TheVariants.{Adding, Striking}
use Rattle.rule.proofs.Booleans.{t_along}
use Rattle.rule.proofs.Lists.{filter_cong}
use Rattle.rule.proofs.Pairs.{pair_is, pair_here}
use Rattle.rule.proofs.Reaches.{trail_agree}

pub edited_banks : (k : Kind) (G : Graph) (a b : ℕ) → (edited k G a b).banks ≡ G.banks
unfolding edited
edited_banks Adding G a b = refl
edited_banks Striking G a b = refl

-- an edit changes no rank
pub edited_ranks : (k : Kind) (G : Graph) (a b : ℕ) → (edited k G a b).rank ≡ G.rank
unfolding edited
edited_ranks Adding G a b = refl
edited_ranks Striking G a b = refl

-- a clash that was not there (c, and d in the other plan) and now is: by p in the one, so by q in the other
came : (c d p q : Bool) → (T c → ⊥) → T p → c ≡ d → (c || p) ≡ (d || q) → T q
came true d p q n t e f = absurd (n tt)
came false true p q n t e f = absurd (t_along (sym e) tt)
came false false p q n t e f = t_along f t

came_not : (c d p q : Bool) → (T c → ⊥) → T p → c ≡ d → (c || p) ≡ (d && q) → ⊥
came_not true d p q n t e f = n tt
came_not false true p q n t e f = t_along (sym e) tt
came_not false false p q n t e f = t_along f t

-- one that was there and is gone
went : (c d p q : Bool) → T c → T p → c ≡ d → (c && not p) ≡ (d && not q) → T q
went true true true true t u e f = tt
went true true true false t u e f = absurd (t_along (sym f) tt)
went true true false q t u e f = absurd u
went true false p q t u e f = absurd (t_along e tt)
went false d p q t u e f = absurd t

went_not : (c d p q : Bool) → T c → T p → c ≡ d → (c && not p) ≡ (d || q) → ⊥
went_not true true true q t u e f = t_along (sym f) tt
went_not true true false q t u e f = u
went_not true false p q t u e f = t_along e tt
went_not false d p q t u e f = t

-- the edit is of the same kind and names the same two banks
same_edit : (G H : Graph) (k k' : Kind) (a b a' b' : ℕ) → Allowed k G a b → G.clash a b ≡ H.clash a b
    → (edited k G a b).clash a b ≡ (edited k' H a' b').clash a b → (k ≡ k') × T (pair a' b' a b)
unfolding edited
same_edit G H Adding Adding a b a' b' ok o n = (refl, came (G.clash a b) (H.clash a b) (pair a b a b) (pair a' b' a b) ok (pair_here a b) o n)
same_edit G H Adding Striking a b a' b' ok o n = absurd (came_not (G.clash a b) (H.clash a b) (pair a b a b) (not (pair a' b' a b)) ok (pair_here a b) o n)
same_edit G H Striking Adding a b a' b' ok o n = absurd (went_not (G.clash a b) (H.clash a b) (pair a b a b) (pair a' b' a b) ok (pair_here a b) o n)
same_edit G H Striking Striking a b a' b' ok o n = (refl, went (G.clash a b) (H.clash a b) (pair a b a b) (pair a' b' a b) ok (pair_here a b) o n)

-- the trail does not tell a from b
trail_swap : (k : Kind) (old new : Graph) (a b : ℕ) → trail k old new a b ≡ trail k old new b a
unfolding trail on_trail is_named
trail_swap k old new a b =
    filter_cong (on_trail k old new a b) (on_trail k old new b a) (order new) (λ x m.
    ap (λ (t : Bool). t || is_reached old new x)
    (ap₂ ◌||◌ (or_comm (eqb x a) (eqb x b)) (or_comm (is_turned k old new a x) (is_turned k old new b x))))

module _ {G H : Graph} (k k' : Kind) (a b a' b' : ℕ) (la : a < G.banks) (lb : b < G.banks) (allowed : Allowed k G a b)
    (old : Same G H) (new : Same (edited k G a b) (edited k' H a' b')) where
  below : (x : ℕ) → x < G.banks → x < (edited k' H a' b').banks
  below x l = omega (arith, new.banks, edited_banks k G a b)

  below_H : (x : ℕ) → x < G.banks → x < H.banks
  below_H x l = omega (arith, old.banks)

  named : (k ≡ k') × T (pair a' b' a b)
  named = same_edit G H k k' a b a' b' allowed (old.clash a b (below_H a la) (below_H b lb)) (new.clash a b (below a la) (below b lb))

  same_trail-law : trail k G (edited k G a b) a b ≡ trail k' H (edited k' H a' b') a b
  same_trail-law =
      trail_agree old new (sym (edited_banks k' H a' b')) k a b (below a la) (below b lb)
      ∙ ap (λ (e : Kind). trail e H (edited k' H a' b') a b) named.0

  pub trail_fixed : trail k G (edited k G a b) a b ≡ trail k' H (edited k' H a' b') a' b'
  trail_fixed =
      elim (pair_is a' b' a b named.1) [
        | inl e ↦ same_trail-law ∙ ap₂ (trail k' H (edited k' H a' b')) e.0 e.1
        | inr e ↦ same_trail-law ∙ ap₂ (trail k' H (edited k' H a' b')) e.0 e.1 ∙ trail_swap k' H (edited k' H a' b') b' a'
      ]
