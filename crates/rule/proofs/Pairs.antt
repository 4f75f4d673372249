-- The pair of two banks, whose clash an edit adds or strikes.
use mathlib.Core.Bool.{◌&&◌, ◌||◌, and_comm, or_comm}
use mathlib.Core.Logic.{◌⊎◌, inl, inr}
use mathlib.Core.Path.{◌≡◌, refl, ap₂, ◌∙◌}
use Prim.Native.Nat.{ℕ}
use lib.Dec.{T, eqb, eqb→eq}
use Rattle.rule.specs.Graph.{pair}
use Rattle.rule.proofs.Booleans.{and_l, and_r, both, or_l, or_cases, t_along, eq→eqb}

-- the pair of a and b, one way or the other
pub pair_is : (a b x y : ℕ) → T (pair a b x y) → ((x ≡ a) × (y ≡ b)) ⊎ ((x ≡ b) × (y ≡ a))
unfolding pair
pair_is a b x y t =
    elim (or_cases (eqb x a && eqb y b) (eqb x b && eqb y a) t) [
      | inl u ↦ inl (eqb→eq x a (and_l (eqb x a) (eqb y b) u), eqb→eq y b (and_r (eqb x a) (eqb y b) u))
      | inr u ↦ inr (eqb→eq x b (and_l (eqb x b) (eqb y a) u), eqb→eq y a (and_r (eqb x b) (eqb y a) u))
    ]

-- it does not matter which is first
pub pair_comm : (a b x y : ℕ) → pair a b x y ≡ pair a b y x
unfolding pair
pair_comm a b x y = or_comm (eqb x a && eqb y b) (eqb x b && eqb y a) ∙ ap₂ ◌||◌ (and_comm (eqb x b) (eqb y a)) (and_comm (eqb x a) (eqb y b))

-- a and b are that pair
pub pair_here : (a b : ℕ) → T (pair a b a b)
unfolding pair
pair_here a b = or_l (eqb a a && eqb b b) _ (both (eqb a a) (eqb b b) (eq→eqb a a refl) (eq→eqb b b refl))

pub pair_there : (a b : ℕ) → T (pair a b b a)
pair_there a b = t_along (pair_comm a b a b) (pair_here a b)
