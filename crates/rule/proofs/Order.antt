-- `earlier` is a strict total order.
use mathlib.Core.Bool.{Bool, ◌&&◌, ◌||◌, not}
use mathlib.Core.Logic.{◌⊎◌, inl, inr, ◌≢◌}
use mathlib.Core.Path.{◌≡◌, sym, ◌∙◌}
use native.Mathlib.Omega.{arith}
use Prim.Native.Nat.{ℕ}
use lib.Dec.{T, ltb, eqb, ltb→lt, lt→ltb, eqb→eq, not_T, T_not}
use Rattle.rule.specs.Lists.{Strict}
use Rattle.rule.specs.Order.{tie_by, earlier_by}
use Rattle.rule.specs.Graph.{Graph, degree, earlier}
use Rattle.rule.proofs.Booleans.{and_l, and_r, both, or_l, or_r, or_cases, passes?, eq→eqb, lt_or_ge, test_ext}
use Rattle.rule.proofs.Degrees.{without_numbers}

pub ltb_strict : Strict ltb
ltb_strict = record {
  irrefl = λ x t. omega (arith, ltb→lt x x t);
  trans = λ x y z s t. lt→ltb x z (omega (arith, ltb→lt x y s, ltb→lt y z t));
  total = λ x y n. elim (lt_or_ge x y) [ inl h ↦ inl (lt→ltb x y h) | inr h ↦ inr (lt→ltb y x (omega arith)) ];
}

turn_strict : (R : ℕ → ℕ → Bool) → Strict R → Strict (λ x y. R y x)
turn_strict R s = record {
  irrefl = s.irrefl;
  trans = λ x y z p q. s.trans z y x q p;
  total = λ x y n. s.total y x (λ e. n (sym e));
}

-- of two different numbers, one comes before
pub strict_flip : (R : ℕ → ℕ → Bool) → Strict R → (x y : ℕ) → x ≢ y → R x y ≡ not (R y x)
strict_flip R s x y n =
    test_ext (R x y) (not (R y x))
    (λ t. not_T (R y x) (λ u. s.irrefl x (s.trans x y x t u)))
    (λ t. elim (s.total x y n) [ inl u ↦ u | inr u ↦ absurd (T_not (R y x) t u) ])

-- by a key, and where the keys are equal by another order
module _ (key : ℕ → ℕ) (K R : ℕ → ℕ → Bool) (strictK : Strict K) (strictR : Strict R) where
  abbrev by_key : ℕ → ℕ → Bool
  by_key x y = K (key x) (key y) || eqb (key x) (key y) && R x y

  says : (x y : ℕ) → T (by_key x y) → T (K (key x) (key y)) ⊎ ((key x ≡ key y) × T (R x y))
  says x y t =
      elim (or_cases (K (key x) (key y)) (eqb (key x) (key y) && R x y) t) [
        | inl u ↦ inl u
        | inr u ↦ inr (eqb→eq (key x) (key y) (and_l (eqb (key x) (key y)) (R x y) u), and_r (eqb (key x) (key y)) (R x y) u)
      ]

  by_K : (x y : ℕ) → T (K (key x) (key y)) → T (by_key x y)
  by_K x y t = or_l (K (key x) (key y)) _ t

  by_R : (x y : ℕ) → key x ≡ key y → T (R x y) → T (by_key x y)
  by_R x y e t = or_r (K (key x) (key y)) _ (both (eqb (key x) (key y)) (R x y) (eq→eqb (key x) (key y) e) t)

  by_key_strict : Strict by_key
  by_key_strict = record {
    irrefl = λ x t. elim (says x x t) [ inl u ↦ strictK.irrefl (key x) u | inr u ↦ strictR.irrefl x u.1 ];
    trans = λ x y z s t. elim (says x y s) [
      | inl u ↦ elim (says y z t) [ inl w ↦ by_K x z (strictK.trans (key x) (key y) (key z) u w) | inr w ↦ by_K x z (rw (← w.0) u) ]
      | inr u ↦ elim (says y z t) [ inl w ↦ by_K x z (rw u.0 w) | inr w ↦ by_R x z (u.0 ∙ w.0) (strictR.trans x y z u.1 w.1) ]
    ];
    total = λ x y n. elim (passes? (eqb (key x) (key y))) [
      | inl t ↦
          let e = eqb→eq (key x) (key y) t in
          elim (strictR.total x y n) [ inl u ↦ inl (by_R x y e u) | inr u ↦ inr (by_R y x (sym e) u) ]
      | inr d ↦ elim (strictK.total (key x) (key y) (λ e. d (eq→eqb (key x) (key y) e))) [ inl u ↦ inl (by_K x y u) | inr u ↦ inr (by_K y x u) ]
    ];
  }

-- the smaller rank first, then the smaller number
tie_strict : (rank : ℕ → ℕ) → Strict (λ x y. tie_by (rank x) x (rank y) y)
unfolding tie_by
tie_strict rank = by_key_strict rank ltb ltb ltb_strict ltb_strict

-- the larger key first, then the smaller rank, then the smaller number
pub keyed_strict : (key rank : ℕ → ℕ) → Strict (λ x y. earlier_by (key x) (rank x) x (key y) (rank y) y)
unfolding earlier_by
keyed_strict key rank =
    by_key_strict key (λ m n. ltb n m) (λ x y. tie_by (rank x) x (rank y) y) (turn_strict ltb ltb_strict) (tie_strict rank)

-- `earlier` depends on the two degrees and ranks alone
pub earlier_same : (G H : Graph) (p q : ℕ) → degree G p ≡ degree H p → degree G q ≡ degree H q → G.rank p ≡ H.rank p → G.rank q ≡ H.rank q
    → earlier G p q ≡ earlier H p q
unfolding earlier
earlier_same G H p q dp dq rp rq = cc

-- where the two ranks differ, the numbers do not count: the banks may have others
pub earlier_elsewhere : (G H : Graph) (p q p' q' : ℕ) → degree G p ≡ degree H p' → degree G q ≡ degree H q' → G.rank p ≡ H.rank p' → G.rank q ≡ H.rank q'
    → G.rank p ≢ G.rank q → earlier G p q ≡ earlier H p' q'
unfolding earlier
earlier_elsewhere G H p q p' q' dp dq rp rq n =
    let e = without_numbers (degree G p) (G.rank p) p p' (degree G q) (G.rank q) q q' n in cc

module _ (G : Graph) where
  pub earlier_strict : Strict (earlier G)
  unfolding earlier
  earlier_strict = keyed_strict (degree G) G.rank

  pub earlier_irrefl : (p : ℕ) → T (earlier G p p) → ⊥
  earlier_irrefl = earlier_strict.irrefl

  pub earlier_trans : (p q r : ℕ) → T (earlier G p q) → T (earlier G q r) → T (earlier G p r)
  earlier_trans = earlier_strict.trans

  pub earlier_total : (p q : ℕ) → p ≢ q → T (earlier G p q) ⊎ T (earlier G q p)
  earlier_total = earlier_strict.total

  -- of two different banks, one is earlier
  pub earlier_flip : (p q : ℕ) → p ≢ q → earlier G p q ≡ not (earlier G q p)
  earlier_flip = strict_flip (earlier G) earlier_strict
