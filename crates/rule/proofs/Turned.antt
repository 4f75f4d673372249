-- (ii) of the trail in 01's words, for an add and for a strike, is "the order turned over": an add raises the degrees of a and b alone, and by
-- one, so no neighbour gets earlier than they are.
use mathlib.Core.Bool.{Bool, true, false, ◌&&◌, ◌||◌, not, beq}
use mathlib.Core.Logic.{◌⊎◌, inl, inr, ◌≢◌}
use mathlib.Core.Path.{◌≡◌, refl, sym, ap, ap₂, subst}
use native.Mathlib.Decide.{ℕ_discrete}
use native.Mathlib.Omega.{arith}
use Prim.Native.Nat.{ℕ, ◌+◌, ◌<◌}
use lib.Dec.{T, eqb, ltb, eqb→eq, ltb→lt, lt→ltb}
use Rattle.rule.specs.Order.{tie_by, earlier_by}
use Rattle.rule.specs.Graph.{Graph, degree, earlier, later, order, added, struck}
use Rattle.rule.specs.Reach.{edited, is_named, is_turned, is_reached, on_trail, trail}
use Rattle.rule.specs.declared.Kind.{Kind}
use Rattle.rule.specs.declared.Kind.TheVariants.{Adding, Striking}
use Rattle.rule.specs.WorkList.{OneEdit, Allowed, turned, seed, is_taken, taken}
use Rattle.rule.proofs.Booleans.{and_l, and_r, both, or_l, or_r, or_cases, t_along, eq→eqb}
use Rattle.rule.proofs.Lists.{filter_cong}
use Rattle.rule.proofs.Order.{earlier_irrefl}
use Rattle.rule.proofs.OneClash.{degrees_more, degrees_less, degree_added, degree_struck}
use Rattle.rule.proofs.Steps.{added_one, struck_one}

-- the ranks and numbers of two banks, p and q
module _ (rp p rq q : ℕ) where
  says : (dp dq : ℕ) → T (earlier_by dp rp p dq rq q) → (dq < dp) ⊎ ((dp ≡ dq) × T (tie_by rp p rq q))
  unfolding earlier_by
  says dp dq t =
      elim (or_cases (ltb dq dp) (eqb dp dq && tie_by rp p rq q) t) [
        | inl u ↦ inl (ltb→lt dq dp u)
        | inr u ↦ inr (eqb→eq dp dq (and_l (eqb dp dq) (tie_by rp p rq q) u), and_r (eqb dp dq) (tie_by rp p rq q) u)
      ]

  by_more : (dp dq : ℕ) → dq < dp → T (earlier_by dp rp p dq rq q)
  unfolding earlier_by
  by_more dp dq h = or_l (ltb dq dp) _ (lt→ltb dq dp h)

  by_tie : (dp dq : ℕ) → dp ≡ dq → T (tie_by rp p rq q) → T (earlier_by dp rp p dq rq q)
  unfolding earlier_by
  by_tie dp dq e h = or_r (ltb dq dp) _ (both (eqb dp dq) (tie_by rp p rq q) (eq→eqb dp dq e) h)

  -- from one pair of degrees to another
  carry : (hp hq lp lq : ℕ) → (hq < hp → lq < lp) → (hp ≡ hq → T (tie_by rp p rq q) → T (earlier_by lp rp p lq rq q))
      → T (earlier_by hp rp p hq rq q) → T (earlier_by lp rp p lq rq q)
  carry hp hq lp lq f g t = elim (says hp hq t) [ inl h ↦ by_more lp lq (f h) | inr h ↦ g h.0 h.1 ]

-- the degrees of a and b are one higher in `hi`, all others the same, and the ranks
record Raised (lo hi : Graph) (a b : ℕ) : Type 0 where
  ranks : hi.rank ≡ lo.rank
  at_a : degree hi a ≡ degree lo a + 1
  at_b : degree hi b ≡ degree lo b + 1
  others : (x : ℕ) → x ≢ a → x ≢ b → degree hi x ≡ degree lo x

raised_swap : {lo hi : Graph} {a b : ℕ} → Raised lo hi a b → Raised lo hi b a
raised_swap r = record { ranks = r.ranks; at_a = r.at_b; at_b = r.at_a; others = λ x db da. r.others x da db }

-- who is earlier than a by the higher degrees is so by the lower ones
still_earlier : (lo hi : Graph) (a b : ℕ) → Raised lo hi a b → (x : ℕ) → T (earlier hi x a) → T (earlier lo x a)
still_earlier lo hi a b r x t = go (ℕ_discrete x a) (ℕ_discrete x b)
  where
    by_lower : T (earlier hi x a) → T (earlier_by (degree hi x) (lo.rank x) x (degree hi a) (lo.rank a) a)
    by_lower u = unfold earlier in subst (λ (k : ℕ → ℕ). T (earlier_by (degree hi x) (k x) x (degree hi a) (k a) a)) r.ranks u

    lowered : T (earlier_by (degree lo x) (lo.rank x) x (degree lo a) (lo.rank a) a) → T (earlier lo x a)
    lowered u = unfold earlier in u

    go : Dec (x ≡ a) → Dec (x ≡ b) → T (earlier lo x a)
    go (yes e) d = absurd (earlier_irrefl hi a (rw e at t))
    go (no na) (yes e) =
        let dx : degree hi x ≡ degree lo x + 1 = rw e r.at_b in
        let at = carry (lo.rank x) x (lo.rank a) a (degree hi x) (degree hi a) (degree lo x) (degree lo a) (λ h. omega (arith, r.at_a))
        (λ q h. by_tie (lo.rank x) x (lo.rank a) a (degree lo x) (degree lo a) (omega (arith, r.at_a)) h) in
        lowered (at (by_lower t))
    go (no na) (no nb) =
        let dx = r.others x na nb in
        let at = carry (lo.rank x) x (lo.rank a) a (degree hi x) (degree hi a) (degree lo x) (degree lo a) (λ h. omega (arith, r.at_a))
        (λ q h. by_more (lo.rank x) x (lo.rank a) a (degree lo x) (degree lo a) (omega (arith, r.at_a))) in
        lowered (at (by_lower t))

-- one way only
turns_down : (p q : Bool) → (T q → T p) → (p && not q) ≡ not (beq p q)
turns_down true true h = refl
turns_down true false h = refl
turns_down false true h = absurd (h tt)
turns_down false false h = refl

turns_up : (p q : Bool) → (T p → T q) → (not p && q) ≡ not (beq p q)
turns_up true true h = refl
turns_up true false h = absurd (h tt)
turns_up false true h = refl
turns_up false false h = refl

module _ (G : Graph) (symmetric : (x y : ℕ) → x < G.banks → y < G.banks → G.clash x y ≡ G.clash y x)
    (a b : ℕ) (la : a < G.banks) (lb : b < G.banks) (d : a ≢ b) where
  added_raised : (T (G.clash a b) → ⊥) → Raised G (added G a b) a b
  added_raised free =
      let r = degrees_more G a b la lb d free (λ t. free (t_along (symmetric b a lb la) t)) in
      record { ranks = refl; at_a = r.0; at_b = r.1; others = degree_added G a b }

  struck_raised : T (G.clash a b) → Raised (struck G a b) G a b
  struck_raised there =
      let r = degrees_less G a b la lb d there (t_along (symmetric a b la lb) there) in
      record { ranks = refl; at_a = r.0; at_b = r.1; others = λ x da db. sym (degree_struck G a b x da db) }

  -- (ii) is "turned over", of a and of b
  pub is_turned-law : (k : Kind) → Allowed k G a b → (x : ℕ)
      → (is_turned k G (edited k G a b) a x ≡ turned G (edited k G a b) a x) × (is_turned k G (edited k G a b) b x ≡ turned G (edited k G a b) b x)
  unfolding is_turned turned edited later
  is_turned-law Adding free x =
      let r = added_raised free in (
        ap (λ (t : Bool). (added G a b).clash a x && t) (turns_down (earlier G x a) (earlier (added G a b) x a) (still_earlier G (added G a b) a b r x)),
        ap (λ (t : Bool). (added G a b).clash b x && t) (turns_down (earlier G x b) (earlier (added G a b) x b) (still_earlier G (added G a b) b a (raised_swap r) x)),
      )
  is_turned-law Striking there x =
      let r = struck_raised there in (
        ap (λ (t : Bool). (struck G a b).clash a x && t) (turns_up (earlier G x a) (earlier (struck G a b) x a) (still_earlier (struck G a b) G a b r x)),
        ap (λ (t : Bool). (struck G a b).clash b x && t) (turns_up (earlier G x b) (earlier (struck G a b) x b) (still_earlier (struck G a b) G b a (raised_swap r) x)),
      )

  module _ (k : Kind) (allowed : Allowed k G a b) where
    -- so the trail is what the work-list takes up
    pub on_trail_taken : (x : ℕ) → on_trail k G (edited k G a b) a b x ≡ is_taken G (edited k G a b) a b x
    unfolding on_trail is_taken seed
    on_trail_taken x =
        let r = is_turned-law k allowed x in
        ap₂ (λ (s t : Bool). (is_named a b x || (s || t)) || is_reached G (edited k G a b) x) r.0 r.1

    pub trail_taken : trail k G (edited k G a b) a b ≡ taken G (edited k G a b) a b
    unfolding trail taken
    trail_taken =
        filter_cong (on_trail k G (edited k G a b) a b) (is_taken G (edited k G a b) a b) (order (edited k G a b)) (λ x m. on_trail_taken x)

  -- and it is one edit
  pub edited_one : (k : Kind) → OneEdit G (edited k G a b) a b
  unfolding edited
  edited_one Adding = added_one G symmetric a b
  edited_one Striking = struck_one G symmetric a b
