-- The steps that serve a list of banks, and the step of one of them.
use mathlib.Core.Bool.{Bool}
use mathlib.Core.List.{List, [], ◌∷◌, ◌++◌, append_assoc}
use mathlib.Core.Logic.{inl, inr}
use mathlib.Core.Path.{◌≡◌, refl, sym, ap, ◌∙◌}
use native.Mathlib.Nat.{div-eq_of_lt, div-eq-sub-div}
use native.Mathlib.Omega.{arith}
use Prim.Native.Nat.{ℕ, zero, suc, ◌+◌, ◌-◌, ◌/◌, ◌≤◌, ◌<◌}
use lib.Dec.{T, ltb}
use lib.ListN.{length, get_or, take, drop, length-append, length-take, length-drop, take-append-drop, drop_of_length-le}
use lib.Seq.{take-append-le, drop-append-le, take-append-add}
use Rattle.rule.specs.Lists.{memb, Sorted, Once}
use Rattle.rule.proofs.Booleans.{passes?, cond_yes, cond_no, lt_or_ge}
use Rattle.rule.proofs.Lists.{in_head, in_tail, in_cons, in_none, in_append_l, in_append_r, in_append}
use Rattle.memory.proofs.Fronts.{in_take, in_drop}
use Rattle.crews.specs.Day.{steps_in, steps_of, step_of, divided_up}
use Rattle.crews.proofs.Divided.{divided_none, divided_one}

-- no number stands twice in two lists, one after the other: in neither, nor in both
pub once_parts : (xs ys : List ℕ) → Once (xs ++ ys) → Once xs × Once ys × ((x : ℕ) → T (memb x xs) → T (memb x ys) → ⊥)
once_parts [] ys o = (tt, o, λ x m k. in_none x m)
once_parts (x ∷ xs) ys o =
    let p = once_parts xs ys o.1 in (
      (λ m. o.0 (in_append_l x xs ys m), p.0),
      p.1,
      λ y m k. elim (in_cons y x xs m) [ inl e ↦ o.0 (in_append_r x xs ys (rw e at k)) | inr t ↦ p.2 y t k ],
    )

pub once_append : (xs ys : List ℕ) → Once xs → Once ys → ((x : ℕ) → T (memb x xs) → T (memb x ys) → ⊥) → Once (xs ++ ys)
once_append [] ys a b n = b
once_append (x ∷ xs) ys a b n = (
  λ m. elim (in_append x xs ys m) [ inl t ↦ a.0 t | inr t ↦ n x (in_head x x xs refl) t ],
  once_append xs ys a.1 b (λ y m k. n y (in_tail y x xs m) k),
)

-- a part of what ascends does
pub sorted_take : (before : ℕ → ℕ → Bool) (k : ℕ) (xs : List ℕ) → Sorted before xs → Sorted before (take k xs)
sorted_take before zero xs o = tt
sorted_take before (suc k) [] o = tt
sorted_take before (suc k) (x ∷ xs) o = (λ y m. o.0 y (in_take k xs y m), sorted_take before k xs o.1)

pub sorted_drop : (before : ℕ → ℕ → Bool) (k : ℕ) (xs : List ℕ) → Sorted before xs → Sorted before (drop k xs)
sorted_drop before zero xs o = o
sorted_drop before (suc k) [] o = tt
sorted_drop before (suc k) (x ∷ xs) o = sorted_drop before k xs o.1

-- the banks that steps serve, in their order
unfoldable pub served : List (List ℕ) → List ℕ
served [] = []
served (s ∷ ss) = s ++ served ss

pub served_append : (ss ts : List (List ℕ)) → served (ss ++ ts) ≡ served ss ++ served ts
unfolding served
served_append [] ts = refl
served_append (s ∷ ss) ts = ap (λ (l : List ℕ). s ++ l) (served_append ss ts) ∙ sym (append_assoc s (served ss) (served ts))

-- a fact of every step
abbrev pub Every : (List ℕ → Type 0) → List (List ℕ) → Type 0
Every fact [] = Unit {0}
Every fact (s ∷ ss) = fact s × Every fact ss

module _ (fact : List ℕ → Type 0) where
  pub every_append : (ss ts : List (List ℕ)) → Every fact ss → Every fact ts → Every fact (ss ++ ts)
  every_append [] ts a b = b
  every_append (s ∷ ss) ts a b = (a.0, every_append ss ts a.1 b)

  pub every_at : (ss : List (List ℕ)) → fact [] → Every fact ss → (i : ℕ) → fact (get_or ss i [])
  every_at [] none a i = none
  every_at (s ∷ ss) none a zero = a.0
  every_at (s ∷ ss) none a (suc i) = every_at ss none a.1 i

  -- of every step that serves only whom the steps serve
  pub every_of : (ss : List (List ℕ)) → ((s : List ℕ) → ((b : ℕ) → T (memb b s) → T (memb b (served ss))) → fact s) → Every fact ss
  unfolding served
  every_of [] of = tt
  every_of (s ∷ ss) of = (of s (λ b m. in_append_l b s (served ss) m), every_of ss (λ r h. of r (λ b m. in_append_r b s (served ss) (h b m))))

-- the step of b, where it is served later, here, or among the first steps
module _ (b : ℕ) where
  here : (s : List ℕ) (ss : List (List ℕ)) → T (memb b s) → step_of b (s ∷ ss) ≡ 1
  unfolding step_of
  here s ss m = cond_yes (memb b s) 1 (suc (step_of b ss)) m

  later : (s : List ℕ) (ss : List (List ℕ)) → (T (memb b s) → ⊥) → step_of b (s ∷ ss) ≡ suc (step_of b ss)
  unfolding step_of
  later s ss n = cond_no (memb b s) 1 (suc (step_of b ss)) n

  pub step_after : (ss ts : List (List ℕ)) → (T (memb b (served ss)) → ⊥) → step_of b (ss ++ ts) ≡ length ss + step_of b ts
  unfolding served
  step_after [] ts n = omega arith
  step_after (s ∷ ss) ts n =
      omega (arith, later s (ss ++ ts) (λ m. n (in_append_l b s (served ss) m)), step_after ss ts (λ m. n (in_append_r b s (served ss) m)))

  pub step_first : (ss ts : List (List ℕ)) → T (memb b (served ss)) → step_of b (ss ++ ts) ≡ step_of b ss
  unfolding served
  step_first [] ts m = absurd (in_none b m)
  step_first (s ∷ ss) ts m =
      elim (passes? (memb b s)) [
        | inl t ↦ here s (ss ++ ts) t ∙ sym (here s ss t)
        | inr n ↦ later s (ss ++ ts) n ∙ ap suc (step_first ss ts (elim (in_append b s (served ss) m) [ inl t ↦ absurd (n t) | inr t ↦ t ])) ∙ sym (later s ss n)
      ]

  -- it serves b, and is one of them
  pub step_serves : (ss : List (List ℕ)) → T (memb b (served ss)) → (i : ℕ) × (i < length ss) × (step_of b ss ≡ suc i) × T (memb b (get_or ss i []))
  unfolding served
  step_serves [] m = absurd (in_none b m)
  step_serves (s ∷ ss) m =
      elim (passes? (memb b s)) [
        | inl t ↦ (0, omega arith, here s ss t, t)
        | inr n ↦
            let more = step_serves ss (elim (in_append b s (served ss) m) [ inl t ↦ absurd (n t) | inr t ↦ t ]) in
            (suc more.0, omega arith, later s ss n ∙ ap suc more.2, more.3)
      ]

  -- who is served in step i is served
  pub in_served : (ss : List (List ℕ)) (i : ℕ) → T (memb b (get_or ss i [])) → T (memb b (served ss))
  unfolding served
  in_served [] i m = absurd (in_none b m)
  in_served (s ∷ ss) zero m = in_append_l b s (served ss) m
  in_served (s ∷ ss) (suc i) m = in_append_r b s (served ss) (in_served ss i m)

  -- and if none is served twice, in no other step
  pub step_only : (ss : List (List ℕ)) → Once (served ss) → (i : ℕ) → T (memb b (get_or ss i [])) → step_of b ss ≡ suc i
  unfolding served
  step_only [] o i m = absurd (in_none b m)
  step_only (s ∷ ss) o zero m = here s ss m
  step_only (s ∷ ss) o (suc i) m =
      let p = once_parts s (served ss) o in
      later s ss (λ t. p.2 b t (in_served ss i m)) ∙ ap suc (step_only ss p.1 i m)

-- with at least one courier
module _ (q : ℕ) (some : 1 ≤ q) where
  -- one step more, where somebody waits
  one_step : (most : ℕ) (xs : List ℕ) → 0 < length xs → steps_in (suc most) q xs ≡ take q xs ∷ steps_in most q (drop q xs)
  unfolding steps_in
  one_step most [] l = absurd (omega arith)
  one_step most (x ∷ xs) l = refl

  no_step : (most : ℕ) (xs : List ℕ) → length xs ≤ 0 → steps_in most q xs ≡ []
  unfolding steps_in
  no_step zero xs l = refl
  no_step (suc most) [] l = refl
  no_step (suc most) (x ∷ xs) l = absurd (omega arith)

  -- what holds of no step, and with one step more, holds of all
  by_steps : (fact : List ℕ → List (List ℕ) → Type 0)
      → ((xs : List ℕ) → length xs ≤ 0 → fact xs [])
      → ((xs : List ℕ) (ss : List (List ℕ)) → 0 < length xs → fact (drop q xs) ss → fact xs (take q xs ∷ ss))
      → (xs : List ℕ) → fact xs (steps_of q xs)
  unfolding steps_of
  by_steps fact none one xs = go (length xs) xs (omega arith)
    where
      go : (most : ℕ) (xs : List ℕ) → length xs ≤ most → fact xs (steps_in most q xs)
      go zero xs l = rw (no_step zero xs l) (none xs l)
      go (suc most) xs l =
          elim (lt_or_ge 0 (length xs)) [
            | inl k ↦ rw (one_step most xs k) (one xs (steps_in most q (drop q xs)) k (go most (drop q xs) (omega (arith, length-drop q xs))))
            | inr k ↦ rw (no_step (suc most) xs k) (none xs k)
          ]

  pub length_steps : (xs : List ℕ) → length (steps_of q xs) ≡ divided_up (length xs) q
  length_steps =
      by_steps (λ xs ss. length ss ≡ divided_up (length xs) q)
      (λ xs l. let e : length xs ≡ 0 = omega arith in rw (e, divided_none q some))
      (λ xs ss l more. ap suc (more ∙ ap (λ (m : ℕ). divided_up m q) (length-drop q xs)) ∙ sym (divided_one q some (length xs) l))

  -- they serve these banks, in this order, at most q each
  pub served_steps : (xs : List ℕ) → served (steps_of q xs) ≡ xs
  unfolding served
  served_steps =
      by_steps (λ xs ss. served ss ≡ xs)
      (λ xs l. sym (drop_of_length-le xs l))
      (λ xs ss l more. ap (λ (r : List ℕ). take q xs ++ r) more ∙ take-append-drop q xs)

  pub steps_few : (xs : List ℕ) → Every (λ s. length s ≤ q) (steps_of q xs)
  steps_few = by_steps (λ xs ss. Every (λ s. length s ≤ q) ss) (λ xs l. tt) (λ xs ss l more. (omega (arith, length-take q xs), more))

  -- each ascends if they do
  pub steps_ascend : (xs : List ℕ) → Sorted ltb xs → Every (Sorted ltb) (steps_of q xs)
  steps_ascend =
      by_steps (λ xs ss. Sorted ltb xs → Every (Sorted ltb) ss) (λ xs l o. tt) (λ xs ss l more o. (sorted_take ltb q xs o, more (sorted_drop ltb q xs o)))

  -- the step of b comes after those of the lower banks
  pub step_place : (b : ℕ) (xs ys : List ℕ) → (T (memb b xs) → ⊥) → step_of b (steps_of q (xs ++ b ∷ ys)) ≡ length xs / q + 1
  step_place b xs ys n = by_steps (λ zs ss. (xs : List ℕ) → zs ≡ xs ++ b ∷ ys → (T (memb b xs) → ⊥) → step_of b ss ≡ length xs / q + 1) none one (xs ++ b ∷ ys) xs refl n
    where
      none : (zs : List ℕ) → length zs ≤ 0 → (xs : List ℕ) → zs ≡ xs ++ b ∷ ys → (T (memb b xs) → ⊥) → step_of b [] ≡ length xs / q + 1
      none zs l xs e n = absurd (omega (arith, ap length e, length-append xs (b ∷ ys)))

      one : (zs : List ℕ) (ss : List (List ℕ)) → 0 < length zs
          → ((xs : List ℕ) → drop q zs ≡ xs ++ b ∷ ys → (T (memb b xs) → ⊥) → step_of b ss ≡ length xs / q + 1)
          → (xs : List ℕ) → zs ≡ xs ++ b ∷ ys → (T (memb b xs) → ⊥) → step_of b (take q zs ∷ ss) ≡ length xs / q + 1
      one zs ss l more xs e n =
          elim (lt_or_ge (length xs) q) [
            | inl k ↦
                let r : q ≡ length xs + suc (q - suc (length xs)) = omega arith in
                let front : take q zs ≡ xs ++ b ∷ take (q - suc (length xs)) ys =
                ap (take q) e ∙ ap (λ (m : ℕ). take m (xs ++ b ∷ ys)) r ∙ take-append-add xs (b ∷ ys) (suc (q - suc (length xs))) in
                here b (take q zs) ss (rw front (in_append_r b xs (b ∷ take (q - suc (length xs)) ys) (in_head b b (take (q - suc (length xs)) ys) refl)))
                ∙ (omega (arith, div-eq_of_lt {n = length xs} {m = q} k))
            | inr k ↦
                let front : take q zs ≡ take q xs = ap (take q) e ∙ take-append-le q xs (b ∷ ys) k in
                later b (take q zs) ss (λ m. n (in_take q xs b (rw front at m)))
                ∙ (omega (
                  arith,
                  more (drop q xs) (ap (drop q) e ∙ drop-append-le q xs (b ∷ ys) k) (λ m. n (in_drop q xs b m)),
                  ap (λ (m : ℕ). m / q) (length-drop q xs),
                  div-eq-sub-div {m = q} {n = length xs} some k,
                ))
          ]
