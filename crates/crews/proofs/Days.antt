-- The day of a plan: whom it serves, in how many steps, and in which of them.
use mathlib.Core.Bool.{Bool}
use mathlib.Core.List.{List, [], ◌∷◌, ◌++◌, append_assoc}
use mathlib.Core.Logic.{inl, inr}
use mathlib.Core.Path.{◌≡◌, refl, sym, ap, ◌∙◌}
use native.Mathlib.Decide.{ℕ_discrete}
use native.Mathlib.Omega.{arith}
use Prim.Native.Nat.{ℕ, zero, suc, ◌+◌, ◌/◌, ◌≤◌, ◌<◌}
use lib.Dec.{T, ltb, eqb, ltb→lt, eqb→eq}
use lib.ListN.{length, get_or, length-append}
use Rattle.rule.specs.Lists.{upto, filter, memb, Sorted, Once}
use Rattle.rule.specs.Graph.{Graph}
use Rattle.rule.specs.Wave.{wave, wave_count, banks_by, banks_of}
use Rattle.rule.proofs.Booleans.{test_ext, eq→eqb}
use Rattle.rule.proofs.Lists.{in_none, in_append_l, in_append_r, in_append, in_upto, upto_below, in_filter, filter_in, filter_append, filter_kept, most_above}
use Rattle.rule.proofs.Sorting.{sorted_filter, sorted_upto}
use Rattle.rule.proofs.Reaches.{sorted_once}
use Rattle.crews.specs.Day.{steps_of, day_to, day, step_of, sum_up}
use Rattle.crews.proofs.Steps.{served, served_append, Every, every_append, every_of, step_after, step_first, step_serves}
use Rattle.crews.proofs.Steps.{in_served, step_only, served_steps, length_steps, steps_few, steps_ascend, step_place, once_append}

-- the numbers below n that pass a test, before one of them and from it on
split_at : (p : ℕ → Bool) (n b : ℕ) → b < n → T (p b) → (ys : List ℕ) × (filter p (upto n) ≡ filter p (upto b) ++ b ∷ ys)
unfolding upto
split_at p zero b l t = absurd (omega arith)
split_at p (suc n) b l t =
    elim (ℕ_discrete b n) [
      | yes e ↦ ([], rw e (filter_kept p (upto n) n (rw e at t)))
      | no d ↦
          let more = split_at p n b (omega arith) t in (
            more.0 ++ filter p (n ∷ []),
            filter_append p (upto n) (n ∷ []) ∙ ap (λ (l : List ℕ). l ++ filter p (n ∷ [])) more.1 ∙ append_assoc (filter p (upto b)) (b ∷ more.0) (filter p (n ∷ [])),
          )
    ]

module _ (G : Graph) where
  abbrev n : ℕ
  n = G.banks

  -- the banks of a wave
  pub wave_banks_in : (w b : ℕ) → T (memb b (banks_of G w)) → (b < n) × (wave G b ≡ w)
  unfolding banks_by
  wave_banks_in w b m = let r = filter_in (λ v. eqb (wave G v) w) (upto n) b m in (upto_below n b r.0, eqb→eq (wave G b) w r.1)

  pub in_wave_banks : (b : ℕ) → b < n → T (memb b (banks_of G (wave G b)))
  unfolding banks_by
  in_wave_banks b l = in_filter (λ v. eqb (wave G v) (wave G b)) (upto n) b (in_upto n b l) (eq→eqb (wave G b) (wave G b) refl)

  pub wave_ascends : (w : ℕ) → Sorted ltb (banks_of G w)
  unfolding banks_by
  wave_ascends w = sorted_filter ltb (λ v. eqb (wave G v) w) (upto n) (sorted_upto n)

  wave_once : (w : ℕ) → Once (banks_of G w)
  wave_once w = sorted_once ltb (λ x t. omega (arith, ltb→lt x x t)) (banks_of G w) (wave_ascends w)

  pub wave_below : (b : ℕ) → b < n → wave G b < wave_count G
  unfolding wave_count
  wave_below b l = omega (arith, most_above (λ v. suc (wave G v)) (upto n) b (in_upto n b l))

  -- without banks there is no wave, and no step
  no_waves : n ≡ 0 → wave_count G ≡ 0
  unfolding wave_count upto
  no_waves none = rw none

  pub day_none : n ≡ 0 → (q : ℕ) → length (day q G) ≡ 0
  unfolding day day_to
  day_none none q = rw (no_waves none)

  -- the lower banks of its wave come before b, and no other
  wave_split : (b : ℕ) → b < n → (ys : List ℕ) × (banks_of G (wave G b) ≡ filter (λ v. eqb (wave G v) (wave G b)) (upto b) ++ b ∷ ys)
  unfolding banks_by
  wave_split b l = split_at (λ v. eqb (wave G v) (wave G b)) n b l (eq→eqb (wave G b) (wave G b) refl)

  not_lower : (p : ℕ → Bool) (b : ℕ) → T (memb b (filter p (upto b))) → ⊥
  not_lower p b m = omega (arith, upto_below b b (filter_in p (upto b) b m).0)

  module _ (q : ℕ) (some : 1 ≤ q) where
    served_next : (k : ℕ) → served (day_to q G (suc k)) ≡ served (day_to q G k) ++ banks_of G k
    unfolding day_to
    served_next k =
        served_append (day_to q G k) (steps_of q (banks_of G k)) ∙ ap (λ (l : List ℕ). served (day_to q G k) ++ l) (served_steps q some (banks_of G k))

    -- the first k waves serve the banks of the waves below k, each once
    pub day_in : (k b : ℕ) → T (memb b (served (day_to q G k))) → (b < n) × (wave G b < k)
    day_in zero b m = absurd (in_none b (unfold day_to served in m))
    day_in (suc k) b m =
        elim (in_append b (served (day_to q G k)) (banks_of G k) (rw (served_next k) at m)) [
          | inl t ↦ let r = day_in k b t in (r.0, omega arith)
          | inr t ↦ let r = wave_banks_in k b t in (r.0, omega arith)
        ]

    pub in_day : (k b : ℕ) → b < n → wave G b < k → T (memb b (served (day_to q G k)))
    in_day zero b l h = absurd (omega arith)
    in_day (suc k) b l h =
        rw (served_next k) (elim (ℕ_discrete (wave G b) k) [
          | yes e ↦ in_append_r b (served (day_to q G k)) (banks_of G k) (rw (← e) (in_wave_banks b l))
          | no d ↦ in_append_l b (served (day_to q G k)) (banks_of G k) (in_day k b l (omega arith))
        ])

    pub day_once : (k : ℕ) → Once (served (day_to q G k))
    day_once zero = unfold day_to served in tt
    day_once (suc k) =
        rw (served_next k) (once_append (served (day_to q G k)) (banks_of G k) (day_once k) (wave_once k) (λ x a b.
        let r = day_in k x a in let s = wave_banks_in k x b in omega arith))

    -- in so many steps
    pub length_day : (k : ℕ) → length (day_to q G k) ≡ sum_up q (λ w. length (banks_of G w)) k
    unfolding day_to sum_up
    length_day zero = refl
    length_day (suc k) =
        omega (arith, length-append (day_to q G k) (steps_of q (banks_of G k)), length_day k, length_steps q some (banks_of G k))

    -- each of which serves at most q banks, ascending, of one wave
    pub day_few : (k : ℕ) → Every (λ s. length s ≤ q) (day_to q G k)
    unfolding day_to
    day_few zero = tt
    day_few (suc k) = every_append (λ s. length s ≤ q) (day_to q G k) (steps_of q (banks_of G k)) (day_few k) (steps_few q some (banks_of G k))

    pub day_ascends : (k : ℕ) → Every (Sorted ltb) (day_to q G k)
    unfolding day_to
    day_ascends zero = tt
    day_ascends (suc k) =
        every_append (Sorted ltb) (day_to q G k) (steps_of q (banks_of G k)) (day_ascends k) (steps_ascend q some (banks_of G k) (wave_ascends k))

    abbrev pub OfWave : List ℕ → Type 0
    OfWave s = (w : ℕ) × ((b : ℕ) → T (memb b s) → wave G b ≡ w)

    pub day_waves : (k : ℕ) → Every OfWave (day_to q G k)
    unfolding day_to
    day_waves zero = tt
    day_waves (suc k) =
        every_append OfWave (day_to q G k) (steps_of q (banks_of G k)) (day_waves k) (every_of OfWave (steps_of q (banks_of G k)) (λ s of.
        (k, λ b m. (wave_banks_in k b (rw (served_steps q some (banks_of G k)) at (of b m))).1)))

    -- a later wave changes nothing for those served before, and serves its own after them
    next_first : (k b : ℕ) → b < n → wave G b < k → step_of b (day_to q G (suc k)) ≡ step_of b (day_to q G k)
    unfolding day_to
    next_first k b l h = step_first b (day_to q G k) (steps_of q (banks_of G k)) (in_day k b l h)

    next_after : (b : ℕ) → step_of b (day_to q G (suc (wave G b))) ≡ length (day_to q G (wave G b)) + step_of b (steps_of q (banks_of G (wave G b)))
    unfolding day_to
    next_after b = step_after b (day_to q G (wave G b)) (steps_of q (banks_of G (wave G b))) (λ m. omega (arith, (day_in (wave G b) b m).1))

    -- b is served after the waves before its own, and after the lower banks of its own
    module _ (b : ℕ) (l : b < n) where
      first_day : (k : ℕ) → wave G b < k → step_of b (day_to q G k) ≡ step_of b (day_to q G (suc (wave G b)))
      first_day zero h = absurd (omega arith)
      first_day (suc k) h =
          elim (ℕ_discrete (wave G b) k) [
            | yes e ↦ rw e
            | no d ↦ next_first k b l (omega arith) ∙ first_day k (omega arith)
          ]

      wave_step : step_of b (steps_of q (banks_of G (wave G b))) ≡ length (filter (λ v. eqb (wave G v) (wave G b)) (upto b)) / q + 1
      wave_step =
          let lower = filter (λ v. eqb (wave G v) (wave G b)) (upto b) in
          let r = wave_split b l in
          rw r.1 (step_place q some b lower r.0 (not_lower (λ v. eqb (wave G v) (wave G b)) b))

      pub day_step : step_of b (day q G)
          ≡ sum_up q (λ w. length (banks_of G w)) (wave G b) + length (filter (λ v. eqb (wave G v) (wave G b)) (upto b)) / q + 1
      unfolding day
      day_step =
          omega (arith, first_day (wave_count G) (wave_below b l), next_after b, length_day (wave G b), wave_step)

    -- the steps of the whole day
    module _ (b : ℕ) where
      pub day_bank : (i : ℕ) → T (memb b (get_or (day q G) i [])) → b < n
      unfolding day
      day_bank i m = (day_in (wave_count G) b (in_served b (day_to q G (wave_count G)) i m)).0

      in_one : b < n → (i : ℕ) × (i < length (day q G)) × (step_of b (day q G) ≡ suc i) × T (memb b (get_or (day q G) i []))
      unfolding day
      in_one l = step_serves b (day_to q G (wave_count G)) (in_day (wave_count G) b l (wave_below b l))

      in_no_other : (i : ℕ) → T (memb b (get_or (day q G) i [])) → step_of b (day q G) ≡ suc i
      unfolding day
      in_no_other i m = step_only b (day_to q G (wave_count G)) (day_once (wave_count G)) i m

      pub step_within : b < n → (1 ≤ step_of b (day q G)) × (step_of b (day q G) ≤ length (day q G))
      step_within l = let r = in_one l in (omega (arith, r.2), omega (arith, r.1, r.2))

      pub one_step : b < n → (i : ℕ) → memb b (get_or (day q G) i []) ≡ eqb (suc i) (step_of b (day q G))
      one_step l i =
          test_ext (memb b (get_or (day q G) i [])) (eqb (suc i) (step_of b (day q G)))
          (λ m. eq→eqb (suc i) (step_of b (day q G)) (sym (in_no_other i m)))
          (λ e.
          let r = in_one l in
          let same : i ≡ r.0 = omega (arith, eqb→eq (suc i) (step_of b (day q G)) e, r.2) in
          rw same r.3)
