-- The questions of set_cap about the cap: what each gets.
use mathlib.Core.Logic.{inl, inr}
use mathlib.Core.Path.{◌≡◌}
use native.Mathlib.Omega.{arith}
use Prim.Native.Nat.{ℕ, ◌≤◌, ◌<◌}
use borrow.Author.Tests.{le-leb, lt-leb}
use Rattle.rule.proofs.Booleans.{lt_or_ge}
use Rattle.planner.specs.Questions.{first_no}
use Rattle.edit_calls.specs.inner.Caps.{cap_number}

module _ (waves cap : ℕ) where
  pub cap_none : cap < 1 → cap_number waves cap ≡ 19
  unfolding first_no
  cap_none h = rw (lt-leb 1 cap h)

  pub cap_high : 1 ≤ cap → 24 < cap → cap_number waves cap ≡ 19
  unfolding first_no
  cap_high l h = rw (le-leb 1 cap l, lt-leb cap 24 h)

  pub cap_low : 1 ≤ cap → cap ≤ 24 → cap < waves → cap_number waves cap ≡ 20
  unfolding first_no
  cap_low l h w = rw (le-leb 1 cap l, le-leb cap 24 h, lt-leb waves cap w)

  pub cap_good : 1 ≤ cap → cap ≤ 24 → waves ≤ cap → cap_number waves cap ≡ 0
  unfolding first_no
  cap_good l h w = rw (le-leb 1 cap l, le-leb cap 24 h, le-leb waves cap w)

  pub cap_good_parts : cap_number waves cap ≡ 0 → (1 ≤ cap) × (cap ≤ 24) × (waves ≤ cap)
  cap_good_parts e =
      elim (lt_or_ge cap 1) [
        | inl l ↦ absurd (omega (arith, e, cap_none l))
        | inr g ↦ elim (lt_or_ge 24 cap) [
          | inl h ↦ absurd (omega (arith, e, cap_high g h))
          | inr k ↦ elim (lt_or_ge cap waves) [ inl w ↦ absurd (omega (arith, e, cap_low g k w)) | inr u ↦ (g, k, u) ]
        ]
      ]
