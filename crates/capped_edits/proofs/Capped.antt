-- The question of the cap: what it gets beside the others, and that no edit passes a cap of 24.
use mathlib.Core.Logic.{inl, inr}
use mathlib.Core.Path.{◌≡◌, refl, sym, ap, ◌∙◌}
use native.Mathlib.Omega.{arith}
use Prim.Native.Nat.{ℕ, zero, suc, ◌≤◌, ◌<◌}
use borrow.Author.Tests.{le-leb, lt-leb}
use Rattle.rule.specs.Graph.{Graph}
use Rattle.rule.specs.Wave.{wave_count}
use Rattle.rule.specs.Reach.{edited}
use Rattle.rule.specs.declared.Kind.{Kind}
use Rattle.rule.proofs.Booleans.{lt_or_ge}
use Rattle.rule.proofs.Theorems.{wave_count_small}
use Rattle.memory.specs.Plan.{Clashes}
use Rattle.planner.specs.Questions.{first_no}
use Rattle.planner.specs.Calls.{edit_number}
use Rattle.planner.proofs.Outcomes.{acceptable}
use Rattle.planner.proofs.After.{clashes_edited}
use Rattle.capped_edits.specs.Capped.{cap_by, capped_number}
use Rattle.capped_edits.specs.inner.Within.{or_last}

-- one question
pub cap_passed : (waves cap : ℕ) → cap < waves → cap_by 0 waves cap ≡ 20
unfolding cap_by first_no
cap_passed waves cap h = rw (lt-leb waves cap h)

pub cap_kept : (waves cap : ℕ) → waves ≤ cap → cap_by 0 waves cap ≡ 0
unfolding cap_by first_no
cap_kept waves cap h = rw (le-leb waves cap h)

pub cap_fine : (waves cap : ℕ) → cap_by 0 waves cap ≡ 0 → waves ≤ cap
cap_fine waves cap e = elim (lt_or_ge cap waves) [ inl l ↦ absurd (omega (arith, e, cap_passed waves cap l)) | inr g ↦ g ]

-- after the others
pub cap_late : (c waves cap : ℕ) → c ≡ 0 → cap_by c waves cap ≡ cap_by 0 waves cap
cap_late c waves cap e = ap (λ (x : ℕ). cap_by x waves cap) e

pub cap_by_zero : (c waves cap : ℕ) → cap_by c waves cap ≡ 0 → (c ≡ 0) × (waves ≤ cap)
cap_by_zero zero waves cap e = (refl, cap_fine waves cap e)
cap_by_zero (suc c) waves cap e = let w : ◌≡◌ {A = ℕ} (suc c) 0 = unfold cap_by in e in absurd (omega (arith, w))

-- no last number
pub no_last : (c last : ℕ) → last ≡ 0 → or_last c last ≡ c
unfolding or_last
no_last zero last z = z
no_last (suc c) last z = refl

module _ (cap : ℕ) (k : Kind) (G : Graph) (a b : ℕ) where
  -- no refusal is due: neither 4 to 8 nor 20
  pub capped_due : capped_number cap k G a b ≡ 0 → (edit_number k G a b ≡ 0) × (wave_count (edited k G a b) ≤ cap)
  unfolding capped_number
  capped_due e = cap_by_zero (edit_number k G a b) (wave_count (edited k G a b)) cap e

  pub due_capped : edit_number k G a b ≡ 0 → wave_count (edited k G a b) ≤ cap → capped_number cap k G a b ≡ 0
  unfolding capped_number
  due_capped e h = cap_late (edit_number k G a b) _ cap e ∙ cap_kept _ cap h

  -- a refusal with 4 to 8 comes first
  pub capped_first : (c : ℕ) → edit_number k G a b ≡ suc c → capped_number cap k G a b ≡ suc c
  unfolding capped_number
  capped_first c e = ap (λ (x : ℕ). cap_by x (wave_count (edited k G a b)) cap) e ∙ unfold cap_by in refl

  -- no edit passes a cap of 24
  pub capped_wide : Clashes G → 24 ≤ cap → capped_number cap k G a b ≡ edit_number k G a b
  capped_wide good h = by (edit_number k G a b) refl
    where
      by : (c : ℕ) → edit_number k G a b ≡ c → capped_number cap k G a b ≡ edit_number k G a b
      by zero e =
          let new = clashes_edited G a b good k (acceptable G a b k e) in
          due_capped e (omega (arith, wave_count_small (edited k G a b) new.few)) ∙ sym e
      by (suc c) e = capped_first c e ∙ sym e
