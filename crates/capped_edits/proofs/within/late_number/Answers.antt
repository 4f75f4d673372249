-- `late_number`: the refusal of the cap, or the last question.
use Prim.Native.Nat.{ℕ}
use Rattle.capped_edits.proofs.Capped.{cap_passed, cap_kept}
use Rattle.capped_edits.specs.inner.Within.{or_last}
use Rattle.rule.specs.Refusals.{number_in}
use mathlib.Core.Path.{sym, ap}
use native.Mathlib.Omega.{arith}
use Rattle.capped_edits.proofs.within.late_number.Goals as goal

pub returns-then-cap-waves : goal.returns-then-cap-waves
returns-then-cap-waves c = unfold or_last in sym (ap (λ (x : ℕ). or_last x (number_in c.args.last)) (cap_passed c.args.waves c.args.«cap» (omega arith)))

pub returns : goal.returns
returns c = unfold or_last in sym (ap (λ (x : ℕ). or_last x (number_in c.args.last)) (cap_kept c.args.waves c.args.«cap» (omega arith)))
