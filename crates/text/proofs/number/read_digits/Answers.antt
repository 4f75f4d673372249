-- The bytes passed are digits, and as many digits give a value below that power of ten.
use Prim.Native.Nat.{◌-◌, ◌≤◌}
use Rattle.text.proofs.Digits.{digits_low, digits_high, digits_next, value_next, digits_end, value_end, more, digits_yes, digits_no}
use lib.ListN.{get_or}
use mathlib.Core.Path.{◌∙◌}
use native.Mathlib.Omega.{arith}
use Rattle.text.proofs.number.read_digits.Goals as goal

pub returns-in_default : goal.returns-in_default
returns-in_default c =
    let w = c.loop-x in
    digits_no _ (w.invariant.0 ∙ digits_low _ w.x-index (omega arith) (omega arith))

pub returns-in_default-2 : goal.returns-in_default-2
returns-in_default-2 c =
    let w = c.loop-x in
    digits_no _ (w.invariant.0 ∙ digits_high _ w.x-index (omega arith) (omega arith) (omega arith))

pub loop-x-preserved : goal.loop-x-preserved
loop-x-preserved c =
    let s = c.args.s.now in
    let w = c.loop-x in
    let low : 48 ≤ get_or s w.x-index 0 = omega arith in
    let high : get_or s w.x-index 0 ≤ 57 = omega arith in
    let more-digits = w.invariant.0 ∙ digits_next s w.x-index (omega arith) low high in
    let more-value = w.invariant.1 ∙ value_next s w.x-index w.value (omega arith) in
    (more-digits, rw c.from.ensures more-value, omega (arith, more w.value (get_or s w.x-index 0 - 48) w.x-index w.invariant.2 (omega arith)))

pub returns : goal.returns
returns c =
    let s = c.args.s.now in
    let w = c.loop-x in
    digits_yes s w.value (w.invariant.0 ∙ digits_end s w.x-index (omega arith)) (w.invariant.1 ∙ value_end s w.x-index w.value (omega arith))
