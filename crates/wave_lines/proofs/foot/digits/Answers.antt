-- Each branch by the number of digits.
use Rattle.text.proofs.Decimal.{length_low, length_decimal}
use native.Mathlib.Omega.{arith}
use Rattle.wave_lines.proofs.foot.digits.Goals as goal

pub returns-in-0-to-9 : goal.returns-in-0-to-9
returns-in-0-to-9 c = omega (arith, length_low c.args.x (omega arith))

pub returns-in-10-to-99 : goal.returns-in-10-to-99
returns-in-10-to-99 c = omega (arith, length_decimal 1 c.args.x (omega arith) (omega arith))

pub returns-in-100-to-999 : goal.returns-in-100-to-999
returns-in-100-to-999 c = omega (arith, length_decimal 2 c.args.x (omega arith) (omega arith))

pub returns-in-1000-to-9999 : goal.returns-in-1000-to-9999
returns-in-1000-to-9999 c = omega (arith, length_decimal 3 c.args.x (omega arith) (omega arith))

pub returns-in_default : goal.returns-in_default
returns-in_default c = omega (arith, length_decimal 4 c.args.x (omega arith) (omega arith))
