-- A number below 10 is one digit; from 10 on the digits of its tenth come first. The measure is the number.
use mathlib.Core.List.{[], ◌∷◌}
use native.Mathlib.Omega.{arith}
use Prim.Native.Nat.{◌+◌, ◌/◌, ◌%◌}
use Rattle.text.specs.Numbers.{decimal}
use Rattle.text.proofs.Decimal.{decimal_low, decimal_high, length_low, length_high}
use Rattle.text.proofs.Putting.{puts_then}
use Rattle.text.proofs.put.+put_number.Goals as goal

pub put_byte-requires : goal.put_byte-requires
put_byte-requires t c = omega (arith, length_low c.args.x c.if-x-lt10.true, c.requires)

pub returns-then-x-lt10 : goal.returns-then-x-lt10
returns-then-x-lt10 t c = rw (decimal_low c.args.x c.if-x-lt10.true) c.put_byte.ensures

pub put_number-next-requires : goal.put_number-next-requires
put_number-next-requires t c = (omega (arith, c.decreases), omega (arith, length_high c.args.x c.if-x-lt10.false, c.requires))

pub put_byte-requires-2 : goal.put_byte-requires-2
put_byte-requires-2 t c =
    let tenth = c.put_number-next in
    omega (arith, length_high c.args.x c.if-x-lt10.false, c.requires, tenth.ensures.next, tenth.auto.out)

pub returns : goal.returns
returns t c =
    let x = c.args.x in
    let h = c.if-x-lt10.false in
    let long = length_high x h in
    let fits = c.requires in
    rw (decimal_high x h)
    (puts_then (decimal (x / 10)) ((48 + x % 10) ∷ []) c.args.at c.args.out.now (omega arith) _ _ _ _ c.put_number-next.ensures c.put_byte-2.ensures)
