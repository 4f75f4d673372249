-- `put_aligned` meets its contract: the spaces, and then the digits.
use Prim.Native.Nat.{◌-◌}
use Rattle.poster_lines.proofs.Columns.{length_spaces}
use Rattle.poster_lines.specs.Poster.{right_aligned}
use Rattle.text.proofs.Decimal.{few_digits}
use Rattle.text.proofs.Putting.{puts_then}
use Rattle.text.specs.Numbers.{decimal}
use lib.ListN.{length, replicate}
use native.Mathlib.Omega.{arith}
use Rattle.poster_lines.proofs.column.put_aligned.Goals as goal

pub put_spaces-number-requires : goal.put_spaces-number-requires
put_spaces-number-requires c = omega (arith, c.columns_before.ensures, c.requires.1)

pub put_number-requires : goal.put_number-requires
put_number-requires c =
    let b = c.args.b.0 in
    let small = c.requires.0 in
    let next = rw c.columns_before.ensures at c.put_spaces-number.ensures.next in
    omega (arith, few_digits 3 b (omega arith), length_spaces (5 - length (decimal b)), c.put_spaces-number.auto.out, c.requires.1)

pub returns : goal.returns
unfolding right_aligned
returns c =
    let a = c.args in
    let digits = decimal a.b.0 in
    let small = c.requires.0 in
    let room = c.requires.1 in
    let few = few_digits 3 a.b.0 (omega arith) in
    let long = length_spaces (5 - length digits) in
    let spaces = rw c.columns_before.ensures at c.put_spaces-number.ensures in
    puts_then (replicate (5 - length digits) 32) digits a.at a.out.now (omega arith) _ _ _ _ spaces c.put_number.ensures
