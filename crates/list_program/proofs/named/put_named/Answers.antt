-- The text, then the digits, at most 5.
use Rattle.list_program.proofs.Answering.{number_short}
use Rattle.list_program.specs.Answers.{named}
use Rattle.text.proofs.Putting.{puts_then}
use Rattle.text.specs.Numbers.{decimal}
use native.Mathlib.Omega.{arith}
use Rattle.list_program.proofs.named.put_named.Goals as goal

pub put_number-requires : goal.put_number-requires
put_number-requires c = omega (arith, number_short c.args.x (omega (arith)), c.requires, c.put_text-next.ensures.next, c.put_text-next.auto.out)

pub returns : goal.returns
unfolding named
returns c =
    let a = c.args in
    let short = number_short a.x (omega (arith)) in
    let room = c.requires in
    let first = c.put_text-next.ensures in
    puts_then a.text.now (decimal a.x) a.at a.out.now (omega arith) _ _ _ _ first c.put_number.ensures
