-- The text and the number, then the other text.
use Rattle.agree_lines.specs.Lines.{numbered}
use Rattle.list_program.proofs.Answering.{length_named}
use Rattle.list_program.specs.Answers.{named}
use Rattle.text.proofs.Putting.{puts_then}
use native.Mathlib.Omega.{arith}
use Rattle.agree_lines.proofs.line.put_numbered.Goals as goal

pub put_text-requires : goal.put_text-requires
put_text-requires c = omega (arith, length_named c.args.text.now c.args.x (omega (arith)), c.requires, c.put_named-next.ensures.next, c.put_named-next.auto.out)

pub returns : goal.returns
unfolding numbered
returns c =
    let a = c.args in
    let p = c.put_named-next in
    let q = c.put_text in
    let short = length_named a.text.now a.x (omega (arith)) in
    let room = c.requires in
    let all = puts_then (named a.text.now a.x) a.after.now a.at a.out.now (omega arith) _ _ _ _ p.ensures q.ensures in
    (all, omega (arith, p.ensures.next, q.ensures.next))
