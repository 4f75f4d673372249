-- One text of two: at most 37 bytes.
use Rattle.agree_lines.specs.Lines.{accepted_text}
use native.Mathlib.Omega.{arith}
use Rattle.agree_lines.proofs.line.put_accepted.Goals as goal

pub returns-then-own : goal.returns-then-own
unfolding accepted_text
returns-then-own c =
    let put = c.put_text.ensures in
    (rw c.if-own.true put, omega (arith, put.next))

pub returns-else-own : goal.returns-else-own
unfolding accepted_text
returns-else-own c =
    let put = c.put_text-else-own.ensures in
    (rw c.if-own.false put, omega (arith, put.next))
