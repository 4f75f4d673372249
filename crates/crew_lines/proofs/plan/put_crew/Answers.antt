-- The word and the number, then the line feed: at most 11 bytes.
use Rattle.crew_lines.specs.Plans.{crew_text}
use Rattle.list_program.proofs.Answering.{length_named}
use Rattle.list_program.specs.Answers.{named}
use Rattle.text.proofs.Putting.{puts_then}
use mathlib.Core.List.{[], ◌∷◌}
use native.Mathlib.Omega.{arith}
use Rattle.crew_lines.proofs.plan.put_crew.Goals as goal

pub put_byte-requires : goal.put_byte-requires
put_byte-requires c =
    let long = length_named (67 ∷ 82 ∷ 69 ∷ 87 ∷ 32 ∷ []) c.args.couriers (omega (arith)) in
    omega (arith, c.requires, c.put_named-end.ensures.next, c.put_named-end.auto.out)

pub returns : goal.returns
unfolding crew_text
returns c =
    let last = c.put_byte in
    let p = c.put_named-end in
    let a = c.args in
    let long = length_named (67 ∷ 82 ∷ 69 ∷ 87 ∷ 32 ∷ []) a.couriers (omega (arith)) in
    let room = c.requires in
    let all = puts_then (named (67 ∷ 82 ∷ 69 ∷ 87 ∷ 32 ∷ []) a.couriers) (10 ∷ []) 0 a.out.now (omega arith) _ _ _ _ p.ensures last.ensures in
    (all, omega (arith, p.ensures.next, last.ensures.next))
