-- Three pieces, at most 20 bytes after the word.
use Rattle.list_program.proofs.Answering.{length_named}
use Rattle.list_program.specs.Answers.{named, refused_text}
use Rattle.text.proofs.Putting.{puts_three}
use mathlib.Core.List.{[], ◌∷◌}
use native.Mathlib.Omega.{arith}
use Rattle.list_program.proofs.named.put_refused.Goals as goal

pub put_named-second-requires : goal.put_named-second-requires
put_named-second-requires c = omega (arith, length_named c.args.word.now c.args.x (omega (arith)), c.requires, c.put_named-first.ensures.next, c.put_named-first.auto.out)

pub put_byte-requires : goal.put_byte-requires
put_byte-requires c =
    let a = c.args in
    let name = length_named a.word.now a.x (omega (arith)) in
    let number = length_named (32 ∷ 82 ∷ 69 ∷ 70 ∷ 85 ∷ 83 ∷ 69 ∷ 68 ∷ 32 ∷ []) a.number (omega (arith)) in
    omega (arith, c.requires, c.put_named-first.ensures.next, c.put_named-first.auto.out, c.put_named-second.ensures.next, c.put_named-second.auto.out)

pub returns : goal.returns
unfolding refused_text
returns c =
    let a = c.args in
    let room = c.requires in
    let name = length_named a.word.now a.x (omega (arith)) in
    let number = length_named (32 ∷ 82 ∷ 69 ∷ 70 ∷ 85 ∷ 83 ∷ 69 ∷ 68 ∷ 32 ∷ []) a.number (omega (arith)) in
    let all =
    puts_three (named a.word.now a.x) (named (32 ∷ 82 ∷ 69 ∷ 70 ∷ 85 ∷ 83 ∷ 69 ∷ 68 ∷ 32 ∷ []) a.number) (10 ∷ [])
    a.at a.out.now (omega arith) _ _ _ _ _ _
    c.put_named-first.auto.out c.put_named-first.ensures c.put_named-second.ensures c.put_byte.ensures in
    (all, omega (arith, c.put_named-first.ensures.next, c.put_named-second.ensures.next, c.put_byte.ensures.next, c.put_named-first.auto.out, c.put_named-second.auto.out, c.put_byte.auto.out))
