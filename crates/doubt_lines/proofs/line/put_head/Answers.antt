-- Three pieces, at most 24 bytes.
use Rattle.doubt_lines.proofs.Lines.{length_lettered}
use Rattle.doubt_lines.specs.Lines.{lettered, head_text}
use Rattle.list_program.proofs.Answering.{length_named}
use Rattle.list_program.specs.Answers.{named}
use Rattle.text.proofs.Putting.{puts_three}
use mathlib.Core.List.{[], ◌∷◌}
use native.Mathlib.Omega.{arith}
use Rattle.doubt_lines.proofs.line.put_head.Goals as goal

pub put_lettered-second-requires : goal.put_lettered-second-requires
put_lettered-second-requires c =
    let long = length_named (66 ∷ 65 ∷ 78 ∷ 75 ∷ 32 ∷ []) c.args.b (omega (arith)) in
    (c.requires.0, omega (arith, long, c.requires.2, c.put_named-first.ensures.next, c.put_named-first.auto.out))

pub put_lettered-requires : goal.put_lettered-requires
put_lettered-requires c =
    let name = length_named (66 ∷ 65 ∷ 78 ∷ 75 ∷ 32 ∷ []) c.args.b (omega (arith)) in
    let wave = length_lettered (32 ∷ 75 ∷ 69 ∷ 80 ∷ 84 ∷ 32 ∷ []) c.args.kept.0 in
    (c.requires.1, omega (arith, c.requires.2, c.put_named-first.ensures.next, c.put_named-first.auto.out, c.put_lettered-second.ensures.next, c.put_lettered-second.auto.out))

pub returns : goal.returns
unfolding head_text
returns c =
    let room = c.requires.2 in
    let name = length_named (66 ∷ 65 ∷ 78 ∷ 75 ∷ 32 ∷ []) c.args.b (omega (arith)) in
    let kept = length_lettered (32 ∷ 75 ∷ 69 ∷ 80 ∷ 84 ∷ 32 ∷ []) c.args.kept.0 in
    let read = length_lettered (32 ∷ 82 ∷ 69 ∷ 65 ∷ 68 ∷ 32 ∷ []) c.args.read.0 in
    let q = c.put_lettered-second in
    let last = c.put_lettered in
    let all =
    puts_three (named (66 ∷ 65 ∷ 78 ∷ 75 ∷ 32 ∷ []) c.args.b) (lettered (32 ∷ 75 ∷ 69 ∷ 80 ∷ 84 ∷ 32 ∷ []) c.args.kept.0) (lettered (32 ∷ 82 ∷ 69 ∷ 65 ∷ 68 ∷ 32 ∷ []) c.args.read.0)
    0 c.args.out.now (omega arith) _ _ _ _ _ _
    c.put_named-first.auto.out c.put_named-first.ensures q.ensures last.ensures in
    (all, omega (arith, c.put_named-first.ensures.next, q.ensures.next, last.ensures.next))
