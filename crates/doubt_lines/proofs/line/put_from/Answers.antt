-- The bank, then its letter: at most 13 bytes.
use Rattle.doubt_lines.proofs.Lines.{length_lettered}
use Rattle.doubt_lines.specs.Lines.{lettered, from_text}
use Rattle.list_program.proofs.Answering.{length_named}
use Rattle.list_program.specs.Answers.{named}
use Rattle.text.proofs.Putting.{puts_then}
use mathlib.Core.List.{[], ◌∷◌}
use native.Mathlib.Omega.{arith}
use Rattle.doubt_lines.proofs.line.put_from.Goals as goal

pub put_lettered-requires : goal.put_lettered-requires
put_lettered-requires c =
    let long = length_named (32 ∷ 70 ∷ 82 ∷ 79 ∷ 77 ∷ 32 ∷ []) c.args.v (omega (arith)) in
    (c.requires.0, omega (arith, long, c.requires.1, c.put_named-next.ensures.next, c.put_named-next.auto.out))

pub returns : goal.returns
unfolding from_text
returns c =
    let a = c.args in
    let room = c.requires.1 in
    let name = length_named (32 ∷ 70 ∷ 82 ∷ 79 ∷ 77 ∷ 32 ∷ []) a.v (omega (arith)) in
    let wave = length_lettered (32 ∷ []) a.w.0 in
    puts_then (named (32 ∷ 70 ∷ 82 ∷ 79 ∷ 77 ∷ 32 ∷ []) a.v) (lettered (32 ∷ []) a.w.0) a.at a.out.now (omega arith) _ _ _ _
    c.put_named-next.ensures c.put_lettered.ensures
