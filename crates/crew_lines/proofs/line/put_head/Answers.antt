-- The number, a space, the letter.
use Rattle.crew_lines.proofs.Lines.{length_head}
use Rattle.crew_lines.specs.Lines.{head_text}
use Rattle.text.proofs.Putting.{puts_three}
use Rattle.text.specs.Numbers.{decimal}
use Rattle.wave_lines.specs.Lines.{letters}
use lib.ListN.{get_or}
use mathlib.Core.List.{[], ◌∷◌}
use native.Mathlib.Omega.{arith}
use Rattle.crew_lines.proofs.line.put_head.Goals as goal

pub put_number-space-requires : goal.put_number-space-requires
put_number-space-requires c = omega (arith, length_head c.args.k c.args.w.0, c.requires.1)

pub put_byte-next-requires : goal.put_byte-next-requires
put_byte-next-requires c = omega (arith, length_head c.args.k c.args.w.0, c.requires.1, c.put_number-space.ensures.next, c.put_number-space.auto.out)

pub put_byte-requires : goal.put_byte-requires
put_byte-requires c = omega (arith, length_head c.args.k c.args.w.0, c.requires.1, c.put_number-space.ensures.next, c.put_number-space.auto.out, c.put_byte-next.ensures.next, c.put_byte-next.auto.out)

pub returns : goal.returns
unfolding head_text
returns c =
    let last = rw c.letter.ensures at c.put_byte.ensures in
    let q = c.put_byte-next in
    let a = c.args in
    let fits = c.requires.1 in
    let long = length_head a.k a.w.0 in
    puts_three (decimal a.k) (32 ∷ []) (get_or letters a.w.0 0 ∷ []) a.at a.out.now (omega arith) _ _ _ _ _ _ c.put_number-space.auto.out c.put_number-space.ensures q.ensures last
