-- `put_head` meets its contract: its three pieces one after another.
use Rattle.sheet_writer.proofs.Texts.{length_head}
use Rattle.sheet_writer.specs.Sheet.{head_text}
use Rattle.text.proofs.Putting.{puts_three}
use Rattle.text.specs.Numbers.{decimal}
use mathlib.Core.List.{[], ◌∷◌}
use native.Mathlib.Omega.{arith}
use Rattle.sheet_writer.proofs.lines.put_head.Goals as goal

pub put_text-number-requires : goal.put_text-number-requires
put_text-number-requires c = omega (arith, length_head c.args.k, c.requires)

pub put_number-end-requires : goal.put_number-end-requires
put_number-end-requires c = omega (arith, length_head c.args.k, c.requires, c.put_text-number.ensures.next, c.put_text-number.auto.out)

pub put_byte-requires : goal.put_byte-requires
put_byte-requires c = omega (arith, length_head c.args.k, c.requires, c.put_text-number.ensures.next, c.put_text-number.auto.out, c.put_number-end.ensures.next, c.put_number-end.auto.out)

pub returns : goal.returns
unfolding head_text
returns c =
    let q = c.put_number-end in
    let k = c.args.k in
    let long = length_head k in
    let fits = c.requires in
    puts_three (87 ∷ 65 ∷ 86 ∷ 69 ∷ 83 ∷ 32 ∷ []) (decimal k) (10 ∷ []) 0 c.args.out.now (omega arith) _ _ _ _ _ _ c.put_text-number.auto.out
    c.put_text-number.ensures q.ensures c.put_byte.ensures
