-- `put_last` meets its contract: the foot, and then the line feed.
use Rattle.sheet_writer.proofs.Texts.{length_last}
use Rattle.sheet_writer.specs.Sheet.{last_text}
use Rattle.text.proofs.Putting.{puts_then}
use Rattle.wave_lines.specs.Foot.{foot_text}
use mathlib.Core.List.{[], ◌∷◌}
use native.Mathlib.Omega.{arith}
use Rattle.sheet_writer.proofs.lines.put_last.Goals as goal

pub put_foot-next-requires : goal.put_foot-next-requires
put_foot-next-requires c =
    let t = c.args.tally in
    omega (arith, length_last t.banks t.clashes, c.requires)

pub put_byte-requires : goal.put_byte-requires
put_byte-requires c =
    let t = c.args.tally in
    omega (arith, length_last t.banks t.clashes, c.requires, c.put_foot-next.ensures.next, c.put_foot-next.auto.out)

pub returns : goal.returns
unfolding last_text
returns c =
    let a = c.args in
    let n = a.tally.banks in
    let m = a.tally.clashes in
    let long = length_last n m in
    let fits = c.requires in
    puts_then (foot_text n m) (10 ∷ []) a.at a.out.now (omega arith) _ _ _ _ c.put_foot-next.ensures c.put_byte.ensures
