-- `put_end` meets its contract: the spaces, and then the line feed.
use Prim.Native.Nat.{◌-◌}
use Rattle.poster_lines.proofs.Columns.{length_spaces}
use Rattle.text.proofs.Putting.{puts_then}
use lib.ListN.{replicate}
use mathlib.Core.List.{[], ◌∷◌}
use native.Mathlib.Omega.{arith}
use Rattle.poster_lines.proofs.column.put_end.Goals as goal

pub put_byte-requires : goal.put_byte-requires
put_byte-requires c = omega (arith, length_spaces (40 - c.args.used), c.put_spaces-end.ensures.next, c.put_spaces-end.auto.out, c.requires.1)

pub returns : goal.returns
returns c =
    let p = c.put_spaces-end in
    let a = c.args in
    let long = length_spaces (40 - a.used) in
    let room = c.requires.1 in
    puts_then (replicate (40 - a.used) 32) (10 ∷ []) a.at a.out.now (omega arith) _ _ _ _ p.ensures c.put_byte.ensures
