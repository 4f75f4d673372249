-- The written part holds the spaces.
use Prim.Native.Nat.{◌+◌, ◌-◌}
use Rattle.poster_lines.proofs.Columns.{length_spaces}
use Rattle.text.proofs.Putting.{puts_part}
use lib.ListN.{length, replicate, take, drop, length-take, length-drop}
use mathlib.Core.Path.{◌≡◌}
use native.Mathlib.Omega.{arith}
use Rattle.poster_lines.proofs.column.put_spaces.Goals as goal

pub returns : goal.returns
returns c =
    let a = c.args in
    let k = a.at + a.count - a.at in
    let room = c.requires in
    let rest = drop a.at a.out.now in
    let long : length (take k rest) ≡ a.count = omega (arith, length-take k rest, length-drop a.at a.out.now) in
    let spaces = c.fill.ensures.after (λ y e. e) in
    rw (spaces, long) (puts_part (replicate a.count 32) a.at (a.at + a.count) a.out.now (omega (arith, length_spaces a.count)))
