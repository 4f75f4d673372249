-- `put_foot_line` meets its contract: the foot, and then the end of its line.
use Prim.Native.Nat.{◌-◌}
use Rattle.poster_lines.proofs.Columns.{length_end}
use Rattle.poster_lines.specs.Poster.{padded, foot_line}
use Rattle.text.proofs.Putting.{puts_then}
use Rattle.wave_lines.specs.Foot.{foot_text}
use lib.ListN.{length, replicate}
use mathlib.Core.List.{[], ◌∷◌, ◌++◌}
use mathlib.Core.Path.{◌≡◌}
use native.Mathlib.Omega.{arith}
use Rattle.poster_lines.proofs.lines.put_foot_line.Goals as goal

pub put_foot-end-requires : goal.put_foot-end-requires
put_foot-end-requires c = omega (arith, c.requires.0, c.requires.1)

pub put_end-requires : goal.put_end-requires
put_end-requires c = (omega (arith, c.requires.0, c.put_foot-end.ensures.next), omega (arith, c.requires.1, c.put_foot-end.ensures.next, c.put_foot-end.auto.out))

pub returns : goal.returns
unfolding foot_line padded
returns c =
    let a = c.args in
    let foot = c.put_foot-end.ensures in
    let text = foot_text a.tally.banks a.tally.clashes in
    let short = c.requires.0 in
    let room = c.requires.1 in
    let used : c.put_foot-end.result - a.at ≡ length text = omega (arith, foot.next) in
    let end = rw used at c.put_end.ensures in
    puts_then text (replicate (40 - length text) 32 ++ (10 ∷ [])) a.at a.out.now (omega (arith, length_end (length text))) _ _ _ _ foot end
