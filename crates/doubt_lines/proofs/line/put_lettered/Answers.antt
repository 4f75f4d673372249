-- The text, then the letter.
use Rattle.doubt_lines.specs.Lines.{lettered}
use Rattle.text.proofs.Putting.{puts_then}
use Rattle.wave_lines.specs.Lines.{letters}
use lib.ListN.{get_or}
use mathlib.Core.List.{[], ◌∷◌}
use native.Mathlib.Omega.{arith}
use Rattle.doubt_lines.proofs.line.put_lettered.Goals as goal

pub returns : goal.returns
unfolding lettered
returns c =
    let a = c.args in
    let room = c.requires.1 in
    let last = rw c.letter.ensures at c.put_byte.ensures in
    puts_then a.text.now (get_or letters a.w.0 0 ∷ []) a.at a.out.now (omega arith) _ _ _ _ c.put_text-next.ensures last
