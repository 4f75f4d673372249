-- Both banks, then the letter: at most 49 bytes.
use Rattle.agree_lines.specs.Lines.{clash_text}
use Rattle.text.proofs.Putting.{puts_three}
use Rattle.wave_lines.specs.Lines.{letters}
use lib.ListN.{get_or}
use mathlib.Core.List.{[], ◌∷◌}
use native.Mathlib.Omega.{arith}
use Rattle.agree_lines.proofs.line.put_clash.Goals as goal

pub returns : goal.returns
unfolding clash_text
returns c =
    let a = c.args in
    let r = rw c.letter.ensures at c.put_text.ensures in
    let room = c.requires.1 in
    let n₁ = c.put_numbered-second.ensures.0.next in
    let n₂ = c.put_numbered-wave.ensures.0.next in
    let all =
    puts_three _ _ (get_or letters a.w.0 0 ∷ 10 ∷ []) 0 a.out.now (omega (arith, c.put_numbered-second.ensures.1, c.put_numbered-wave.ensures.1)) _ _ _ _ _ _
    c.put_numbered-second.auto.out c.put_numbered-second.ensures.0 c.put_numbered-wave.ensures.0 r in
    (all, omega (arith, c.put_numbered-second.ensures.1, c.put_numbered-wave.ensures.1, r.next))
