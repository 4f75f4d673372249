-- The loop has compared the first i bytes.
use Rattle.shelf.proofs.Bytes.{same_long, same_next, same_not, same_end}
use mathlib.Core.Path.{refl, sym, ◌∙◌}
use native.Mathlib.Omega.{arith}
use Rattle.shelf.proofs.names.same_bytes.Goals as goal

pub returns-then-a-b : goal.returns-then-a-b
returns-then-a-b c = sym (same_long _ _ c.if-a-b.true)

pub loop-i-init : goal.loop-i-init
loop-i-init c = (refl, omega arith)

pub returns-then-a-i : goal.returns-then-a-i
returns-then-a-i c = let w = c.loop-i in sym (w.invariant.0 ∙ same_not _ _ w.i (omega arith) (omega arith) c.if-a-i.true)

pub loop-i-preserved : goal.loop-i-preserved
loop-i-preserved c =
    let w = c.loop-i in
    (w.invariant.0 ∙ same_next _ _ w.i (omega arith) (omega arith) (omega arith), w.invariant.1)

pub returns : goal.returns
returns c = let w = c.loop-i in sym (w.invariant.0 ∙ same_end _ _ w.i (omega arith) (omega arith))
