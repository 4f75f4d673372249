-- The loop has written i lines.
use Rattle.poster_lines.proofs.Columns.{no_blanks, blanks_next, length_blanks, blank_is, length_blank}
use Rattle.poster_lines.specs.Poster.{padded}
use Rattle.text.proofs.Putting.{puts_none, puts_then}
use Rattle.text.specs.Text.{joined}
use lib.ListN.{replicate}
use mathlib.Core.List.{[]}
use mathlib.Core.Path.{◌≡◌, refl, ◌∙◌}
use native.Mathlib.Omega.{arith}
use Rattle.poster_lines.proofs.lines.put_blank_lines.Goals as goal

pub loop-line-init : goal.loop-line-init
loop-line-init c = (rw no_blanks (puts_none _ _), refl)

pub put_end-next-requires : goal.put_end-next-requires
put_end-next-requires c =
    let w = c.loop-line in
    (omega arith, omega (arith, length_blanks w._line, w.invariant.0.next, w.invariant.1, c.loop-line-test.true, c.requires))

pub loop-line-preserved : goal.loop-line-preserved
loop-line-preserved c =
    let w = c.loop-line in
    let a = c.args in
    let long = length_blanks w._line in
    let test = c.loop-line-test.true in
    let room = c.requires in
    let lines = joined (replicate w._line (padded [])) in
    let size = length_blank in
    let more = puts_then lines (padded []) a.at a.out.now (omega arith) _ _ _ _ w.invariant.0 (rw (← blank_is) at c.put_end-next.ensures) in
    (rw (blanks_next w._line (padded [])) more, c.put_end-next.auto.out ∙ w.invariant.1)

pub returns : goal.returns
returns c =
    let w = c.loop-line in
    let e : w._line ≡ c.args.count = omega arith in
    rw e at w.invariant.0
