-- The loop has written the first i lines.
use Prim.Native.Nat.{◌≤◌, ◌<◌}
use Rattle.poster_lines.proofs.Columns.{no_lines, lines_next, lines_room}
use Rattle.poster_lines.proofs.Pieces.{length_lines, wave_rows}
use Rattle.poster_lines.specs.inner.Lines.{lines_with}
use Rattle.text.proofs.Putting.{puts_none, puts_then}
use Rattle.text.specs.Text.{joined}
use lib.ListN.{length, get_or, take}
use lib.Seq.{take_all}
use mathlib.Core.List.{[]}
use mathlib.Core.Path.{refl, ◌∙◌}
use native.Mathlib.Omega.{arith}
use Rattle.poster_lines.proofs.lines.put_wave.Goals as goal

pub loop-i-init : goal.loop-i-init
loop-i-init c =
    let a = c.args in
    (rw (no_lines (lines_with a.c.0 a.banks.now)) (puts_none _ _), refl)

pub put_line_at-next-requires : goal.put_line_at-next-requires
put_line_at-next-requires c =
    let w = c.loop-i in
    let a = c.args in
    let pre = c.requires in
    let banks = a.banks.now in
    let ls = lines_with a.c.0 banks in
    let test = c.loop-i-test.true in
    let count = c.lines_for-i-end.ensures in
    let at-line : w.i < length ls = omega (arith, length_lines a.c.0 banks, count, test) in
    let room = lines_room ls w.i at-line (wave_rows a.c.0 banks pre.1) in
    (pre.0, pre.1, pre.2, omega (arith, count, test), omega (arith, w.invariant.0.next, w.invariant.1, pre.3))

pub loop-i-preserved : goal.loop-i-preserved
loop-i-preserved c =
    let w = c.loop-i in
    let a = c.args in
    let pre = c.requires in
    let banks = a.banks.now in
    let ls = lines_with a.c.0 banks in
    let test = c.loop-i-test.true in
    let at-line : w.i < length ls = omega (arith, length_lines a.c.0 banks, c.lines_for-i-end.ensures, test) in
    let room = lines_room ls w.i at-line (wave_rows a.c.0 banks pre.1) in
    let fits = pre.3 in
    let more = puts_then (joined (take w.i ls)) (get_or ls w.i []) a.at a.out.now (omega arith) _ _ _ _ w.invariant.0 c.put_line_at-next.ensures in
    (rw (lines_next ls w.i at-line) more, c.put_line_at-next.auto.out ∙ w.invariant.1)

pub returns : goal.returns
returns c =
    let a = c.args in
    let w = c.loop-i in
    let ls = lines_with a.c.0 a.banks.now in
    let all : length ls ≤ w.i = omega (arith, length_lines a.c.0 a.banks.now, c.lines_for-i-end.ensures, c.loop-i-test.false) in
    rw (take_all w.i ls all) at w.invariant.0
