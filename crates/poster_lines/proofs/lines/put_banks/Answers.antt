-- The loop has written the first i banks.
use Rattle.memory.proofs.Fronts.{in_cell}
use Rattle.poster_lines.proofs.Columns.{no_columns, columns_next, columns_before-law, length_aligned}
use Rattle.poster_lines.specs.Poster.{right_aligned}
use Rattle.text.proofs.Putting.{puts_none, puts_then}
use Rattle.text.specs.Text.{joined}
use lib.ListN.{get_or, take}
use lib.Seq.{take_all}
use mathlib.Core.List.{map}
use mathlib.Core.Path.{refl, ◌∙◌}
use native.Mathlib.Omega.{arith}
use Rattle.poster_lines.proofs.lines.put_banks.Goals as goal

pub loop-b-init : goal.loop-b-init
loop-b-init c = (rw no_columns (puts_none _ _), refl)

pub put_aligned-next-requires : goal.put_aligned-next-requires
put_aligned-next-requires c =
    let w = c.loop-b in
    let test = c.loop-b-test.true in
    let banks = c.args.banks.now in
    let small = c.requires.0 in (
      small _ (in_cell w.b-index banks test),
      omega (arith, columns_before-law banks small w.b-index (omega arith), w.invariant.0.next, w.invariant.1, test, c.requires.1),
    )

pub loop-b-preserved : goal.loop-b-preserved
loop-b-preserved c =
    let w = c.loop-b in
    let a = c.args in
    let banks = a.banks.now in
    let small = c.requires.0 in
    let room = c.requires.1 in
    let test = c.loop-b-test.true in
    let columns = joined (map right_aligned (take w.b-index banks)) in
    let bank = get_or banks w.b-index 0 in
    let long = columns_before-law banks small w.b-index (omega arith) in
    let five = length_aligned bank (small _ (in_cell w.b-index banks test)) in
    let more = puts_then columns (right_aligned bank) a.at a.out.now (omega arith) _ _ _ _ w.invariant.0 c.put_aligned-next.ensures in
    (rw (columns_next banks w.b-index test) more, c.put_aligned-next.auto.out ∙ w.invariant.1)

pub returns : goal.returns
returns c =
    let w = c.loop-b in
    rw (take_all w.b-index c.args.banks.now (omega arith)) at w.invariant.0
