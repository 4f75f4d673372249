-- The cells so far are counted, and the count tells whether all that are left over hold UNUSED.
use Rattle.std.proofs.Common.{arith, ◌+◌, take, refl, ap, ◌∙◌}
use Rattle.std.specs.List.{count_by}
use Rattle.std.proofs.lemmas.List.{length-take-le, take_all}
use Rattle.std.proofs.lemmas.List.Sums.{count_by-le-length}
use Rattle.memory.proofs.Tallies.{bit_small}
use Rattle.plan_test.proofs.Counted.{is_unused, counted_next, unused_is}
use lib.ListN.{get_or}
use Rattle.plan_test.proofs.test.rest_unused.Goals as goal

pub loop-cell-init : goal.loop-cell-init
loop-cell-init c = refl

pub overflow_add-unused : goal.overflow_add-unused
overflow_add-unused c =
    let w = c.loop-cell in
    let row = c.args.row.now in
    let some = count_by-le-length is_unused (take w.cell-index row) in
    let so_far = length-take-le w.cell-index row w.auto.cell-index-end in
    omega (arith, c.requires.size, w.invariant, some, so_far, w.auto.cell-index-end, c.from-unused.ensures, bit_small (is_unused (get_or row w.cell-index 0)))

pub loop-cell-preserved : goal.loop-cell-preserved
loop-cell-preserved c =
    let w = c.loop-cell in
    ap (λ k. w.unused + k) c.from-unused.ensures
    ∙ counted_next c.args.row.now w.cell-index w.unused (is_unused (get_or c.args.row.now w.cell-index 0)) c.loop-cell-test.true refl w.invariant

pub returns : goal.returns
returns c =
    let row = c.args.row.now in
    let all = ap (count_by is_unused) (take_all c.loop-cell.cell-index row c.loop-cell-test.false) in
    unused_is row c.args.named c.requires.none_named c.from.result c.requires.few c.requires.size (c.from.ensures ∙ c.loop-cell.invariant ∙ all)
