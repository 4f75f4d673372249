-- The cells so far that are equal are counted, and the count tells whether all are.
use Rattle.std.proofs.Common.{◌≡◌, arith, refl}
use lib.Dec.{eqb}
use lib.ListN.{get_or}
use Rattle.memory.proofs.Tallies.{bit_small}
use Rattle.plan_test.proofs.Counted.{equal_next, equal_is}
use Rattle.plan_test.proofs.test.cells_equal.Goals as goal

pub loop-c-init : goal.loop-c-init
loop-c-init c = record { few = omega arith; all = λ q i to. absurd (omega arith); back = λ f. refl }

pub overflow_add-equal : goal.overflow_add-equal
overflow_add-equal c = omega (arith, c.loop-c.invariant.few, c.from-equal.ensures, bit_small (eqb (get_or c.args.part.now c.loop-c.c 0) (get_or c.args.cells.now c.loop-c.c 0)))

pub loop-c-preserved : goal.loop-c-preserved
loop-c-preserved c = rw c.from-equal.ensures (equal_next c.args.part.now c.args.cells.now c.loop-c.equal c.loop-c.c _ refl c.loop-c.invariant)

pub returns : goal.returns
returns c =
    let end : c.loop-c.c ≡ 24 = omega (arith, c.loop-c-test.false, c.loop-c.auto.c-end) in
    equal_is c.args.part.now c.args.cells.now c.loop-c.equal (rw end at c.loop-c.invariant)
