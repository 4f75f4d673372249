-- The digits so far are those of the value.
use Rattle.sheet_parser.proofs.Numbers.{begun_first, begun_next, stopped}
use lib.ListN.{length}
use mathlib.Core.Path.{◌≡◌}
use native.Mathlib.Omega.{arith}
use Rattle.sheet_parser.proofs.number.read_digits.Goals as goal
use Rattle.sheet_parser.proofs.number.read_digits.Goals.{then-value-ge1000-via-then-value-ge1000, then-value-ge1000-via-else-value-ge1000+then-not-digit_at}

pub loop-next-init : goal.loop-next-init
loop-next-init c = rw c.from-value.ensures (begun_first c.requires.0 c.requires.1)

pub returns-then-value-ge1000 : goal.returns-then-value-ge1000
returns-then-value-ge1000 c =
    stopped c.loop-next.invariant (λ more.
    elim c.then-value-ge1000.branch [
      | then-value-ge1000-via-then-value-ge1000 w ↦ omega (arith, more.0)
      | then-value-ge1000-via-else-value-ge1000+then-not-digit_at w ↦ w.if-not-digit_at.ensures more.1
    ])

pub loop-next-preserved : goal.loop-next-preserved
loop-next-preserved c = rw c.from.ensures (begun_next c.loop-next.invariant c.if-value-ge1000.false c.if-not-digit_at.ensures)

pub returns : goal.returns
returns c =
    let end : c.loop-next.next ≡ length c.args.s.now = omega (arith, c.loop-next.invariant.inside, c.loop-next-test.false) in
    rw (← end) (stopped c.loop-next.invariant (λ more. omega (arith, more.1.inside)))
