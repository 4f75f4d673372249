-- `least_in_word`: of the bits passed none has a smaller key.
use Prim.Native.Nat.{ℕ, min}
use Rattle.queue.proofs.Ranks.{scan_start, scan_lowest, scan_cell, scan_step, scan_less, scan_end}
use mathlib.Core.Path.{ap, ◌∙◌}
use native.Mathlib.Omega.{arith}
use Rattle.queue.proofs.ties.least_in_word.Goals as goal

pub loop-rest-init : goal.loop-rest-init
loop-rest-init c = scan_start c.requires

pub overflow_cast-low : goal.overflow_cast-low
overflow_cast-low c = omega (arith, (scan_lowest c.loop-rest.invariant c.loop-rest-test.true).inside)

pub overflow_add-base : goal.overflow_add-base
overflow_add-base c = omega (arith, c.requires.small, (scan_lowest c.loop-rest.invariant c.loop-rest-test.true).inside)

pub key-requires : goal.key-requires
key-requires c =
    let given = c.requires in
    let inv = c.loop-rest.invariant in
    (omega (arith, given.small, (scan_lowest inv c.loop-rest-test.true).inside), scan_cell inv c.loop-rest-test.true given)

pub loop-rest-smaller : goal.loop-rest-smaller
loop-rest-smaller c = scan_less c.loop-rest.invariant c.loop-rest-test.true

pub loop-rest-preserved : goal.loop-rest-preserved
loop-rest-preserved c = scan_step c.loop-rest.invariant c.loop-rest-test.true (c.min-least.ensures ∙ ap (λ (x : ℕ). min c.loop-rest.least x) c.key.ensures)

pub returns : goal.returns
returns c = scan_end (rw c.loop-rest-test.false at c.loop-rest.invariant)
