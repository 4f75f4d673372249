-- The line so far, or that there is none.
use Rattle.sheet_parser.proofs.Lines.{line_start, line_next, no_next}
use native.Mathlib.Omega.{arith}
use Rattle.sheet_parser.proofs.line.read_banks.Goals as goal

pub loop-c-init : goal.loop-c-init
loop-c-init c = line_start _ c.requires.letter c.requires.none_named

pub returns-in_err-place : goal.returns-in_err-place
returns-in_err-place c = rw c.from_residual.ensures (no_next c.loop-c.invariant c.loop-c-test.ensures c.in_err-place.ensures)

pub loop-c-preserved : goal.loop-c-preserved
loop-c-preserved c =
    line_next c.loop-c.invariant (record { most = c.requires.enough.most; long = omega (arith, c.requires.enough.long, c.loop-c.auto.cells) })
    c.loop-c-test.ensures c.in_ok-place.ensures
