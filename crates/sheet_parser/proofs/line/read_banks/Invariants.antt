-- The line so far.
use Prim.Native.Nat.{◌-◌}
use Rattle.sheet_parser.specs.inner.Lines.{OnLine}
use lib.ListN.{length}
use Rattle.sheet_parser.proofs.line.read_banks.Given as goal

abbrev pub invariant-loop-c : goal.invariant-loop-c
invariant-loop-c l = OnLine l.s l.initial.cells l.cells l.n l.c.0 l.from l.place.low l.place.next

abbrev pub decreases-loop-c : goal.decreases-loop-c
decreases-loop-c l = length l.s - l.place.next
