-- The digits so far are those of the value.
use Rattle.sheet_parser.specs.inner.Numbers.{Begun}
use Rattle.sheet_parser.proofs.number.read_digits.Given as goal

abbrev pub invariant-loop-next : goal.invariant-loop-next
invariant-loop-next l = Begun l.s l.at l.value l.next
