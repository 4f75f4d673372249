-- The first line, and those of c waves, were read.
use Rattle.sheet_parser.specs.inner.Lines.{Lines}
use Rattle.sheet_parser.proofs.sheet.read_lines.Given as goal

abbrev pub invariant-loop-c : goal.invariant-loop-c
invariant-loop-c l = Lines l.s l.cells l.n l.k l.c l.next
