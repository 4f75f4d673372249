-- The first line, and those of c waves, were read.
use Rattle.std.proofs.Common.{Some, None, ◌≡◌, ◌+◌, arith}
use Rattle.std.proofs.lemmas.Result.{err_from_is_err_and}
use Rattle.sheet_parser.proofs.Sheets.{lines_none, lines_more, no_lines, fault_line}
use Rattle.sheet_parser.proofs.sheet.read_lines.Goals as goal

pub loop-c-init : goal.loop-c-init
loop-c-init c = lines_none c.requires.head c.requires.none_named

pub returns-in_err-next : goal.returns-in_err-next
returns-in_err-next c =
    let p = err_from_is_err_and c.from_residual.result c.from_residual.ensures.1 in
    let missed : c.read_line.result ≡ None = grind arith in
    let line : c.in_err-next.field-0.0 ≡ c.loop-c.c + 2 = grind arith in
    let none = rw missed at c.read_line.ensures in
    rw (p.1, p.2, line) (no_lines c.loop-c.invariant c.loop-c-test.true none, fault_line c.loop-c.invariant c.loop-c-test.true none)

pub loop-c-preserved : goal.loop-c-preserved
loop-c-preserved c =
    let found : c.read_line.result ≡ Some c.in_ok-next.next = grind arith in
    lines_more c.loop-c.invariant c.loop-c-test.true (rw found at c.read_line.ensures)
