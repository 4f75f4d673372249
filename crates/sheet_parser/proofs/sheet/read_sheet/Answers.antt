-- `read_sheet` meets its contract: the first line, the lines of the waves, the foot, every bank.
use Rattle.std.proofs.Common.{None, ◌≡◌, arith}
use Rattle.std.proofs.lemmas.Result.{err_from_is_err_and}
use Rattle.sheet_parser.proofs.Sheets.{no_head, fault_head, no_foot, not_all, fault_foot, sheet_done}
use Rattle.sheet_parser.specs.inner.Lines.{NoSheet}
use Rattle.sheet_parser.proofs.sheet.read_sheet.Goals as goal
use Rattle.sheet_parser.proofs.sheet.read_sheet.Goals.{then-not-foot_at-via-then-not-foot_at, then-not-foot_at-via-else-not-foot_at+then-not-all_named}

pub returns-in_err-head : goal.returns-in_err-head
returns-in_err-head c =
    let p = err_from_is_err_and c.from_residual.result c.from_residual.ensures.1 in
    let missed : c.read_head.result ≡ None = grind arith in
    let line : c.in_err-head.field-0.0 ≡ 1 = grind arith in
    let none = rw missed at c.read_head.ensures in
    rw (p.1, p.2, line) (no_head none, fault_head _ none)

pub returns-then-not-foot_at : goal.returns-then-not-foot_at
returns-then-not-foot_at c =
    let read = c.in_ok-foot.ensures in
    let none = elim c.then-not-foot_at.branch as (λ b. NoSheet c.args.s.now c.args.tally.banks c.args.tally.clashes) [
      | then-not-foot_at-via-then-not-foot_at w ↦ no_foot read w.if-not-foot_at.ensures
      | then-not-foot_at-via-else-not-foot_at+then-not-all_named w ↦ not_all read w.if-not-all_named.ensures
    ] in
    (none, fault_foot read)

pub returns : goal.returns
returns c = sheet_done c.in_ok-foot.ensures c.if-not-foot_at.ensures c.if-not-all_named.ensures
