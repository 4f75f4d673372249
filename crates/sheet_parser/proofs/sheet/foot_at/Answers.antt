-- `foot_at` meets its contract: the foot is put into bytes of its own, and these are compared.
use Rattle.sheet_parser.proofs.Sheets.{foot_is}
use Rattle.sheet_parser.proofs.Tests.{rest_from, same_says}
use native.Mathlib.Omega.{arith}
use Rattle.sheet_parser.proofs.sheet.foot_at.Goals as goal

pub returns : goal.returns
returns c =
    let bytes = c.foot_length-feed.ensures in
    let foot = foot_is c.args.tally.banks c.args.tally.clashes bytes.0 (omega (arith, bytes.1)) c.put_foot.ensures c.put_byte.ensures in
    rw (← rest_from c.args.s.now c.args.at, ← foot) (same_says _ _ _ c.eq.ensures)
