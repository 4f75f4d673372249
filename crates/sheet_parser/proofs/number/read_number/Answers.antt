-- `read_number` meets its contract: a number is there, and no digit follows it.
use Rattle.sheet_parser.proofs.Numbers.{no_number, number_at}
use Rattle.sheet_parser.proofs.number.read_number.Goals as goal

pub returns-then-not-digit_at : goal.returns-then-not-digit_at
returns-then-not-digit_at c = no_number c.if-not-digit_at.ensures

pub returns-then-digit_at : goal.returns-then-digit_at
returns-then-digit_at c = c.read_first-number.ensures.whole c.if-digit_at.ensures

pub returns : goal.returns
returns c = number_at c.read_first-number.ensures c.if-digit_at.ensures
