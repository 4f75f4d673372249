-- `take_bank` meets its contract: a number, and a bank that fits.
use Rattle.sheet_parser.proofs.Lines.{other_bank}
use Rattle.sheet_parser.proofs.line.take_bank.Goals as goal

pub returns-then-not-fits : goal.returns-then-not-fits
returns-then-not-fits c = other_bank c.in_ok-number.ensures c.if-not-fits.ensures
