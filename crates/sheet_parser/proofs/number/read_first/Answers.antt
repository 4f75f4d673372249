-- `read_first` meets its contract: a 0 is a number by itself.
use Rattle.sheet_parser.proofs.Numbers.{zero_alone}
use Rattle.sheet_parser.proofs.number.read_first.Goals as goal

pub returns-then-s-at-eq48 : goal.returns-then-s-at-eq48
returns-then-s-at-eq48 c = zero_alone c.requires c.if-s-at-eq48.true
