-- `text_at` meets its contract: the library's comparison, of the bytes from the place on.
use Rattle.sheet_parser.proofs.Tests.{stands_says}
use Rattle.sheet_parser.proofs.number.text_at.Goals as goal

pub returns : goal.returns
returns c = let a = c.args in stands_says a.s.now a.at a.text.now c.starts_with.result c.starts_with.ensures.value
