-- The first line is its word, its digits and its line feed.
use Rattle.sheet_writer.proofs.Texts.{length_head}
use Rattle.text.proofs.Decimal.{few_digits}
use native.Mathlib.Omega.{arith}
use Rattle.sheet_writer.proofs.sheet.waves_length.Goals as goal

pub returns : goal.returns
returns c =
    let k = c.args.k in
    (omega (arith, length_head k), omega (arith, few_digits 1 k (omega arith)))
