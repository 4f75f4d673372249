-- `foot_length` meets its contract: the word, the spaces and the digits of the two numbers.
use Rattle.wave_lines.proofs.Totals.{length_foot}
use native.Mathlib.Omega.{arith}
use Rattle.wave_lines.proofs.foot.foot_length.Goals as goal

pub returns : goal.returns
returns c =
    let t = c.args.tally in
    let banks = c.digits.ensures in
    let clashes = c.digits-2.ensures in
    let long = length_foot t.banks t.clashes in
    (omega (arith, banks.0, clashes.0), omega (arith, banks.1, clashes.1))
