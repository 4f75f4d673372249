-- `put_foot` meets its contract: the two numbers are the tally's.
use Rattle.wave_lines.proofs.Totals.{length_foot}
use native.Mathlib.Omega.{arith}
use Rattle.wave_lines.proofs.foot.put_foot.Goals as goal

pub put_totals-requires : goal.put_totals-requires
put_totals-requires c =
    let t = c.args.tally in
    omega (arith, length_foot t.banks t.clashes, c.requires)
