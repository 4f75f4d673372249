-- `put_totals` meets its contract: its four pieces one after another.
use Rattle.wave_lines.proofs.Totals.{puts_foot}
use Rattle.wave_lines.proofs.foot.put_totals.Goals as goal

pub returns : goal.returns
returns c =
    let last = c.put_number in
    let a = c.args in
    puts_foot a.n a.m a.at a.out.now c.requires _ _ _ _ _ _ _ _ c.put_text-banks.auto.out
    c.put_number-space.auto.out c.put_text-banks.ensures c.put_number-space.ensures c.put_byte-clashes.ensures last.ensures
