-- `recount_one`: the part of b, lent to `count_earlier` and put back.
use Rattle.edits.proofs.Recounts.{part_back}
use Rattle.edits.proofs.recount.recount_one.Goals as goal

pub returns : goal.returns
returns c =
    let a = c.args in
    rw c.from-start.ensures (part_back a.counts.now c.count_earlier.new.row a.b.0 _ c.requires.b_in_bounds c.count_earlier.ensures)
