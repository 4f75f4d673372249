-- `change_neighbour`: the row as a part that is lent, and put back; then the degree.
use Rattle.memory.proofs.Rows.{group_lent}
use Rattle.neighbour_rows.proofs.RowCells.{altered}
use Rattle.neighbour_rows.proofs.clash.change_neighbour.Goals as goal

pub change_row-requires : goal.change_row-requires
change_row-requires c = (c.requires.0, rw (c.from-at.ensures, group_lent 23 c.args.neighbours.now c.args.b.0) c.requires.1.ready)

pub returns : goal.returns
returns c =
    let row = rw (c.from-at.ensures, group_lent 23 c.args.neighbours.now c.args.b.0) at c.change_row.ensures.0 in
    let degree = rw c.from-at.ensures at c.change_row.ensures.1 in
    λ banks al. rw (c.from-at.ensures, degree) (altered al c.change_row.new.row (row banks al.ready))
