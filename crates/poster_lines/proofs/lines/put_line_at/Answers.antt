-- The banks of line i are the part from 7 i on.
use Rattle.poster_lines.proofs.Pieces.{line_at, part_at, part_fits}
use Rattle.poster_lines.proofs.lines.put_line_at.Goals as goal

pub put_line-requires : goal.put_line-requires
put_line-requires c =
    let to = c.min-to.ensures in
    let fits = part_fits c.args.banks.now _ _ c.requires.1 to in
    (fits.0, fits.1, c.requires.4)

pub returns : goal.returns
returns c =
    let to = c.min-to.ensures in
    let mark = c.mark_of.ensures in
    let a = c.args in
    let banks = a.banks.now in
    rw (line_at a.c.0 banks a.i c.requires.3, part_at banks a.i _ to, ← mark) c.put_line.ensures
