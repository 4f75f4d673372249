-- `change_clash`: a and b one after the other.
use Rattle.neighbour_rows.proofs.Rewriting.{altering_a, altering_b, rewritten}
use Rattle.rule.specs.Graph.{neighbours}
use Rattle.neighbour_rows.proofs.clash.change_clash.Goals as goal

pub change_neighbour-old_a-requires : goal.change_neighbour-old_a-requires
change_neighbour-old_a-requires c = (neighbours c.requires.0 c.args.a.0, altering_a c.requires.1 c.requires.2)

pub change_neighbour-old_b-requires : goal.change_neighbour-old_b-requires
change_neighbour-old_b-requires c =
    let one = c.change_neighbour-old_a.ensures _ (altering_a c.requires.1 c.requires.2) in
    (neighbours c.requires.0 c.args.b.0, altering_b c.requires.1 c.requires.2 c.change_neighbour-old_a.auto.neighbours one)

pub returns : goal.returns
returns c =
    λ G rd ac.
    let same = c.change_neighbour-old_a.auto.neighbours in
    let one = c.change_neighbour-old_a.ensures _ (altering_a rd ac) in
    rewritten rd ac same one c.change_neighbour-old_b.auto.neighbours (c.change_neighbour-old_b.ensures _ (altering_b rd ac same one))
