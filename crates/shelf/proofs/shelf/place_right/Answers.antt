-- `place_right`: by its used cell.
use Rattle.shelf.proofs.Places.{right_unused, right_above, right_used}
use borrow.Author.Tests.{eq-eqb, ne_eqb}
use mathlib.Core.Path.{◌∙◌}
use Rattle.shelf.proofs.shelf.place_right.Goals as goal

pub returns-then-used-eq0 : goal.returns-then-used-eq0
returns-then-used-eq0 c = eq-eqb _ _ c.if-used-eq0.true ∙ right_unused c.args.banks c.args.place.now c.if-used-eq0.true

pub returns-then-used-eq-USED : goal.returns-then-used-eq-USED
returns-then-used-eq-USED c = right_used c.args.banks c.args.place.now _ c.if-used-eq-USED.true c.holds_in.ensures

pub returns-else-used-eq-USED : goal.returns-else-used-eq-USED
returns-else-used-eq-USED c = ne_eqb _ _ c.if-used-eq-USED.false ∙ right_above c.args.banks c.args.place.now c.if-used-eq0.false c.if-used-eq-USED.false
