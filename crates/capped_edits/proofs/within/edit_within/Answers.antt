-- `edit_within`: under a cap of 24 the edit as it is, else made apart.
use Rattle.capped_edits.proofs.Unmade.{wide_within}
use Rattle.capped_edits.proofs.within.edit_within.Goals as goal

pub edit_alone-requires : goal.edit_alone-requires
edit_alone-requires c = c.requires

pub returns-then-unlimited : goal.returns-then-unlimited
returns-then-unlimited c = λ G ready. wide_within ready (c.unlimited.ensures c.if-unlimited.true).0 (c.unlimited.ensures c.if-unlimited.true).1 (c.edit_alone.ensures G ready)

pub edit_apart-requires : goal.edit_apart-requires
edit_apart-requires c = c.requires

pub returns : goal.returns
returns c = c.edit_apart.ensures
