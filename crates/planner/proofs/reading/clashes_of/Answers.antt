-- `clashes_of` meets its contract: refused it returns no cell, else the neighbours in the plan that memory holds.
use Rattle.planner.proofs.Rows.{clashes_refused, clashes_found}
use Rattle.rule.proofs.Refusals.{refused_some}
use mathlib.Core.Path.{◌∙◌}
use Rattle.planner.proofs.reading.clashes_of.Goals as goal

pub clashes_held-requires : goal.clashes_held-requires
clashes_held-requires c = let h = c.in-Ok.ensures.plan in ((_, h.0), h.1)

pub returns-in-Ok : goal.returns-in-Ok
returns-in-Ok c = c.clashes_held.ensures _ c.in-Ok.ensures.plan.0 ∙ clashes_found _ _ _ c.in-Ok.ensures.number

pub returns-in-Err : goal.returns-in-Err
returns-in-Err c = clashes_refused _ _ _ _ c.in-Err.ensures.number (refused_some _)
