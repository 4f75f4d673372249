-- Question 5: the cap's test, then that of the cells.
use Rattle.memory.proofs.Question.{cap_refused, cap_granted}
use Rattle.std.proofs.Common.{sym, ◌∙◌}
use Rattle.plan_test.proofs.test.holds_plan.Goals as goal

pub returns-then-cap_fits : goal.returns-then-cap_fits
returns-then-cap_fits c = cap_granted _ _ (sym c.if-cap_fits.true ∙ c.cap_fits.ensures) c.is_plan.ensures

pub returns-else-cap_fits : goal.returns-else-cap_fits
returns-else-cap_fits c = c.if-cap_fits.false ∙ cap_refused _ _ (sym c.if-cap_fits.false ∙ c.cap_fits.ensures)
