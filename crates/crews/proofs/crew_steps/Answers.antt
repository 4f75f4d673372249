-- `crew_steps` meets its contract: memory that passes the questions holds a plan, and what is stored is its day.
use Rattle.crews.proofs.Answers.{plan_waves, served_is}
use Rattle.crews.proofs.Numbers.{steps_refused, steps_found}
use Rattle.rule.proofs.Refusals.{refused_some}
use Rattle.std.proofs.lemmas.Result.{err_from_is_err_and}
use mathlib.Core.Path.{◌∙◌}
use Rattle.crews.proofs.crew_steps.Goals as goal

pub returns-in_err-check_crew : goal.returns-in_err-check_crew
returns-in_err-check_crew c =
    let p = err_from_is_err_and c.from_residual.result c.from_residual.ensures.1 in
    rw (p.1, p.2) (steps_refused _ _ _ _ _ c.in_err-check_crew.ensures.number (refused_some _))

pub serve_day-requires : goal.serve_day-requires
serve_day-requires c =
    let fine = c.in_ok-check_crew.ensures.crew in
    record {
      few_each = plan_waves fine.plan;
      banks_in_bounds = fine.room;
      crew = fine.crew;
    }

pub returns : goal.returns
returns c =
    let fine = c.in_ok-check_crew.ensures in
    served_is fine.crew.plan _ fine.crew.crew.some c.serve_day.ensures ∙ steps_found _ _ _ _ fine.number
