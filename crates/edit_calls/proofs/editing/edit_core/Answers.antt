-- `edit_core` meets its contract: questions 3 to 5 refuse, or memory holds the plan of the clashes that its rows name and `edit_within` edits it.
use Rattle.edit_calls.proofs.Calls.{call_refused, call_within}
use Rattle.memory.specs.Lent.{given}
use Rattle.rule.proofs.Refusals.{refused_some}
use Rattle.edit_calls.proofs.editing.edit_core.Goals as goal

pub returns-in-Err : goal.returns-in-Err
returns-in-Err c =
    let a = c.args in
    call_refused _ _ _ (given a.neighbours.now a.degrees.now a.waves.now a.counts.now a.ranks.now a.trail.now a.moved.now a.tally)
    _ c.in-Err.ensures.number (refused_some _) c.refuse.result c.refuse.ensures.0 c.refuse.ensures.1

pub edit_within-requires : goal.edit_within-requires
edit_within-requires c = (_, c.in_default.ensures.ready)

pub returns : goal.returns
returns c =
    let a = c.args in
    call_within _ _ _ (given a.neighbours.now a.degrees.now a.waves.now a.counts.now a.ranks.now a.trail.now a.moved.now a.tally)
    c.in_default.ensures.number (c.edit_within.ensures _ (c.in_default.ensures.ready))
