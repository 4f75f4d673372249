-- `edit_held` meets its contract: what it refuses is as it was, and what `make_edit` leaves is the edit that the definition accepts.
use Rattle.memory.specs.Lent.{given}
use Rattle.planner.proofs.Outcomes.{edit_refused, editable, edit_accepted}
use Rattle.rule.proofs.Refusals.{refused_some}
use Rattle.held_edits.proofs.editing.edit_held.Goals as goal

pub edit_number-requires : goal.edit_number-requires
edit_number-requires c = (c.requires.holds_plan.0, c.requires.holds_plan.1.plan)

pub returns-in-Err : goal.returns-in-Err
returns-in-Err c =
    let a = c.args in record {
      edit_made = λ G ready.
          edit_refused _ G _ _ (given a.neighbours.now a.degrees.now a.waves.now a.counts.now a.ranks.now a.trail.now a.moved.now a.tally) ready
          _ (c.in-Err.ensures G ready.plan) (refused_some _) c.refuse.result c.refuse.ensures.0 c.refuse.ensures.1;
      idle_2 = c.requires.idle;
    }

pub make_edit-done-requires : goal.make_edit-done-requires
make_edit-done-requires c =
    record {
      editable = (c.requires.holds_plan.0, editable _ _ _ c.requires.holds_plan.1 (c.in_default.ensures {u = tt} c.requires.holds_plan.0 c.requires.holds_plan.1.plan));
      idle = c.requires.idle;
    }

pub returns : goal.returns
returns c =
    record {
      edit_made = λ G ready.
          let e = c.in_default.ensures {u = tt} G ready.plan in
          edit_accepted _ _ _ ready e (c.make_edit-done.ensures.fact G (editable _ _ _ ready e));
      idle_2 = c.make_edit-done.ensures.idle_2;
    }
