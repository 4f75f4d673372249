-- `edit_alone`: a queue that was made empty can serve any plan.
use Rattle.planner.proofs.Made.{ready_banks}
use native.Mathlib.Omega.{arith}
use Rattle.held_edits.proofs.editing.edit_alone.Goals as goal

pub edit_held-requires : goal.edit_held-requires
edit_held-requires c =
    let held = c.requires in
    record {
      holds_plan = held;
      idle = c.reset.ensures.by_index _ _ (omega (arith, ready_banks _ _ held.1, held.1.plan.clashes.most));
    }

pub returns : goal.returns
returns c = c.edit_held.ensures.edit_made
