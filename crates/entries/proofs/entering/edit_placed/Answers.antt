-- `edit_placed`: the queue is idle for the same ranks before the edit.
use Rattle.planner.proofs.RanksSet.{ranks_wide}
use Rattle.entries.proofs.entering.edit_placed.Goals as goal

pub place_by_rank-requires : goal.place_by_rank-requires
place_by_rank-requires c =
    record {
      banks_in_bounds = ranks_wide c.requires.holds_plan.0 _ c.requires.holds_plan.1;
      idle = c.requires.idle;
    }

pub edit_held-requires : goal.edit_held-requires
edit_held-requires c =
    record {
      holds_plan = c.requires.holds_plan;
      idle = c.place_by_rank.ensures;
    }

pub returns : goal.returns
returns c = c.edit_held.ensures
