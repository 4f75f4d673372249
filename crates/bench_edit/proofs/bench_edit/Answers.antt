-- `bench_edit` meets its contract: the edit of memory that holds a plan, on the lent cells.
use Rattle.bench_edit.proofs.HeldCalls.{held, held_done}
use native.Mathlib.Omega.{arith}
use Rattle.bench_edit.proofs.bench_edit.Goals as goal

pub edit_held-r-requires : goal.edit_held-r-requires
edit_held-r-requires c =
    record {
      holds_plan = held _ _ c.tally_in-t.ensures c.requires.holds_plan;
      idle = rw c.tally_in-t.ensures c.requires.idle;
    }

pub put_answer-requires : goal.put_answer-requires
put_answer-requires c = omega (arith, c.requires.cells)

pub returns : goal.returns
returns c =
    let at = c.tally_in-t.ensures in record {
      edited = λ G ready. held_done _ _ at _ G _ _ _ _ _ _ _ _ c.edit_held-r.ensures.edit_made ready c.put_answer.ensures.tally c.put_answer.ensures.res;
      idle_after = rw (← at) c.edit_held-r.ensures.idle_2;
    }
