-- `propagate`: the seeds are queued and counted anew, the queue is settled, and the outcome is that of `Propagating`.
use Rattle.edits.proofs.Propagating.{seedable, working, count_in-law, waves_small, top_after, few_taken, outcome, idle_after}
use native.Mathlib.Omega.{arith}
use Rattle.edits.proofs.edit.propagate.Goals as goal

pub queue_seeds-requires : goal.queue_seeds-requires
queue_seeds-requires c = (c.requires.rows_changed.0, seedable c.requires.rows_changed.1 c.requires.idle)

pub settle-done-requires : goal.settle-done-requires
settle-done-requires c = (_, working c.requires.rows_changed.1 (c.queue_seeds.ensures c.requires.rows_changed.0 (seedable c.requires.rows_changed.1 c.requires.idle)))

pub waves_after-most-requires : goal.waves_after-most-requires
waves_after-most-requires c =
    let st = (c.settle-done.ensures _ (working c.requires.rows_changed.1 (c.queue_seeds.ensures c.requires.rows_changed.0 (seedable c.requires.rows_changed.1 c.requires.idle)))).0 in
    record {
      long = count_in-law c.requires.rows_changed.1 st;
      small = waves_small c.requires.rows_changed.1 st;
      top = top_after c.requires.rows_changed.1 st;
    }

pub overflow_cast-result : goal.overflow_cast-result
overflow_cast-result c =
    let st = (c.settle-done.ensures _ (working c.requires.rows_changed.1 (c.queue_seeds.ensures c.requires.rows_changed.0 (seedable c.requires.rows_changed.1 c.requires.idle)))).0 in
    omega (arith, few_taken c.requires.rows_changed.1 st, st.fewer)

pub overflow_cast-result-2 : goal.overflow_cast-result-2
overflow_cast-result-2 c =
    let st = (c.settle-done.ensures _ (working c.requires.rows_changed.1 (c.queue_seeds.ensures c.requires.rows_changed.0 (seedable c.requires.rows_changed.1 c.requires.idle)))).0 in
    omega (arith, few_taken c.requires.rows_changed.1 st)

pub returns : goal.returns
returns c =
    let most = c.waves_after-most in record {
      made = λ o ch. outcome ch (c.settle-done.ensures _ (working ch (c.queue_seeds.ensures o (seedable ch c.requires.idle)))).0 most.result most.ensures;
      idle =
          let p = c.requires.rows_changed in
          idle_after p.1 (c.settle-done.ensures _ (working p.1 (c.queue_seeds.ensures p.0 (seedable p.1 c.requires.idle)))).1;
    }
