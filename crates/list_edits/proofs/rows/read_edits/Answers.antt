-- `read_edits` meets its contract. The invariant: memory holds the plan after the rows so far, and what is ahead leads to the same result; a row is no further than its first byte; the queue is idle.
use Prim.Native.Nat.{◌<◌}
use Rattle.list_edits.proofs.Queued.{idle_row}
use Rattle.list_pass.proofs.Passing.{ahead_start, ahead_held, ahead_turn, ahead_end}
use Rattle.planner.proofs.Lengths.{same, then}
use Rattle.planner.proofs.Made.{ready_banks}
use lib.ListN.{length}
use mathlib.Core.Path.{refl}
use native.Mathlib.Omega.{arith}
use Rattle.list_edits.proofs.rows.read_edits.Goals as goal
use Rattle.list_edits.proofs.rows.read_edits.Goals.{then-loop-last-test+else-last-list, else-loop-last-test}

pub loop-last-init : goal.loop-last-init
loop-last-init c =
    let p = c.requires in
    let ready = p.held.1 in (
      λ G h f. ahead_start _ _ _ _ G _ h f _ refl refl refl refl,
      same _,
      p.inside,
      p.later,
      c.reset.ensures.by_index _ _ (omega (arith, ready_banks _ _ ready, ready.plan.clashes.most)),
      λ f. c.reset.ensures.unranked,
    )

pub overflow_add-last : goal.overflow_add-last
overflow_add-last c =
    let l : c.loop-last.last.next < length c.args.list.now = c.if-last-list.true in
    omega (arith, c.requires.few, c.loop-last.invariant.3)

pub edit_row-last-requires : goal.edit_row-last-requires
edit_row-last-requires c =
    let p = c.requires in
    let i = c.loop-last.invariant in
    let w = i.0 p.held.0 p.held.1 p.held.2 in
    record {
      asks_row = record { held = ahead_held _ _ _ _ _ _ _ _ w c.loop-last-test.true; inside = c.if-last-list.true };
      idle = i.4;
      unranked = i.5;
    }

pub loop-last-smaller : goal.loop-last-smaller
loop-last-smaller c =
    let f = c.edit_row-last.ensures.edits_row in
    omega (arith, f.on, f.within)

pub loop-last-preserved : goal.loop-last-preserved
loop-last-preserved c =
    let p = c.requires in
    let i = c.loop-last.invariant in
    let done = c.edit_row-last.ensures.edits_row in
    let held = ahead_held _ _ _ _ _ _ _ _ (i.0 p.held.0 p.held.1 p.held.2) c.loop-last-test.true in
    let k = c.edit_row-last.auto in (
      λ G h q. ahead_turn _ _ _ _ G _ _ _ (i.0 G h q) c.loop-last-test.true (c.if-last-list.true) _ _ done,
      then _ _ _ i.1 (record {
        neighbours = k.neighbours;
        degrees = k.degrees;
        waves = k.waves;
        counts = k.counts;
        ranks = k.ranks;
        trail = k.trail;
        moved = k.moved;
      }),
      done.within,
      omega (arith, done.row, done.on, i.3),
      idle_row done held c.edit_row-last.ensures.idle_after,
      c.edit_row-last.ensures.unranked_after,
    )

pub returns : goal.returns
returns c =
    record {
      of = λ G h f. rw c.ended.ensures (ahead_end _ _ _ _ G _ _ _ (c.loop-last.invariant.0 G h f)
          (λ z. elim c.loop-last-test.branch [ then-loop-last-test+else-last-list w ↦ w.if-last-list.false | else-loop-last-test w ↦ absurd (w.loop-last-test.false z) ]));
    }
