-- `strike_all` meets its contract. The invariant: memory holds a plan in which the clashes of b are left that are not yet struck, and striking these leads to the same state; the queue is idle.
use Prim.Native.Nat.{◌+◌, ◌-◌, ◌≤◌}
use Rattle.list_edits.proofs.Queued.{edit_banks}
use Rattle.list_pass.proofs.Passing.{change_none, change_all}
use Rattle.list_pass.proofs.Struck.{left_start, left_some, left_turn, left_end}
use Rattle.planner.proofs.Lengths.{same, then}
use lib.ListN.{length}
use mathlib.Core.Path.{◌≡◌, refl, ap, ◌∙◌}
use native.Mathlib.Omega.{arith}
use Rattle.list_edits.proofs.change.strike_all.Goals as goal

pub returns-then-tally-b : goal.returns-then-tally-b
returns-then-tally-b c =
    let far : c.args.tally.banks ≤ c.args.b.0 = omega (arith, c.if-tally-b.true) in
    let r = c.refuse.ensures in
    record {
      strikes_all = λ begun. record { of = λ G h f. rw r.0 (rw r.1 (change_none begun G _ h f _ far)) };
      idle_after = c.requires.idle;
    }

pub clashes_held-row-requires : goal.clashes_held-row-requires
clashes_held-row-requires c = ((c.requires.holds_plan.0, c.requires.holds_plan.1.plan), c.if-tally-b.false)

pub loop-init : goal.loop-init
loop-init c = (
  λ G h. left_start G _ _ _ _ refl h c.if-tally-b.false (omega (arith, ap length (c.clashes_held-row.ensures G h.plan))),
  same _,
  c.requires.idle,
  refl,
)

pub clashes_held-row-requires-in-loop : goal.clashes_held-row-requires-in-loop
clashes_held-row-requires-in-loop c =
    let w = c.loop.invariant.0 c.requires.holds_plan.0 c.requires.holds_plan.1 in
    ((w.graph, w.ready.plan), w.below)

pub bounds-row-0 : goal.bounds-row-0
bounds-row-0 c =
    let w = c.loop.invariant.0 c.requires.holds_plan.0 c.requires.holds_plan.1 in
    left_some _ _ _ _ _ _ w (omega arith) _ (c.clashes_held-row-in-loop.ensures w.graph w.ready.plan)

pub edit_held-last-requires : goal.edit_held-last-requires
edit_held-last-requires c =
    let i = c.loop.invariant in
    let w = i.0 c.requires.holds_plan.0 c.requires.holds_plan.1 in
    record {
      holds_plan = (w.graph, w.ready);
      idle = rw i.3 i.2;
    }

pub loop-preserved : goal.loop-preserved
loop-preserved c =
    let i = c.loop.invariant in
    let all = length c.clashes_held-row.result.now in
    let less : all - c.loop.counter - 1 ≡ all - (c.loop.counter + 1) = omega arith in
    let row = c.clashes_held-row-in-loop.ensures in
    let strike = c.edit_held-last.ensures.edit_made in
    let k = c.edit_held-last.auto in (
      λ G h. let w = i.0 G h in rw less at (left_turn G _ _ _ _ _ w (omega arith) _ (row w.graph w.ready.plan) _ _ (strike w.graph w.ready)),
      then _ _ _ i.1 (record { neighbours = k.neighbours; degrees = k.degrees; waves = k.waves; counts = k.counts; ranks = refl; trail = k.trail; moved = k.moved }),
      rw i.3 at c.edit_held-last.ensures.idle_2,
      let w = i.0 c.requires.holds_plan.0 c.requires.holds_plan.1 in edit_banks (c.edit_held-last.ensures.edit_made w.graph w.ready) w.ready ∙ i.3,
    )

pub returns : goal.returns
returns c =
    let i = c.loop.invariant in record {
      strikes_all = λ begun. record {
        of = λ G h f. let w = i.0 G h in change_all begun G _ h f _ _ _ c.if-tally-b.false w.number
            (left_end G _ _ _ _ _ w (omega arith));
      };
      idle_after = i.2;
    }
