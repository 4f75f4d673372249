-- `queue_turned`: after i turns the turned ones of the first i neighbours are queued.
use mathlib.Core.Path.{refl, ◌∙◌}
use native.Mathlib.Omega.{arith}
use Rattle.edits.proofs.seeds.queue_turned.Goals as goal

pub loop-i-init : goal.loop-i-init
loop-i-init c = (refl, λ s tn. tn)

pub queue_turned_one-requires : goal.queue_turned_one-requires
queue_turned_one-requires c =
    let pre = c.requires in
    record {
      turning = (pre.0, c.loop-i.invariant.1 pre.0 pre.1);
      in_row = omega (arith, rw c.from.ensures at c.from-degree.ensures);
    }

pub loop-i-preserved : goal.loop-i-preserved
loop-i-preserved c =
    let inv = c.loop-i.invariant in
    (c.queue_turned_one.auto.counts ∙ inv.0, λ s tn. c.queue_turned_one.ensures s (inv.1 s tn))

pub shape_of-counts : goal.shape_of-counts
shape_of-counts c = c.loop-i.invariant.0
