-- `settle`: the state of the work-list is the loop's invariant.
use Rattle.steps.proofs.Ending.{steppable, settled}
use mathlib.Core.Path.{refl, ◌∙◌}
use native.Mathlib.Omega.{arith}
use Rattle.steps.proofs.work_list.settle.Goals as goal

pub loop-waves-init : goal.loop-waves-init
loop-waves-init c = (refl, refl, refl, refl, λ e wk. wk)

pub can_step-p-requires : goal.can_step-p-requires
can_step-p-requires c =
    let pre = c.requires in
    (pre.0, steppable (c.loop-waves.invariant.4 pre.0 pre.1) c.is_empty.ensures c.loop-waves-test.true)

pub loop-waves-smaller : goal.loop-waves-smaller
loop-waves-smaller c =
    let pre = c.requires in
    let wk = c.loop-waves.invariant.4 pre.0 pre.1 in
    let st = steppable wk c.is_empty.ensures c.loop-waves-test.true in
    omega (arith, (c.can_step-p.ensures pre.0 st).treated.one, wk.room, wk.shown.few)

pub loop-waves-preserved : goal.loop-waves-preserved
loop-waves-preserved c =
    let inv = c.loop-waves.invariant in
    let kept = c.can_step-p.auto in (
      kept.waves ∙ inv.0,
      kept.counts ∙ inv.1,
      kept.trail ∙ inv.2,
      kept.moved ∙ inv.3,
      λ e wk. (c.can_step-p.ensures e (steppable (inv.4 e wk) c.is_empty.ensures c.loop-waves-test.true)).working,
    )

pub shape_of-waves : goal.shape_of-waves
shape_of-waves c = c.loop-waves.invariant.0

pub shape_of-counts : goal.shape_of-counts
shape_of-counts c = c.loop-waves.invariant.1

pub shape_of-trail : goal.shape_of-trail
shape_of-trail c = c.loop-waves.invariant.2

pub shape_of-moved : goal.shape_of-moved
shape_of-moved c = c.loop-waves.invariant.3

pub returns : goal.returns
returns c = λ e wk. settled (c.loop-waves.invariant.4 e wk) c.is_empty.ensures c.loop-waves-test.false
