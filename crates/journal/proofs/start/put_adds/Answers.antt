-- The loop has written the adds of the banks below a.
use Rattle.journal.proofs.Adds.{below_none, row_fit, row_put, plan_banks}
use Rattle.journal.proofs.Writing.{entries_none}
use Rattle.std.proofs.Common.{◌≡◌, refl, ◌∙◌, arith}
use Rattle.journal.proofs.start.put_adds.Goals as goal

pub loop-a-init : goal.loop-a-init
loop-a-init c = (λ G p r. entries_none _ _ _ (below_none G), refl)

pub put_adds_of-next-requires : goal.put_adds_of-next-requires
put_adds_of-next-requires c =
    let p = c.requires in
    let w = c.loop-a in
    row_fit p.0 _ _ p.1 w.a c.loop-a-test.true _ (c.clashes_held.ensures p.0 p.1) _ _ p.2 _ _ (w.invariant.0 p.0 p.1 p.2) w.invariant.1

pub loop-a-preserved : goal.loop-a-preserved
loop-a-preserved c =
    let w = c.loop-a in (
      λ G p r. row_put G _ _ p w.a c.loop-a-test.true _ (c.clashes_held.ensures G p) _ _ r _ _ (w.invariant.0 G p r) _ _ c.put_adds_of-next.ensures,
      c.put_adds_of-next.auto.journal ∙ w.invariant.1,
    )

pub returns : goal.returns
returns c =
    let w = c.loop-a in
    λ G p r. let e : w.a ≡ G.banks = omega (arith, plan_banks G _ _ p, c.loop-a-test.false, w.auto.a-end) in rw e at (w.invariant.0 G p r)
