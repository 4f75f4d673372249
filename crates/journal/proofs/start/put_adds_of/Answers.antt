-- The loop has written the adds of the banks before this one in the row.
use Rattle.journal.proofs.Adds.{adds_none, adds_fit_next, adds_put}
use Rattle.journal.proofs.Writing.{entries_none}
use Rattle.std.proofs.Common.{refl, ◌∙◌}
use Rattle.journal.proofs.start.put_adds_of.Goals as goal

pub loop-b-init : goal.loop-b-init
loop-b-init c = (entries_none _ _ _ (adds_none _), refl)

pub put_add-next-requires : goal.put_add-next-requires
put_add-next-requires c =
    let w = c.loop-b in
    adds_fit_next c.args.a.0 c.args.row.now w.b-index c.loop-b-test.true _ c.args.journal.now c.requires _ _ w.invariant.0 w.invariant.1

pub loop-b-preserved : goal.loop-b-preserved
loop-b-preserved c =
    let w = c.loop-b in
    let a = c.args in (
      adds_put a.a.0 a.row.now w.b-index c.loop-b-test.true a.done a.journal.now c.requires _ _ w.invariant.0 _ _ c.put_add-next.ensures,
      c.put_add-next.auto.journal ∙ w.invariant.1,
    )
