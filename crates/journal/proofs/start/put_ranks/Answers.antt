-- The loop has written the ranks of the banks below b.
use Rattle.journal.proofs.Ranks.{ranks_none, rank_fit, rank_put}
use Rattle.journal.proofs.Writing.{entries_none}
use Rattle.std.proofs.Common.{refl, ◌∙◌}
use Rattle.journal.proofs.start.put_ranks.Goals as goal

pub loop-b-init : goal.loop-b-init
loop-b-init c = (entries_none _ _ _ (ranks_none _), refl)

pub put_rank-next-requires : goal.put_rank-next-requires
put_rank-next-requires c =
    let w = c.loop-b in
    rank_fit c.args.ranks.now w.b c.args.n _ c.loop-b-test.true c.args.journal.now c.requires.1 _ c.from.ensures _ _ w.invariant.0 w.invariant.1

pub loop-b-preserved : goal.loop-b-preserved
loop-b-preserved c =
    let w = c.loop-b in
    let a = c.args in (
      rank_put a.ranks.now w.b a.n a.done c.loop-b-test.true a.journal.now c.requires.1 _ c.from.ensures _ _ w.invariant.0 _ _ c.put_rank-next.ensures,
      c.put_rank-next.auto.journal ∙ w.invariant.1,
    )
