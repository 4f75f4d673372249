-- `put_rank` meets its contract: a rank other than 0 gives one entry, else none.
use Rattle.journal.proofs.Ranks.{rank_zero, rank_some}
use Rattle.journal.proofs.Writing.{entries_none, fit_fewer}
use Rattle.journal.specs.Calls.{rank_of}
use lib.ListN.{length}
use mathlib.Core.Path.{ap}
use native.Mathlib.Omega.{arith}
use Rattle.journal.proofs.start.put_rank.Goals as goal

pub returns-then-rank-eq0 : goal.returns-then-rank-eq0
returns-then-rank-eq0 c = entries_none _ _ _ (rank_zero _ _ c.if-rank-eq0.true)

pub put_new-requires : goal.put_new-requires
put_new-requires c =
    let one = rank_some c.args.b.0 c.args.rank c.if-rank-eq0.false in
    fit_fewer _ (rank_of c.args.b.0 c.args.rank) _ _ (omega (arith, ap length one)) c.requires

pub returns : goal.returns
returns c = rw (rank_some _ _ c.if-rank-eq0.false) c.put_new.ensures
