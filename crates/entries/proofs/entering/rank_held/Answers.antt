-- `rank_held`: refused with 18 or 4, or one cell set.
use Rattle.planner.proofs.RanksSet.{rank_late, rank_far, rank_done}
use native.Mathlib.Omega.{arith}
use Rattle.entries.proofs.entering.rank_held.Goals as goal

pub returns-then-begun : goal.returns-then-begun
returns-then-begun c = rank_late c.if-begun.true c.refuse.ensures

pub returns-then-tally-b : goal.returns-then-tally-b
returns-then-tally-b c = rank_far c.if-begun.false c.if-tally-b.true c.refuse-then-tally-b.ensures

pub bounds-ranks-at : goal.bounds-ranks-at
bounds-ranks-at c = omega (arith, c.from-at.ensures, c.if-tally-b.false, c.requires)

pub returns : goal.returns
returns c = rank_done c.if-begun.false (omega (arith, c.if-tally-b.false)) c.from-at.ensures
