-- `least_in_word`: of the bits passed none has a smaller key.
use Rattle.queue.proofs.Ranks.{Scan}
use Rattle.queue.proofs.ties.least_in_word.Given as goal

abbrev pub invariant-loop-rest : goal.invariant-loop-rest
invariant-loop-rest l = Scan l.ranks l.bits l.base l.so_far l.rest l.least

abbrev pub decreases-loop-rest : goal.decreases-loop-rest
decreases-loop-rest l = l.rest
