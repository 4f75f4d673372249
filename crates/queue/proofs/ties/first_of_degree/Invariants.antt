-- `first_of_degree`: the words that are not marked any more have no bank of a smaller key.
use Rattle.queue.proofs.Ranks.{Search}
use Rattle.queue.proofs.ties.first_of_degree.Given as goal

abbrev pub invariant-loop-marks : goal.invariant-loop-marks
invariant-loop-marks l = Search l.ranks l.queue l.word l.marks l.least

abbrev pub decreases-loop-marks : goal.decreases-loop-marks
decreases-loop-marks l = l.marks
