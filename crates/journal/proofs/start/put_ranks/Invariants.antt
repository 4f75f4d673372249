-- The loop has written the ranks of the banks below b.
use Rattle.std.proofs.Common.{◌≡◌, length}
use Rattle.journal.specs.Calls.{ranks_below}
use Rattle.journal.specs.inner.Adds.{rank_in, PutsEntries}
use Rattle.journal.proofs.start.put_ranks.Given as goal

abbrev pub invariant-loop-b : goal.invariant-loop-b
invariant-loop-b l = PutsEntries (ranks_below (rank_in l.ranks) l.b) l.done l.initial.journal l.next l.journal × (length l.journal ≡ length l.initial.journal)
