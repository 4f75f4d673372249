-- The loop has written the adds of the banks before this one in the row.
use Rattle.std.proofs.Common.{◌≡◌, length, take}
use Rattle.journal.specs.Calls.{adds_of}
use Rattle.journal.specs.inner.Adds.{PutsEntries}
use Rattle.journal.proofs.start.put_adds_of.Given as goal

abbrev pub invariant-loop-b : goal.invariant-loop-b
invariant-loop-b l = PutsEntries (adds_of l.a.0 (take l.b-index l.row)) l.done l.initial.journal l.next l.journal × (length l.journal ≡ length l.initial.journal)
