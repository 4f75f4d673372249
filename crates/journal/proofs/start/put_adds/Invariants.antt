-- The loop has written the adds of the banks below a.
use Rattle.std.proofs.Common.{◌≡◌, length}
use Rattle.rule.specs.Graph.{Graph}
use Rattle.memory.specs.Plan.{PlanOf}
use Rattle.memory.specs.Lent.{slices_in}
use Rattle.journal.specs.Calls.{adds_below}
use Rattle.journal.specs.inner.Adds.{PutsEntries, Fit}
use Rattle.journal.proofs.start.put_adds.Given as goal

abbrev pub invariant-loop-a : goal.invariant-loop-a
invariant-loop-a l =
    ((G : Graph) → PlanOf G (slices_in l.plan) l.plan.tally → Fit (adds_below G G.banks) l.done l.initial.journal
    → PutsEntries (adds_below G l.a) l.done l.initial.journal l.next l.journal)
    × (length l.journal ≡ length l.initial.journal)
