-- `add_number` meets its contract: each return is one case of `clash_number`.
use Rattle.planner.proofs.Numbers.{add_there, add_full_a, add_full_b, add_fine}
use mathlib.Core.Path.{sym}
use Rattle.held_edits.proofs.editing.add_number.Goals as goal
use Rattle.held_edits.proofs.editing.add_number.Goals.{then-degree_a-ge-MOST_CLASHES-via-then-degree_a-ge-MOST_CLASHES}
use Rattle.held_edits.proofs.editing.add_number.Goals.{then-degree_a-ge-MOST_CLASHES-via-else-degree_a-ge-MOST_CLASHES+then-degree_b-ge-MOST_CLASHES}

pub returns-then-there : goal.returns-then-there
returns-then-there c = rw c.if-there.true (sym (add_there _ _))

pub returns-then-degree_a-ge-MOST_CLASHES : goal.returns-then-degree_a-ge-MOST_CLASHES
returns-then-degree_a-ge-MOST_CLASHES c =
    rw c.if-there.false (elim c.then-degree_a-ge-MOST_CLASHES.branch [
      | then-degree_a-ge-MOST_CLASHES-via-then-degree_a-ge-MOST_CLASHES w ↦ sym (add_full_a _ _ w.if-degree_a-ge-MOST_CLASHES.true)
      | then-degree_a-ge-MOST_CLASHES-via-else-degree_a-ge-MOST_CLASHES+then-degree_b-ge-MOST_CLASHES w ↦ sym (add_full_b _ _ w.if-degree_a-ge-MOST_CLASHES.false w.if-degree_b-ge-MOST_CLASHES.true)
    ])

pub returns : goal.returns
returns c = rw c.if-there.false (sym (add_fine _ _ c.if-degree_a-ge-MOST_CLASHES.false c.if-degree_b-ge-MOST_CLASHES.false))
