-- `first_word`: the first bit of the summary.
use Rattle.queue.proofs.Taking.{lowest_mark, head_word, summary_inside}
use native.Mathlib.Omega.{arith}
use Rattle.queue.proofs.queue.first_word.Goals as goal

pub bounds-queue-at : goal.bounds-queue-at
bounds-queue-at c = omega (arith, summary_inside c.requires.2 c.first_summary-at.ensures)

pub overflow_cast-result : goal.overflow_cast-result
overflow_cast-result c =
    let wait = c.requires.2 in
    let first = c.first_summary-at.ensures in
    omega (arith, (lowest_mark wait.queue first (summary_inside wait first)).inside)

pub overflow_add-result : goal.overflow_add-result
overflow_add-result c =
    let wait = c.requires.2 in
    let first = c.first_summary-at.ensures in
    omega (arith, (lowest_mark wait.queue first (summary_inside wait first)).inside)

pub returns : goal.returns
returns c =
    let wait = c.requires.2 in
    let first = c.first_summary-at.ensures in
    head_word wait.queue first (summary_inside wait first)
