-- `first_place`: by number the ranks are looked through, by rank the place is the lowest.
use Rattle.queue.proofs.Taking.{by_number, by_rank, head_bit}
use native.Mathlib.Omega.{arith}
use Rattle.queue.proofs.queue.first_place.Goals as goal

pub first_of_degree-requires : goal.first_of_degree-requires
first_of_degree-requires c =
    record {
      waiting = c.requires.waiting;
      head = c.requires.head;
      unranked = c.if-queue-eq0.true;
    }

pub returns-then-queue-eq0 : goal.returns-then-queue-eq0
returns-then-queue-eq0 c = λ G wait. by_number wait c.requires.head c.if-queue-eq0.true c.first_of_degree.ensures

pub bounds-queue-word : goal.bounds-queue-word
bounds-queue-word c = omega (arith, c.requires.head.inside)

pub overflow_cast-result : goal.overflow_cast-result
overflow_cast-result c = omega (arith, (head_bit c.requires.waiting.1 c.requires.head).inside)

pub overflow_add-result : goal.overflow_add-result
overflow_add-result c = omega (arith, (head_bit c.requires.waiting.1 c.requires.head).inside)

pub returns : goal.returns
returns c = λ G wait. by_rank wait c.requires.head c.if-queue-eq0.false
