-- `first_of_degree`: the words that are not marked any more have no bank of a smaller key.
use Rattle.queue.proofs.Ranks.{head_lowest, first_key, search_start, search_zero, search_lowest, search_word, search_step, search_less, search_end}
use native.Mathlib.Omega.{arith}
use Rattle.queue.proofs.ties.first_of_degree.Goals as goal

pub overflow_cast-head : goal.overflow_cast-head
overflow_cast-head c = omega (arith, (head_lowest c.requires.waiting.1 c.requires.head c.requires.unranked).inside)

pub overflow_add-word : goal.overflow_add-word
overflow_add-word c = omega (arith, (head_lowest c.requires.waiting.1 c.requires.head c.requires.unranked).inside)

pub key-least-requires : goal.key-least-requires
key-least-requires c = first_key c.requires.waiting.1 c.requires.head c.requires.unranked

pub loop-marks-init : goal.loop-marks-init
loop-marks-init c = search_start c.requires.waiting.1 c.requires.head c.requires.unranked c.key-least.ensures

pub returns-then-least-lt-MOST_BANKS : goal.returns-then-least-lt-MOST_BANKS
returns-then-least-lt-MOST_BANKS c = search_zero c.requires.waiting.1 c.requires.head c.requires.unranked c.loop-marks.invariant c.if-least-lt-MOST_BANKS.true

pub overflow_cast-i : goal.overflow_cast-i
overflow_cast-i c = omega (arith, (search_lowest c.loop-marks.invariant c.loop-marks-test.true).inside)

pub overflow_add-bits : goal.overflow_add-bits
overflow_add-bits c =
    let low = search_lowest c.loop-marks.invariant c.loop-marks-test.true in
    omega (arith, c.requires.head.inside, low.inside)

pub offset_bounds-queue-start : goal.offset_bounds-queue-start
offset_bounds-queue-start c =
    let low = search_lowest c.loop-marks.invariant c.loop-marks-test.true in
    omega (arith, c.requires.head.inside, low.inside)

pub bounds-queue-start : goal.bounds-queue-start
bounds-queue-start c =
    let low = search_lowest c.loop-marks.invariant c.loop-marks-test.true in
    omega (arith, c.requires.head.inside, low.inside)

pub overflow_mul-i : goal.overflow_mul-i
overflow_mul-i c = omega (arith, (search_lowest c.loop-marks.invariant c.loop-marks-test.true).inside)

pub least_in_word-least-requires : goal.least_in_word-least-requires
least_in_word-least-requires c = search_word c.requires.waiting.1 c.requires.head c.requires.unranked c.loop-marks.invariant c.loop-marks-test.true

pub loop-marks-smaller : goal.loop-marks-smaller
loop-marks-smaller c = search_less c.loop-marks.invariant c.loop-marks-test.true

pub loop-marks-preserved : goal.loop-marks-preserved
loop-marks-preserved c = search_step c.requires.waiting.1 c.requires.head c.requires.unranked c.loop-marks.invariant c.loop-marks-test.true c.least_in_word-least.ensures

pub returns : goal.returns
returns c = search_end c.requires.waiting.1 c.requires.head c.requires.unranked c.loop-marks.invariant c.loop-marks-test.false
