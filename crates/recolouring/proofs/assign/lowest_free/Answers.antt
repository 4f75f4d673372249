-- `lowest_free` sets a bit for each wave that is not in the set; the lowest bit is the lowest such wave.
use Rattle.std.proofs.Common.{arith}
use Rattle.recolouring.proofs.FreeWaves.{one_more, all_cells, first_small, first_lowest}
use Rattle.recolouring.proofs.assign.lowest_free.Goals as goal

pub loop-c-init : goal.loop-c-init
loop-c-init c = record { fits = omega arith; bits = λ i l. absurd (omega arith) }

pub loop-c-preserved : goal.loop-c-preserved
loop-c-preserved c = rw c.from.ensures (one_more c.loop-c.invariant (omega (arith, c.requires.colours_len)))

pub overflow_cast-result : goal.overflow_cast-result
overflow_cast-result c = omega (arith, first_small (all_cells c.loop-c.invariant (omega (arith, c.requires.colours_len))) c.requires.colours_bound)

pub returns : goal.returns
returns c = first_lowest (all_cells c.loop-c.invariant (omega (arith, c.requires.colours_len))) c.requires.colours_bound
