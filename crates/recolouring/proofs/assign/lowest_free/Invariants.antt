-- `lowest_free` sets a bit for each wave that is not in the set; the lowest bit is the lowest such wave.
use Rattle.recolouring.proofs.FreeWaves.{FreeBits}
use Rattle.recolouring.proofs.assign.lowest_free.Given as goal

abbrev pub invariant-loop-c : goal.invariant-loop-c
invariant-loop-c l = FreeBits l.colours l.free l.c
