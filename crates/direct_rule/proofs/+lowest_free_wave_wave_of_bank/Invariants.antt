-- Each call of a neighbour goes to an earlier bank: the falling number is twice its place in the rule order, and one more in `wave_of_bank`.
use Prim.Native.Nat.{◌+◌, ◌*◌}
use Rattle.direct_rule.specs.inner.Search.{HeldTo, place_of}
use Rattle.direct_rule.proofs.+lowest_free_wave_wave_of_bank.Given as goal

abbrev pub decreases-lowest_free_wave : goal.decreases-lowest_free_wave
decreases-lowest_free_wave l = 2 * place_of l.degrees.now l.ranks.now l.banks l.b.0

abbrev pub decreases-wave_of_bank : goal.decreases-wave_of_bank
decreases-wave_of_bank l = 2 * place_of l.degrees.now l.ranks.now l.banks l.b.0 + 1

abbrev pub invariant-lowest_free_wave-loop-i : goal.invariant-lowest_free_wave-loop-i
invariant-lowest_free_wave-loop-i l = HeldTo l.neighbours l.degrees l.ranks l.banks l.b.0 l.held l.i
