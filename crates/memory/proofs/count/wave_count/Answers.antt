-- `most` is the most of the waves so far.
use Rattle.memory.proofs.Sums.{most_none, most_next}
use lib.ListN.{length-take}
use lib.Seq.{get_or-take}
use native.Mathlib.Omega.{arith}
use Rattle.memory.proofs.count.wave_count.Goals as goal

pub loop-wave-init : goal.loop-wave-init
loop-wave-init c = most_none _

pub loop-wave-preserved : goal.loop-wave-preserved
loop-wave-preserved c =
    let at = c.loop-wave.wave-index in
    omega (
      arith,
      c.max-most.ensures,
      c.loop-wave.invariant,
      most_next c.args.waves.now at,
      get_or-take c.args.banks c.args.waves.now at 0 (omega (arith, c.loop-wave-test.true, length-take c.args.banks c.args.waves.now)),
    )
