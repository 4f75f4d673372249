-- No smaller number ends in time, so that the first from q on is the first from 1 on.
use Rattle.crews.proofs.Least.{tried_yes, tried_no, tried_all}
use native.Mathlib.Omega.{arith}
use Rattle.crews.proofs.choosing.find_crew.Goals as goal

pub returns-then-first_steps-limit : goal.returns-then-first_steps-limit
returns-then-first_steps-limit c =
    tried_yes c.args.sizes.now c.args.limit c.loop-q.invariant c.first_steps.ensures.total (omega arith) (omega (arith, c.if-first_steps-limit.true))

pub loop-q-preserved : goal.loop-q-preserved
loop-q-preserved c =
    tried_no c.args.sizes.now c.args.limit c.loop-q.invariant c.first_steps.ensures.total (omega arith) (omega (arith, c.if-first_steps-limit.false))

pub returns : goal.returns
returns c = tried_all c.args.sizes.now c.args.limit c.loop-q.invariant (omega arith)
