-- `highest_after`: a bank that came to the highest wave or above it.
use Rattle.recolouring.proofs.Tops.{top_came}
use Rattle.recolouring.proofs.highest.highest_after.Goals as goal

pub returns-then-top-above : goal.returns-then-top-above
returns-then-top-above c = λ n b ws bank wide was tp. top_came bank wide tp _ c.if-top-above.true
