-- `collect_colours`: what it returns is the part of b in Counts.
use Rattle.recolouring.proofs.Collecting.{collects}
use Rattle.recolouring.proofs.collect.collect_colours.Goals as goal

pub returns : goal.returns
returns c = λ G ws ix bank. rw c.from-start.ensures (collects G ws _ _ c.requires ix bank)
