-- The place that the library finds is the lowest bank's.
use Rattle.std.proofs.Common.{take, rules}
use Rattle.crew_lines.proofs.Lines.{FirstPlace, lowest_is}
use Rattle.crew_lines.proofs.line.lowest.Goals as goal

pub returns : goal.returns
returns c =
    let first : FirstPlace c.args.steps.now c.args.k (take c.from.result c.args.steps.now) c.position.result = search rules in
    rw c.unwrap_or.ensures (lowest_is c.args.steps.now c.args.k c.args.n c.requires.0 c.requires.1 c.position.result (rw c.from.ensures at first))
