-- What `first_free` passed is held.
use Rattle.direct_rule.proofs.Search.{not_past}
use lib.ListN.{get_or}
use native.Mathlib.Omega.{arith}
use Rattle.direct_rule.proofs.first_free.Goals as goal

pub returns-then-banks-eq0 : goal.returns-then-banks-eq0
returns-then-banks-eq0 c = record { below = c.loop-c.invariant; at = c.if-banks-eq0.true }

pub unreachable-requires : goal.unreachable-requires
unreachable-requires c = absurd (omega (arith, c.requires.1, not_past (λ k. get_or c.args.held.now k 0) c.loop-c.invariant c.requires.2))
