-- No bank below b has a clashing bank in its wave.
use Rattle.sheet_reader.proofs.Clashes.{banks_are, pair_found, pair_none}
use native.Mathlib.Omega.{arith}
use Rattle.sheet_reader.proofs.rows.find_clash.Goals as goal

pub returns-in-Some : goal.returns-in-Some
returns-in-Some c = pair_found _ _ (omega (arith, banks_are c.requires.rowed, c.loop-b-test.true)) c.loop-b.invariant c.in-Some.ensures

pub returns : goal.returns
returns c = pair_none _ _ (λ x h. c.loop-b.invariant x (omega (arith, banks_are c.requires.rowed, c.loop-b-test.false)))
