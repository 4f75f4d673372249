-- `earlier`: the two numbers compare as degree, rank and number do.
use Rattle.rule.proofs.Degrees.{by_digits}
use native.Mathlib.Omega.{arith}
use Rattle.rule.proofs.earlier.Goals as goal

pub returns : goal.returns
returns c =
    let a = c.args in
    rw (c.digits.ensures, c.digits-2.ensures) (by_digits a.degree_p a.rank_p a.p.0 a.degree_q a.rank_q a.q.0 (omega arith) (omega arith) (omega arith) (omega arith))
