-- `put_add` meets its contract: b gives one add if it is larger, else none.
use Rattle.journal.proofs.Adds.{adds_smaller, adds_larger}
use Rattle.journal.proofs.Writing.{entries_none, fit_fewer}
use Rattle.journal.specs.Calls.{adds_of}
use Rattle.std.proofs.Common.{[], ◌∷◌, ◌≤◌, ◌<◌, length, ap, arith, rules}
use Rattle.journal.proofs.start.put_add.Goals as goal

pub returns-then-le : goal.returns-then-le
returns-then-le c =
    let h : c.args.b.0 ≤ c.args.a.0 = search rules in
    entries_none _ _ _ (adds_smaller _ _ h)

pub put_new-requires : goal.put_new-requires
put_new-requires c =
    let h : c.args.a.0 < c.args.b.0 = search rules in
    let one = adds_larger c.args.a.0 c.args.b.0 h in
    fit_fewer _ (adds_of c.args.a.0 (c.args.b.0 ∷ [])) _ _ (omega (arith, ap length one)) c.requires

pub returns : goal.returns
returns c =
    let h : c.args.a.0 < c.args.b.0 = search rules in
    rw (adds_larger _ _ h) c.put_new.ensures
