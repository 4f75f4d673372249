-- The loop has put the banks of wave c below b.
use Rattle.poster_writer.proofs.Members.{member_short}
use Rattle.text.proofs.Putting.{puts_none, puts_then}
use Rattle.wave_lines.proofs.Members.{members_none, members_next, members_few}
use Rattle.wave_lines.specs.inner.Cells.{members_of}
use lib.Dec.{eqb}
use lib.ListN.{get_or}
use mathlib.Core.Bool.{cond}
use mathlib.Core.List.{[], ◌∷◌}
use mathlib.Core.Path.{◌≡◌, refl, ◌∙◌}
use native.Mathlib.Omega.{arith}
use Rattle.poster_writer.proofs.waves.gather.Goals as goal

pub loop-b-init : goal.loop-b-init
loop-b-init c =
    let a = c.args in
    (rw (members_none a.waves.now a.c.0) (puts_none _ _), refl)

pub put_member-next-requires : goal.put_member-next-requires
put_member-next-requires c =
    let w = c.loop-b in
    let test = c.loop-b-test.true in
    let a = c.args in
    omega (arith, members_few a.waves.now a.c.0 w.b, w.invariant.0.next, w.invariant.1, test, c.requires.1)

pub loop-b-preserved : goal.loop-b-preserved
loop-b-preserved c =
    let w = c.loop-b in
    let a = c.args in
    let ws = a.waves.now in
    let new = cond (eqb (get_or ws w.b 0) a.c.0) (w.b ∷ []) [] in
    let few = members_few ws a.c.0 w.b in
    let short = member_short (get_or ws w.b 0) a.c.0 w.b in
    let test = c.loop-b-test.true in
    let room = c.requires.1 in
    let more = puts_then (members_of ws a.c.0 w.b) new 0 a.banks.now (omega arith) _ _ _ _ w.invariant.0 (rw c.from.ensures at c.put_member-next.ensures) in
    (rw (members_next ws a.c.0 w.b) more, c.put_member-next.auto.banks ∙ w.invariant.1)

pub returns : goal.returns
returns c =
    let w = c.loop-b in
    let e : w.b ≡ c.args.n = omega arith in
    rw e at w.invariant.0
