-- The loop has written the banks below b.
use Rattle.sheet_writer.proofs.Texts.{members_none, members_next, members_room}
use Rattle.sheet_writer.specs.inner.Cells.{member_text, members_text}
use Rattle.text.proofs.Putting.{puts_none, puts_then}
use lib.ListN.{get_or}
use mathlib.Core.Path.{◌≡◌, refl, ◌∙◌}
use native.Mathlib.Omega.{arith}
use Rattle.crew_lines.proofs.line.put_members.Goals as goal

pub loop-b-init : goal.loop-b-init
loop-b-init c =
    let a = c.args in
    (rw (members_none a.steps.now a.k) (puts_none _ _), refl)

pub put_member-next-requires : goal.put_member-next-requires
put_member-next-requires c =
    let w = c.loop-b in
    let a = c.args in
    let room = members_room a.steps.now a.k w.b a.n c.loop-b-test.true in
    rw c.from.ensures (omega (arith, w.invariant.0.next, w.invariant.1, c.requires.1))

pub loop-b-preserved : goal.loop-b-preserved
loop-b-preserved c =
    let w = c.loop-b in
    let a = c.args in
    let ss = a.steps.now in
    let room = members_room ss a.k w.b a.n c.loop-b-test.true in
    let fits = c.requires.1 in
    let more =
    puts_then (members_text ss a.k w.b) (member_text (get_or ss w.b 0) a.k w.b) a.at a.out.now (omega arith) _ _ _ _ w.invariant.0 (rw c.from.ensures at c.put_member-next.ensures) in
    (rw (members_next ss a.k w.b) more, c.put_member-next.auto.out ∙ w.invariant.1)

pub returns : goal.returns
returns c =
    let w = c.loop-b in
    let e : w.b ≡ c.args.n = omega arith in
    rw e at w.invariant.0
