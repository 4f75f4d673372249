-- A bank of another wave is passed over, one of the wave is put.
use Rattle.poster_writer.proofs.Members.{member_same, member_other}
use Rattle.std.proofs.Common.{◌≡◌, ◌≢◌, arith}
use Rattle.std.proofs.lemmas.Bool.Decides.{nat_tests}
use Rattle.text.proofs.Putting.{puts_none, puts_one}
use Rattle.poster_writer.proofs.waves.put_member.Goals as goal

pub returns-then-ne : goal.returns-then-ne
returns-then-ne c =
    let a = c.args in
    let other : a.w.0 ≢ a.c.0 = grind (arith, nat_tests) in
    rw (member_other _ _ _ other) (puts_none _ _)

pub returns : goal.returns
returns c =
    let a = c.args in
    let same : a.w.0 ≡ a.c.0 = grind (arith, nat_tests) in
    rw (member_same _ _ _ same) (puts_one _ _ _ c.requires)
