-- A bank of another wave is passed over, one of the wave is written after a space.
use Rattle.sheet_writer.proofs.Texts.{member_same, member_other}
use Rattle.std.proofs.Common.{◌≡◌, ◌≢◌, arith}
use Rattle.std.proofs.lemmas.Bool.Decides.{nat_tests}
use Rattle.text.proofs.Putting.{puts_none, puts_then}
use Rattle.text.specs.Numbers.{decimal}
use lib.ListN.{length}
use mathlib.Core.List.{[], ◌∷◌}
use mathlib.Core.Path.{ap}
use Rattle.sheet_writer.proofs.lines.put_member.Goals as goal

pub returns-then-ne : goal.returns-then-ne
returns-then-ne c =
    let a = c.args in
    let other : a.w.0 ≢ a.c.0 = grind (arith, nat_tests) in
    rw (member_other a.w.0 a.c.0 a.b.0 other) (puts_none _ _)

pub put_byte-next-requires : goal.put_byte-next-requires
put_byte-next-requires c =
    let a = c.args in
    let same : a.w.0 ≡ a.c.0 = grind (arith, nat_tests) in
    omega (arith, ap length (member_same a.w.0 a.c.0 a.b.0 same), c.requires)

pub put_number-requires : goal.put_number-requires
put_number-requires c =
    let a = c.args in
    let same : a.w.0 ≡ a.c.0 = grind (arith, nat_tests) in
    omega (arith, ap length (member_same a.w.0 a.c.0 a.b.0 same), c.requires, c.put_byte-next.ensures.next, c.put_byte-next.auto.out)

pub returns : goal.returns
returns c =
    let a = c.args in
    let fits = c.requires in
    let same : a.w.0 ≡ a.c.0 = grind (arith, nat_tests) in
    let e = member_same a.w.0 a.c.0 a.b.0 same in
    let long = ap length e in
    rw e (puts_then (32 ∷ []) (decimal a.b.0) a.at a.out.now (omega arith) _ _ _ _ c.put_byte-next.ensures c.put_number.ensures)
