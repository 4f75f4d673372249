-- The first i clashes are written, each in at most 13 bytes.
use Prim.Native.Nat.{◌<◌}
use Rattle.doubt_lines.proofs.Answers.{row_clashes, clashes_few, clash_bank}
use Rattle.doubt_lines.proofs.Lines.{few_banks, link_short, links_none, links_next}
use Rattle.doubt_lines.specs.Lines.{link_text}
use Rattle.memory.specs.Lent.{slices_in}
use Rattle.planner.proofs.Numbers.{number_plan}
use Rattle.text.proofs.Putting.{puts_none, puts_then}
use lib.ListN.{length, get_or}
use lib.ListN.{take}
use lib.Seq.{take_all}
use mathlib.Core.Path.{refl, ◌∙◌}
use mathlib.Core.Path.{◌≡◌}
use native.Mathlib.Omega.{arith}
use Rattle.doubt_lines.proofs.line.put_links.Goals as goal

pub loop-v-init : goal.loop-v-init
loop-v-init c = (rw (links_none _ _ _ _) (puts_none _ _), refl, omega arith)

pub clashes_held-clashes-requires : goal.clashes_held-clashes-requires
clashes_held-clashes-requires c = ((_, number_plan _ _ c.requires.held), c.requires.is_bank)

pub put_link-next-requires : goal.put_link-next-requires
put_link-next-requires c =
    let is = row_clashes _ _ _ c.requires.held c.requires.is_bank (c.clashes_held-clashes.ensures _ (number_plan _ _ c.requires.held)) in
    let few = clashes_few _ _ _ _ is in
    let v = clash_bank _ _ _ _ is c.loop-v.v-index (omega arith) in
    record {
      held = c.requires.held;
      few = c.requires.few;
      are_banks = (v, c.requires.is_bank);
      room = omega (arith, c.requires.room, c.loop-v.invariant.1, c.loop-v.invariant.2);
    }

pub loop-v-preserved : goal.loop-v-preserved
loop-v-preserved c =
    let a = c.args in
    let s = slices_in a.plan in
    let is = row_clashes _ _ _ c.requires.held c.requires.is_bank (c.clashes_held-clashes.ensures _ (number_plan _ _ c.requires.held)) in
    let few = clashes_few _ _ _ _ is in
    let below : c.loop-v.v-index < length c.clashes_held-clashes.result.now = omega arith in
    let v = get_or c.clashes_held-clashes.result.now c.loop-v.v-index 0 in
    let bank = clash_bank _ _ _ _ is c.loop-v.v-index below in
    let short = link_short a.b.0 s a.plan.tally v (omega (arith, few_banks _ _ (number_plan _ _ c.requires.held))) in
    let inv = c.loop-v.invariant in
    let more = puts_then _ (link_text a.b.0 s a.plan.tally v) a.at a.out.now (omega (arith, c.requires.room, inv.0.next, inv.1, inv.2)) _ _ _ _ inv.0 c.put_link-next.ensures in
    (rw (links_next a.b.0 s a.plan.tally _ _ below) more, c.put_link-next.auto.out ∙ inv.1, omega (arith, c.put_link-next.ensures.next, inv.2))

pub returns : goal.returns
returns c =
    let row = c.clashes_held-clashes.result.now in
    let all : take c.loop-v.v-index row ≡ row = take_all c.loop-v.v-index row (omega arith) in
    let is = row_clashes _ _ _ c.requires.held c.requires.is_bank (c.clashes_held-clashes.ensures _ (number_plan _ _ c.requires.held)) in
    let few = clashes_few _ _ _ _ is in
    (rw (all, is) at c.loop-v.invariant.0, omega (arith, c.loop-v.auto.v-index-end, c.loop-v.invariant.2))
