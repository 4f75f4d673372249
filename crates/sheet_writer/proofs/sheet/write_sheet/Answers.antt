-- The plan is that of the clashes which its rows name.
use Rattle.sheet_writer.proofs.Plans.{sheet_parts, sheet_bytes, sheet_written}
use Rattle.sheet_writer.specs.Sheet.{sheet}
use Rattle.wave_lines.proofs.Plans.{plan_room, plan_most, plan_few}
use Rattle.wave_lines.proofs.Writing.{text_refused, text_short, text_done-law}
use Rattle.std.proofs.lemmas.Result.{err_from_is_err_and}
use native.Mathlib.Omega.{arith}
use Rattle.sheet_writer.proofs.sheet.write_sheet.Goals as goal

pub returns-in_err-check_plan : goal.returns-in_err-check_plan
returns-in_err-check_plan c =
    let p = err_from_is_err_and c.from_residual.result c.from_residual.ensures.1 in
    rw (p.1, p.2) (text_refused sheet _ _ _ _ c.in_err-check_plan.ensures.number)

pub waves_length-before-requires : goal.waves_length-before-requires
waves_length-before-requires c =
    let plan = c.in_ok-check_plan.ensures.plan in
    (plan_most _ _ _ plan, plan_few _ _ _ plan)

pub returns-then-out-length : goal.returns-then-out-length
returns-then-out-length c =
    let bytes = sheet_bytes _ _ _ c.in_ok-check_plan.ensures.plan _ _ c.waves_length-before.ensures.0 c.foot_length.ensures.0 in
    text_short sheet _ _ _ c.in_ok-check_plan.ensures.number (omega (arith, bytes, c.if-out-length.true))

pub put_head-next-requires : goal.put_head-next-requires
put_head-next-requires c =
    let plan = c.in_ok-check_plan.ensures.plan in
    let bytes = sheet_bytes _ _ _ plan _ _ c.waves_length-before.ensures.0 c.foot_length.ensures.0 in
    omega (arith, sheet_parts _ _ _ plan, bytes, c.if-out-length.false)

pub put_lines-foot-requires : goal.put_lines-foot-requires
put_lines-foot-requires c =
    let plan = c.in_ok-check_plan.ensures.plan in
    let bytes = sheet_bytes _ _ _ plan _ _ c.waves_length-before.ensures.0 c.foot_length.ensures.0 in (
      plan_few _ _ _ plan,
      plan_room _ _ _ plan,
      omega (arith, sheet_parts _ _ _ plan, bytes, c.if-out-length.false, c.put_head-next.ensures.next, c.put_head-next.auto.out),
    )

pub put_last-requires : goal.put_last-requires
put_last-requires c =
    let plan = c.in_ok-check_plan.ensures.plan in
    let bytes = sheet_bytes _ _ _ plan _ _ c.waves_length-before.ensures.0 c.foot_length.ensures.0 in
    omega (arith, sheet_parts _ _ _ plan, bytes, c.if-out-length.false, c.put_head-next.ensures.next, c.put_head-next.auto.out, c.put_lines-foot.ensures.next, c.put_lines-foot.auto.out)

pub returns : goal.returns
returns c =
    let last = c.put_last in
    let lines = c.put_lines-foot in
    let room = c.if-out-length.false in
    let plan = c.in_ok-check_plan.ensures.plan in
    let bytes = sheet_bytes _ _ _ plan _ _ c.waves_length-before.ensures.0 c.foot_length.ensures.0 in
    let written = sheet_written _ _ _ plan _ (omega (arith, bytes, room)) _ _ _ _ _ _ c.put_head-next.auto.out c.put_head-next.ensures lines.ensures last.ensures in
    text_done-law sheet _ _ _ c.in_ok-check_plan.ensures.number (omega (arith, bytes, room)) _ _ bytes written
