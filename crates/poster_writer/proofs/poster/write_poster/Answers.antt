-- The plan is that of the clashes which its rows name.
use Prim.Native.Nat.{ℕ, ◌+◌}
use Rattle.poster_lines.specs.Poster.{poster}
use Rattle.poster_writer.proofs.Plans.{plan_bytes, plan_text-law, plan_foot, foot_bytes, poster_written}
use Rattle.wave_lines.proofs.Plans.{plan_room, plan_most, plan_few}
use Rattle.wave_lines.proofs.Writing.{text_refused, text_short, text_done-law}
use Rattle.std.proofs.lemmas.Result.{err_from_is_err_and}
use Rattle.poster_writer.proofs.Pages.{pages}
use mathlib.Core.Path.{◌≡◌, ap}
use native.Mathlib.Omega.{arith}
use Rattle.poster_writer.proofs.poster.write_poster.Goals as goal

pub returns-in_err-check_plan : goal.returns-in_err-check_plan
returns-in_err-check_plan c =
    let p = err_from_is_err_and c.from_residual.result c.from_residual.ensures.1 in
    rw (p.1, p.2) (text_refused poster _ _ _ _ c.in_err-check_plan.ensures.number)

pub count_lines-lines-requires : goal.count_lines-lines-requires
count_lines-lines-requires c =
    let plan = c.in_ok-check_plan.ensures.plan in
    (plan_most _ _ _ plan, plan_few _ _ _ plan, plan_room _ _ _ plan)

pub returns-then-out-length : goal.returns-then-out-length
returns-then-out-length c =
    text_short poster _ _ _ c.in_ok-check_plan.ensures.number
    (omega (arith, plan_bytes _ _ _ c.in_ok-check_plan.ensures.plan, c.count_lines-lines.ensures.0, c.if-out-length.true))

pub put_waves-foot-requires : goal.put_waves-foot-requires
put_waves-foot-requires c =
    let plan = c.in_ok-check_plan.ensures.plan in (
      plan_most _ _ _ plan,
      plan_few _ _ _ plan,
      plan_room _ _ _ plan,
      omega (arith, plan_text-law _ _ _ plan, c.count_lines-lines.ensures.0, c.if-out-length.false),
    )

pub put_foot_line-end-requires : goal.put_foot_line-end-requires
put_foot_line-end-requires c =
    let plan = c.in_ok-check_plan.ensures.plan in
    (plan_foot _ _ _ plan, omega (arith, plan_text-law _ _ _ plan, c.count_lines-lines.ensures.0, c.if-out-length.false, c.put_waves-foot.ensures.next, c.put_waves-foot.auto.out))

pub overflow_mul-pages : goal.overflow_mul-pages
overflow_mul-pages c =
    let plan = c.in_ok-check_plan.ensures.plan in
    omega (arith, c.count_lines-lines.ensures.1, plan_few _ _ _ plan)

pub put_blank_lines-requires : goal.put_blank_lines-requires
put_blank_lines-requires c =
    let room = c.if-out-length.false in
    let plan = c.in_ok-check_plan.ensures.plan in
    let next = foot_bytes _ _ _ plan in
    omega (
      arith,
      plan_text-law _ _ _ plan,
      c.count_lines-lines.ensures.0,
      room,
      c.put_waves-foot.ensures.next,
      c.put_waves-foot.auto.out,
      c.put_foot_line-end.ensures.next,
      c.put_foot_line-end.auto.out,
    )

pub returns : goal.returns
returns c =
    let foot = c.put_foot_line-end.ensures in
    let room = c.if-out-length.false in
    let lines = c.count_lines-lines.ensures.0 in
    let plan = c.in_ok-check_plan.ensures.plan in
    let bytes = plan_bytes _ _ _ plan in
    let count : c.div_ceil-pages.result ≡ pages (c.count_lines-lines.result + 1) = omega (arith, c.div_ceil-pages.ensures) in
    let blank = rw count at c.put_blank_lines.ensures in
    let written =
    poster_written _ _ _ plan _ (omega (arith, bytes, lines, room)) _ (ap (λ (n : ℕ). n + 1) lines) _ _ _ _ _ _ c.put_waves-foot.auto.out c.put_waves-foot.ensures foot
    blank in
    text_done-law poster _ _ _ c.in_ok-check_plan.ensures.number (omega (arith, bytes, lines, room)) _ _ (omega (arith, bytes, lines)) written
