-- The refusal, or the head, the links and the line feed one after another: at most 324 bytes.
use Rattle.doubt_lines.proofs.Answers.{direct_passed, kept_letter, straight_letter}
use Rattle.doubt_lines.proofs.Lines.{line_refused, line_fine}
use Rattle.rule.proofs.Refusals.{refused_some}
use Rattle.text.proofs.Putting.{puts_three}
use mathlib.Core.List.{[], ◌∷◌}
use mathlib.Core.Path.{sym}
use native.Mathlib.Omega.{arith}
use Rattle.doubt_lines.proofs.line.put_line.Goals as goal

pub put_head-links-requires : goal.put_head-links-requires
put_head-links-requires c =
    let waves = c.in-Ok.ensures.waves in
    (kept_letter _ _ _ waves.0, straight_letter _ _ _ waves.1, omega (arith, c.requires))

pub put_links-end-requires : goal.put_links-end-requires
put_links-end-requires c =
    let passed = direct_passed _ _ _ (sym c.in-Ok.ensures.number) in
    record {
      held = passed.plan;
      few = passed.few;
      is_bank = passed.bank;
      room = omega (arith, c.requires, c.put_head-links.ensures.1, c.put_head-links.auto.out);
    }

pub put_byte-requires : goal.put_byte-requires
put_byte-requires c = omega (arith, c.requires, c.put_head-links.ensures.1, c.put_head-links.auto.out, c.put_links-end.ensures.1, c.put_links-end.auto.out)

pub returns-in-Ok : goal.returns-in-Ok
returns-in-Ok c =
    let waves = c.in-Ok.ensures.waves in
    let first = rw (waves.0, waves.1) at c.put_head-links.ensures.0 in
    let room = c.requires in
    let long = c.put_head-links.ensures.0.next in
    let longer = c.put_links-end.ensures.0.next in
    let all =
    puts_three _ _ (10 ∷ []) 0 c.args.out.now (omega (arith, c.put_head-links.ensures.1, c.put_links-end.ensures.1)) _ _ _ _ _ _
    c.put_head-links.auto.out first c.put_links-end.ensures.0 c.put_byte.ensures in (
      rw (line_fine _ _ _ c.in-Ok.ensures.number) at all,
      omega (arith, c.put_byte.ensures.next, c.put_byte.auto.out, c.put_links-end.ensures.1, c.put_links-end.auto.out, c.put_head-links.ensures.1, c.put_head-links.auto.out),
    )

pub returns-in-Err : goal.returns-in-Err
returns-in-Err c =
    let is = line_refused _ _ _ _ c.in-Err.ensures.number (refused_some _) in
    (rw (c.from.ensures, is) at c.put_refused.ensures.0, c.put_refused.ensures.1)
