-- `start_journal` meets its contract: each return is one case of `started`.
use Rattle.journal.proofs.Adds.{plan_ranks}
use Rattle.journal.proofs.Counting.{tally_adds}
use Rattle.journal.proofs.Starting.{start_size, all_fit, ranks_fit, adds_fit, start_refused, start_full, start_done}
use Rattle.journal_fields.proofs.Numbers.{space_room}
use Rattle.rule.proofs.Refusals.{refused_some}
use Rattle.std.proofs.Common.{sym, ◌∙◌, arith}
use Rattle.std.proofs.lemmas.Result.{err_from_is_err_and}
use Rattle.journal.proofs.start.start_journal.Goals as goal

pub returns-in_err-check_plan : goal.returns-in_err-check_plan
returns-in_err-check_plan c =
    let p = err_from_is_err_and c.from_residual.result c.from_residual.ensures.1 in
    rw (p.1, p.2) (start_refused _ _ _ _ c.in_err-check_plan.ensures.number (refused_some _))

pub count_ranks-requires : goal.count_ranks-requires
count_ranks-requires c = plan_ranks _ _ _ c.in_ok-check_plan.ensures.plan

pub returns-in_err-space_number : goal.returns-in_err-space_number
returns-in_err-space_number c =
    let ok = c.in_ok-check_plan.ensures in
    let q = c.from_residual-in_err-space_number in
    let p = err_from_is_err_and q.result q.ensures.1 in
    let adds = c.from.ensures ∙ tally_adds _ _ _ ok.plan in
    rw (p.1, p.2) (start_full _ _ _ (sym ok.number) _ (start_size _ _ _ _ c.count_ranks.ensures.0 adds) _ c.in_err-space_number.ensures (refused_some _))

pub put_first-requires : goal.put_first-requires
put_first-requires c = omega (arith, (space_room _ _ (sym c.in_ok-space_number.ensures)).0)

pub put_ranks-ranked-requires : goal.put_ranks-ranked-requires
put_ranks-ranked-requires c =
    let plan = c.in_ok-check_plan.ensures.plan in
    let adds = c.from.ensures ∙ tally_adds _ _ _ plan in
    let room = space_room _ _ (sym c.in_ok-space_number.ensures) in
    (plan_ranks _ _ _ plan, ranks_fit _ _ _ _ c.args.journal.now _ c.count_ranks.ensures.0 adds room c.put_first.auto.journal)

pub put_adds-requires : goal.put_adds-requires
put_adds-requires c =
    let plan = c.in_ok-check_plan.ensures.plan in
    let adds = c.from.ensures ∙ tally_adds _ _ _ plan in
    let room = space_room _ _ (sym c.in_ok-space_number.ensures) in (
      _,
      plan,
      adds_fit _ _ _ _ c.args.journal.now _ c.count_ranks.ensures.0 adds room c.put_first.auto.journal _ _ c.put_ranks-ranked.ensures c.put_ranks-ranked.auto.journal,
    )

pub returns : goal.returns
returns c =
    let ok = c.in_ok-check_plan.ensures in
    let adds = c.from.ensures ∙ tally_adds _ _ _ ok.plan in
    let r = c.count_ranks.ensures.0 in
    let space = c.in_ok-space_number.ensures in
    let room = space_room _ _ (sym space) in
    let kept = c.put_first.auto.journal in
    let journal = c.args.journal.now in
    start_done _ _ _ (sym ok.number) _ (start_size _ _ _ _ r adds) space _ _ _ _ _ _
    (all_fit _ _ _ _ journal _ r adds room kept) c.put_first.ensures
    c.put_ranks-ranked.ensures
    (c.put_adds.ensures _ ok.plan (adds_fit _ _ _ _ journal _ r adds room kept _ _ c.put_ranks-ranked.ensures c.put_ranks-ranked.auto.journal))
