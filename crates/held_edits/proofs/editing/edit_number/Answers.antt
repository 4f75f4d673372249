-- `edit_number` meets its contract: each return is one case of `edit_number`.
use Rattle.memory.proofs.Views.{tally_banks}
use Rattle.planner.proofs.Numbers.{far_a, far_b, one_bank}
use Rattle.planner.proofs.Rows.{degree_cell, edit_asked}
use borrow.Author.Tests.{eqb-true, eqb-false}
use mathlib.Core.Path.{sym, ◌∙◌}
use native.Mathlib.Omega.{arith}
use Rattle.held_edits.proofs.editing.edit_number.Goals as goal
use Rattle.held_edits.proofs.editing.edit_number.Goals.{then-plan-a-via-then-plan-a, then-plan-a-via-else-plan-a+then-plan-b}

pub returns-then-plan-a : goal.returns-then-plan-a
returns-then-plan-a c =
    elim c.then-plan-a.branch [
      | then-plan-a-via-then-plan-a w ↦ λ G p. sym (far_a G _ _ _ (omega (arith, tally_banks _ G p.tally, w.if-plan-a.true)))
      | then-plan-a-via-else-plan-a+then-plan-b w ↦ λ G p.
          let n = tally_banks _ G p.tally in
          sym (far_b G _ _ _ (omega (arith, w.if-plan-a.false)) (omega (arith, w.if-plan-b.true)))
    ]

pub returns-then-eq : goal.returns-then-eq
returns-then-eq c =
    λ G p.
    let n = tally_banks _ G p.tally in
    sym (one_bank G _ _ (omega (arith, c.if-plan-a.false)) (omega (arith, c.if-plan-b.false)) _ (eqb-true _ _ (sym c.eq.ensures ∙ c.if-eq.true)))

pub clashes_held-row-requires : goal.clashes_held-row-requires
clashes_held-row-requires c = (c.requires, c.if-plan-a.false)

pub bounds-plan-at_a : goal.bounds-plan-at_a
bounds-plan-at_a c = omega (arith, degree_cell c.requires.1 c.if-plan-a.false, c.from-at_a.ensures)

pub bounds-plan-at_b : goal.bounds-plan-at_b
bounds-plan-at_b c = omega (arith, degree_cell c.requires.1 c.if-plan-b.false, c.from-at_b.ensures)

pub returns : goal.returns
returns c =
    λ G p.
    edit_asked _ p c.if-plan-a.false c.if-plan-b.false (eqb-false _ _ (sym c.eq.ensures ∙ c.if-eq.false)) (c.clashes_held-row.ensures G p)
    c.from-at_a.ensures c.from-at_b.ensures c.clash_number.ensures
