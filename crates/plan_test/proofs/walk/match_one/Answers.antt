-- The walk goes on by one cell, by the laws of `Cursors`.
use Rattle.plan_test.proofs.Cursors.{v_cursor, v_degree, v_few, v_row, not_below, not_past, not_other, pairable, cell_room, walk_step}
use Rattle.std.proofs.Common.{arith}
use Rattle.plan_test.proofs.walk.match_one.Goals as goal
use Rattle.plan_test.proofs.walk.match_one.Goals.{then-plan-to-via-then-plan-to, then-plan-to-via-else-plan-to+then-plan-to-2}

pub returns-then-v-b : goal.returns-then-v-b
returns-then-v-b c = λ sm. omega (arith, not_below c.requires.walk c.requires.i_bound sm, rw c.from-at.ensures at c.if-v-b.true)

pub bounds-cursors-to : goal.bounds-cursors-to
bounds-cursors-to c = omega (arith, rw c.from-at.ensures at c.from-to.ensures, v_cursor c.requires.walk c.requires.i_bound)

pub bounds-plan-to : goal.bounds-plan-to
bounds-plan-to c = omega (arith, rw c.from-at.ensures at c.from-to.ensures, v_degree c.requires.walk c.requires.i_bound)

pub bounds-plan-to-else-plan-to : goal.bounds-plan-to-else-plan-to
bounds-plan-to-else-plan-to c =
    let to = rw c.from-at.ensures at c.from-to.ensures in
    omega (arith, rw to at c.from.ensures, rw to at c.if-plan-to.false, v_row c.requires.walk c.requires.i_bound, v_few c.requires.walk c.requires.i_bound)

pub returns-then-plan-to : goal.returns-then-plan-to
returns-then-plan-to c =
    let to = rw c.from-at.ensures at c.from-to.ensures in
    let lt = rw c.from-at.ensures at c.if-v-b.false in
    elim c.then-plan-to.branch [
      | then-plan-to-via-then-plan-to w ↦ λ sm. omega (arith, not_past c.requires.walk c.requires.i_bound lt sm, rw to at w.if-plan-to.true)
      | then-plan-to-via-else-plan-to+then-plan-to-2 w ↦
          let met = rw to at w.from.ensures in
          λ sm. w.if-plan-to-2.true (rw (to, met) (not_other c.requires.walk c.requires.i_bound lt sm))
    ]

pub bounds-cursors-to-2 : goal.bounds-cursors-to-2
bounds-cursors-to-2 c = omega (arith, rw c.from-at.ensures at c.from-to.ensures, v_cursor c.requires.walk c.requires.i_bound)

pub bounds-cursors-to-3 : goal.bounds-cursors-to-3
bounds-cursors-to-3 c = omega (arith, rw c.from-at.ensures at c.from-to.ensures, v_cursor c.requires.walk c.requires.i_bound)

pub pair_cell-requires : goal.pair_cell-requires
pair_cell-requires c = rw c.from-at.ensures (pairable c.requires.walk c.requires.i_bound)

pub offset_bounds-cells-pair_cell : goal.offset_bounds-cells-pair_cell
offset_bounds-cells-pair_cell c =
    let to = rw c.from-at.ensures at c.from-to.ensures in
    let lt = rw c.from-at.ensures at c.if-v-b.false in
    let less = rw to at c.if-plan-to.false in
    omega (arith, (cell_room c.requires.walk c.requires.i_bound lt less (rw c.from-at.ensures at c.pair_cell.ensures)).0)

pub bounds-cells-pair_cell : goal.bounds-cells-pair_cell
bounds-cells-pair_cell c =
    let to = rw c.from-at.ensures at c.from-to.ensures in
    let lt = rw c.from-at.ensures at c.if-v-b.false in
    let less = rw to at c.if-plan-to.false in
    (cell_room c.requires.walk c.requires.i_bound lt less (rw c.from-at.ensures at c.pair_cell.ensures)).0

pub overflow_add-cells : goal.overflow_add-cells
overflow_add-cells c =
    let to = rw c.from-at.ensures at c.from-to.ensures in
    let lt = rw c.from-at.ensures at c.if-v-b.false in
    let less = rw to at c.if-plan-to.false in
    omega (arith, (cell_room c.requires.walk c.requires.i_bound lt less (rw c.from-at.ensures at c.pair_cell.ensures)).1)

pub bounds-cells-pair_cell-2 : goal.bounds-cells-pair_cell-2
bounds-cells-pair_cell-2 c =
    let to = rw c.from-at.ensures at c.from-to.ensures in
    let lt = rw c.from-at.ensures at c.if-v-b.false in
    let less = rw to at c.if-plan-to.false in
    (cell_room c.requires.walk c.requires.i_bound lt less (rw c.from-at.ensures at c.pair_cell.ensures)).0

pub returns : goal.returns
returns c =
    let to = rw c.from-at.ensures at c.from-to.ensures in
    let lt = rw c.from-at.ensures at c.if-v-b.false in
    let less = rw to at c.if-plan-to.false in
    let met = rw to at c.from.ensures in
    walk_step c.requires.walk c.requires.i_bound lt less (rw (to, met) at c.if-plan-to-2.false) to (rw c.from-at.ensures at c.pair_cell.ensures)
