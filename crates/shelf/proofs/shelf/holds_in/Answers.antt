-- `holds_in`: the planner's own test on the parts of the place.
use Prim.Native.Nat.{◌+◌, ◌*◌}
use Rattle.shelf.proofs.Places.{holds_other, holds_here, slices_from, slices_long}
use native.Mathlib.Omega.{arith}
use Rattle.shelf.proofs.shelf.holds_in.Goals as goal

pub returns-then-tally-banks : goal.returns-then-tally-banks
returns-then-tally-banks c = holds_other c.args.banks c.args.place.now _ (rw c.from-n.ensures at c.tally_in-tally.ensures) c.if-tally-banks.true

pub holds_plan-requires : goal.holds_plan-requires
holds_plan-requires c =
    let n = c.from-n.result in
    let t = c.tally_in-tally in
    let cells = c.args.place.now in
    let degree = 1 + n * 23 in
    let wave = degree + n in
    let count = wave + n in
    let tally-at = count + n * 24 in
    let rank = tally-at + 3 in
    let is-n = c.from-n.ensures in
    let banks = c.if-tally-banks.false in
    let parts = slices_from c.args.banks degree wave count tally-at rank (rank + n) cells
    (omega arith) (omega arith) (omega arith) (omega arith) (omega arith) (omega arith) in
    record {
      banks_bound = omega (arith, banks);
      ranks_value = rw (banks, parts) (slices_long c.args.banks cells c.requires.1);
    }

pub returns : goal.returns
returns c =
    let n = c.from-n.result in
    let t = c.tally_in-tally in
    let cells = c.args.place.now in
    let degree = 1 + n * 23 in
    let wave = degree + n in
    let count = wave + n in
    let tally-at = count + n * 24 in
    let rank = tally-at + 3 in
    let is-n = c.from-n.ensures in
    let banks = c.if-tally-banks.false in
    let parts = slices_from c.args.banks degree wave count tally-at rank (rank + n) cells
    (omega arith) (omega arith) (omega arith) (omega arith) (omega arith) (omega arith) in
    holds_here c.args.banks cells _ t.result (rw is-n at t.ensures) banks (rw parts at c.holds_plan.ensures)
