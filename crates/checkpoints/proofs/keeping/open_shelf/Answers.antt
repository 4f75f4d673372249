-- `open_shelf`: the three used cells.
use Rattle.checkpoints.proofs.Calls.{shelf_refused, shelf_opened}
use Rattle.checkpoints.proofs.Numbers.{shelf_passed}
use Rattle.rule.proofs.Refusals.{refused_some}
use Rattle.std.proofs.lemmas.Result.{err_from_is_err_and}
use lib.ListN.{set, length-set}
use mathlib.Core.Path.{sym}
use native.Mathlib.Omega.{arith}
use Rattle.checkpoints.proofs.keeping.open_shelf.Goals as goal

pub returns-in_err-check_shelf : goal.returns-in_err-check_shelf
returns-in_err-check_shelf c =
    let p = err_from_is_err_and c.from_residual.result c.from_residual.ensures.1 in
    rw (p.1, p.2) (shelf_refused _ _ _ c.in_err-check_shelf.ensures (refused_some _))

pub bounds-shelf-0 : goal.bounds-shelf-0
bounds-shelf-0 c =
    let shelf = c.args.shelf.now in
    let passed = shelf_passed c.args.banks shelf (sym c.in_ok-check_shelf.ensures) in
    omega (arith, passed.0, passed.1)

pub bounds-shelf-noon : goal.bounds-shelf-noon
bounds-shelf-noon c =
    let shelf = c.args.shelf.now in
    let passed = shelf_passed c.args.banks shelf (sym c.in_ok-check_shelf.ensures) in
    omega (arith, passed.0, passed.1, length-set shelf 0 0)

pub bounds-shelf-close : goal.bounds-shelf-close
bounds-shelf-close c =
    let shelf = c.args.shelf.now in
    let passed = shelf_passed c.args.banks shelf (sym c.in_ok-check_shelf.ensures) in
    let noon = c.place_size-noon.result in
    omega (arith, passed.0, passed.1, length-set shelf 0 0, length-set (set shelf 0 0) noon 0)

pub returns : goal.returns
returns c =
    let shelf = c.args.shelf.now in
    let passed = shelf_passed c.args.banks shelf (sym c.in_ok-check_shelf.ensures) in
    shelf_opened c.args.banks shelf _ _ c.in_ok-check_shelf.ensures passed.1 (omega arith) (omega arith)
