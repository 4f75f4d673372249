-- `shelf_right`: place after place.
use Prim.Native.Nat.{◌+◌}
use Rattle.rule.proofs.Booleans.{t_along}
use Rattle.shelf.proofs.Places.{right_at, shelf_first, shelf_second, shelf_third}
use mathlib.Core.Path.{sym, ◌∙◌}
use native.Mathlib.Omega.{arith}
use Rattle.shelf.proofs.shelf.shelf_right.Goals as goal
use Rattle.shelf.proofs.shelf.shelf_right.Goals.{then-place_right, else-place_right}

pub returns-then-place_right-2 : goal.returns-then-place_right-2
returns-then-place_right-2 c =
    let n = c.args.banks in
    let shelf = c.args.shelf.now in
    let noon = c.place_size-noon.result in
    let first = right_at n shelf 0 0 noon _ (omega arith) (omega arith) c.place_right.ensures in
    let third = right_at n shelf 2 (noon + noon) (noon + noon + noon) _ (omega arith) (omega arith) c.place_right-then-place_right-2.ensures in
    elim c.if-place_right.branch [
      | then-place_right w ↦
          let second = right_at n shelf 1 noon (noon + noon) _ (omega arith) (omega arith) w.place_right-then-place_right.ensures in
          shelf_third n shelf _ _ _ first w.if-place_right.true second (sym w.value-is ∙ c.if-place_right-2.true) third
      | else-place_right w ↦ absurd (t_along (sym c.if-place_right-2.true ∙ w.value-is ∙ w.if-place_right.false) tt)
    ]

pub returns-else-place_right-2 : goal.returns-else-place_right-2
returns-else-place_right-2 c =
    let n = c.args.banks in
    let shelf = c.args.shelf.now in
    let noon = c.place_size-noon.result in
    let first = right_at n shelf 0 0 noon _ (omega arith) (omega arith) c.place_right.ensures in
    c.if-place_right-2.false ∙ (elim c.if-place_right.branch [
      | then-place_right w ↦
          let second = right_at n shelf 1 noon (noon + noon) _ (omega arith) (omega arith) w.place_right-then-place_right.ensures in
          shelf_second n shelf _ _ first w.if-place_right.true second (sym w.value-is ∙ c.if-place_right-2.false)
      | else-place_right w ↦ shelf_first n shelf _ first w.if-place_right.false
    ])
