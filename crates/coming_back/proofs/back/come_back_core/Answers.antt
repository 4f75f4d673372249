-- `come_back_core`: the name's place is lent to `return_to`.
use Prim.Native.Nat.{◌+◌, ◌*◌}
use Rattle.checkpoints.proofs.Calls.{back_refused, back_done-law}
use Rattle.checkpoints.proofs.Numbers.{place_lent}
use Rattle.memory.specs.Plan.{slices_of}
use Rattle.shelf.proofs.Places.{lent_place}
use Rattle.shelf.proofs.Putting.{length_lent}
use Rattle.shelf.specs.Names.{place_of}
use Rattle.rule.proofs.Refusals.{refused_some}
use Rattle.std.proofs.lemmas.Result.{err_from_is_err_and}
use mathlib.Core.Path.{refl, ◌∙◌}
use native.Mathlib.Omega.{arith}
use Rattle.coming_back.proofs.back.come_back_core.Goals as goal

pub returns-in_err-check_back : goal.returns-in_err-check_back
returns-in_err-check_back c =
    let p = err_from_is_err_and c.from_residual.result c.from_residual.ensures.1 in
    rw (p.1, p.2) (back_refused _ _ _ _ _ _ c.in_err-check_back.ensures.number (refused_some _))

pub unreachable-requires : goal.unreachable-requires
unreachable-requires c = absurd (omega (arith, c.in_default.ensures {u = tt}, c.in_ok-check_back.ensures.ready.0.known))

pub overflow_mul-at : goal.overflow_mul-at
overflow_mul-at c =
    let ready = c.in_ok-check_back.ensures.ready.0 in
    omega (arith, place_lent ready (c.from.ensures ∙ c.in-Some.ensures.0) c.place_size-size.ensures)

pub overflow_add-end : goal.overflow_add-end
overflow_add-end c =
    let ready = c.in_ok-check_back.ensures.ready.0 in
    omega (arith, place_lent ready (c.from.ensures ∙ c.in-Some.ensures.0) c.place_size-size.ensures)

pub offset_bounds-shelf-at : goal.offset_bounds-shelf-at
offset_bounds-shelf-at c =
    let ready = c.in_ok-check_back.ensures.ready.0 in
    omega (arith, place_lent ready (c.from.ensures ∙ c.in-Some.ensures.0) c.place_size-size.ensures)

pub slice_bounds-return_to-end : goal.slice_bounds-return_to-end
slice_bounds-return_to-end c =
    let ready = c.in_ok-check_back.ensures.ready.0 in
    omega (arith, place_lent ready (c.from.ensures ∙ c.in-Some.ensures.0) c.place_size-size.ensures)

pub return_to-requires : goal.return_to-requires
return_to-requires c =
    let all = c.in_ok-check_back.ensures.ready in
    let i = c.from.result in
    let size = c.place_size-size.result in
    let lent = place_lent all.0 (c.from.ensures ∙ c.in-Some.ensures.0) c.place_size-size.ensures in
    let part = length_lent (i * size) (i * size + size) size c.args.shelf.now refl lent.0 in
    record {
      fits = (all.0.few, part ∙ c.place_size-size.ensures, all.1);
      long = all.0.long;
    }

pub returns : goal.returns
returns c =
    let s = slices_of c.args.neighbours.now c.args.degrees.now c.args.waves.now c.args.counts.now c.args.ranks.now in
    let t = c.args.tally in
    let moved = c.args.moved.now in
    let name = c.args.name.now in
    let shelf = c.args.shelf.now in
    let i = c.from.result in
    let size = c.place_size-size.result in
    let is-size = c.place_size-size.ensures in
    let lent = lent_place t.banks shelf (place_of name) (i * size) (i * size + size)
    (rw (c.from.ensures ∙ c.in-Some.ensures.0, c.place_size-size.ensures) refl) (omega (arith, is-size)) in
    rw lent at c.return_to.ensures ∙ back_done-law name s t moved shelf c.in_ok-check_back.ensures.number
