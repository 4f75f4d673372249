-- The first banks of the row are counted.
use Prim.Native.Nat.{◌<◌}
use Rattle.memory.specs.inner.Counts.{by_cells}
use Rattle.memory.proofs.Tallies.{bit_small, count_none, in_part, v_small, count_few, counted_if}
use lib.ListN.{get_or}
use mathlib.Core.Path.{refl, sym, ap, ◌∙◌}
use native.Mathlib.Omega.{arith}
use Rattle.memory.proofs.count.count_earlier.Goals as goal

pub loop-v-init : goal.loop-v-init
loop-v-init c =
    let a = c.args in
    let cleared = c.fill.ensures in
    count_none a.degrees.now a.ranks.now a.waves.now a.b.0 (record {
      long = cleared.len ∙ c.requires.row_len;
      counts = λ k l. cleared.clones k 0 (omega (arith, c.requires.row_len)) refl;
    })

pub overflow_add-row : goal.overflow_add-row
overflow_add-row c =
    let a = c.args in
    let ct = c.requires.countable in
    let lt : c.loop-v.v-index < get_or a.degrees.now a.b.0 0 = omega (arith, c.loop-v-test.true) in
    omega (
      arith,
      c.from.ensures,
      bit_small c.is_earlier.result,
      count_few ct lt c.loop-v.invariant _ (v_small ct lt),
      ap (λ k. get_or c.loop-v.row (get_or a.waves.now k 0) 0) (in_part ct lt),
    )

pub loop-v-preserved : goal.loop-v-preserved
loop-v-preserved c =
    let a = c.args in
    let ct = c.requires.countable in
    let lt : c.loop-v.v-index < get_or a.degrees.now a.b.0 0 = omega (arith, c.loop-v-test.true) in
    let v = in_part ct lt in
    rw c.from.ensures
    (counted_if ct lt c.loop-v.invariant c.is_earlier.result
    (ap (λ k. by_cells a.degrees.now a.ranks.now k a.b.0) (sym v) ∙ sym c.is_earlier.ensures)
    (ap (λ k. get_or a.waves.now k 0) v))
