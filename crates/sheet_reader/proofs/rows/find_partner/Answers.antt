-- The banks of the row so far stand in other waves.
use Prim.Native.Nat.{ℕ, ◌+◌, ◌*◌, ◌<◌}
use Rattle.sheet_parser.specs.inner.Lines.{wave_in}
use Rattle.sheet_reader.proofs.Clashes.{scan_start, partner_next, partner_hit, partner_none, row_degrees, row_inside, part_length, part_cell, cell_bank}
use lib.ListN.{get_or}
use mathlib.Core.Path.{◌≡◌, sym, ap, ◌∙◌}
use native.Mathlib.Omega.{arith}
use Rattle.sheet_reader.proofs.rows.find_partner.Goals as goal

pub bounds-degrees-at : goal.bounds-degrees-at
bounds-degrees-at c = omega (arith, c.from-at.ensures, c.requires.is_bank, row_degrees c.requires.rowed c.requires.is_bank)

pub slice_bounds-row-end : goal.slice_bounds-row-end
slice_bounds-row-end c = let inside = row_inside c.requires.rowed c.requires.is_bank c.from-at.ensures c.from.ensures in omega arith

pub loop-v-init : goal.loop-v-init
loop-v-init c = scan_start _ _

pub bounds-cells-from : goal.bounds-cells-from
bounds-cells-from c =
    let rows = c.requires.rowed in
    let b = c.requires.is_bank in
    let i : c.loop-v.v-index < get_or c.args.degrees.now c.args.b.0 0 = omega (arith, c.loop-v-test.true, part_length rows b c.from-at.ensures c.from.ensures) in
    omega (arith, cell_bank rows b i, part_cell rows b c.from-at.ensures c.from.ensures c.loop-v-test.true, c.from-in-loop-v.ensures, c.requires.cells_for_all)

pub returns-then-cells-from : goal.returns-then-cells-from
returns-then-cells-from c =
    let rows = c.requires.rowed in
    let b = c.requires.is_bank in
    let i : c.loop-v.v-index < get_or c.args.degrees.now c.args.b.0 0 = omega (arith, c.loop-v-test.true, part_length rows b c.from-at.ensures c.from.ensures) in
    let v = part_cell rows b c.from-at.ensures c.from.ensures c.loop-v-test.true in
    let same : get_or c.args.cells.now (get_or c.args.neighbours.now (c.args.b.0 * 23 + c.loop-v.v-index) 0) 0 ≡ get_or c.args.cells.now c.args.b.0 0 =
    ap (λ (k : ℕ). get_or c.args.cells.now k 0) (sym (c.from-in-loop-v.ensures ∙ v)) ∙ c.if-cells-from.true
    ∙ ap (λ (k : ℕ). get_or c.args.cells.now k 0) c.from-at.ensures in
    rw v (partner_hit rows b (wave_in c.args.cells.now) c.loop-v.invariant i same)

pub loop-v-preserved : goal.loop-v-preserved
loop-v-preserved c =
    let rows = c.requires.rowed in
    let b = c.requires.is_bank in
    let i : c.loop-v.v-index < get_or c.args.degrees.now c.args.b.0 0 = omega (arith, c.loop-v-test.true, part_length rows b c.from-at.ensures c.from.ensures) in
    let v = part_cell rows b c.from-at.ensures c.from.ensures c.loop-v-test.true in
    partner_next rows b (wave_in c.args.cells.now) c.loop-v.invariant i (λ same.
    c.if-cells-from.false
    (ap (λ (k : ℕ). get_or c.args.cells.now k 0) (c.from-in-loop-v.ensures ∙ v) ∙ same ∙ sym (ap (λ (k : ℕ). get_or c.args.cells.now k 0) c.from-at.ensures)))

pub returns : goal.returns
returns c =
    let rows = c.requires.rowed in
    let b = c.requires.is_bank in
    partner_none rows b (wave_in c.args.cells.now) c.loop-v.invariant (omega (arith, c.loop-v-test.false, part_length rows b c.from-at.ensures c.from.ensures))
