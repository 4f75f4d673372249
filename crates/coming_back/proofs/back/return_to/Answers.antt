-- `return_to`: the list first, as it compares the waves before with those kept.
use Prim.Native.Nat.{◌+◌, ◌*◌}
use Rattle.checkpoints.proofs.Calls.{lent_waves, came}
use Rattle.memory.proofs.Theorems.{long}
use Rattle.memory.specs.Plan.{slices_of}
use Rattle.shelf.proofs.Putting.{length_lent}
use native.Mathlib.Omega.{arith}
use Rattle.coming_back.proofs.back.return_to.Goals as goal

pub list_moved-differing-requires : goal.list_moved-differing-requires
list_moved-differing-requires c =
    let n = c.from-n.result in
    let is-n = c.from-n.ensures in
    let l = long c.args.tally.banks _ c.requires.long in
    let part = length_lent (1 + n * 24) (1 + n * 24 + n) n c.args.place.now (omega arith) (omega (arith, c.requires.fits.1, is-n)) in
    (omega (arith, c.requires.fits.0), omega (arith, l.waves), omega (arith, part, is-n), omega (arith, c.requires.fits.2))

pub bring_back-requires : goal.bring_back-requires
bring_back-requires c =
    let is-n = c.from-n.ensures in
    record {
      size = omega (arith, c.requires.fits.1, is-n);
      few = omega (arith, c.requires.fits.0, is-n);
      long = rw is-n c.requires.long;
    }

pub returns : goal.returns
returns c =
    let n = c.from-n.result in
    let is-n = c.from-n.ensures in
    let banks = c.args.tally.banks in
    let cells = c.args.place.now in
    let s = slices_of c.args.neighbours.now c.args.degrees.now c.args.waves.now c.args.counts.now c.args.ranks.now in
    let waves = lent_waves banks cells s n (1 + n * 24) (1 + n * 24 + n) is-n (omega arith) (omega arith) in
    came banks cells s c.args.moved.now _ _ _ _ (rw waves at c.list_moved-differing.ensures) (rw is-n at c.bring_back.ensures)
    (rw is-n at c.tally_in-kept.ensures)
