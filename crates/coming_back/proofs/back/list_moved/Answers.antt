-- The banks below b are listed.
use Rattle.checkpoints.proofs.Listing.{length_differing, listed_none}
use mathlib.Core.Path.{◌≡◌, refl, ◌∙◌}
use native.Mathlib.Omega.{arith}
use Rattle.coming_back.proofs.back.list_moved.Goals as goal

pub loop-b-init : goal.loop-b-init
loop-b-init c = (listed_none _ _ _, refl)

pub list_bank-count-requires : goal.list_bank-count-requires
list_bank-count-requires c =
    let w = c.loop-b in
    let few = length_differing w.b c.args.old.now c.args.new.now in
    let count = w.invariant.0.count in
    record {
      bank = (omega (arith, c.requires), omega (arith, c.requires));
      room = (omega (arith, count, w.invariant.1, c.requires), omega (arith, count, c.requires));
    }

pub loop-b-preserved : goal.loop-b-preserved
loop-b-preserved c =
    let w = c.loop-b in
    (c.list_bank-count.ensures _ w.invariant.0, c.list_bank-count.auto.moved ∙ w.invariant.1)

pub returns : goal.returns
returns c =
    let w = c.loop-b in
    let e : w.b ≡ c.args.banks = omega arith in
    rw e at w.invariant.0
