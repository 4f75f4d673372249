-- `notify_colours`: after i turns the first i neighbours are notified.
use Prim.Native.Nat.{ℕ}
use Rattle.recolouring.proofs.Notices.{notice_of, none_notified, start_notifying, all_notified}
use lib.ListN.{get_or}
use mathlib.Core.Path.{◌≡◌, refl, ap, ◌∙◌}
use native.Mathlib.Omega.{arith}
use Rattle.recolouring.proofs.notify.notify_colours.Goals as goal

pub returns-then-not-changed : goal.returns-then-not-changed
returns-then-not-changed c = λ G nf. none_notified nf _ (λ x. rw c.if-not-changed.true refl)

pub offset_bounds-degrees-at : goal.offset_bounds-degrees-at
offset_bounds-degrees-at c = let nf = c.requires.1 in omega (arith, nf.bank, nf.shown.few)

pub bounds-degrees-at : goal.bounds-degrees-at
bounds-degrees-at c = let nf = c.requires.1 in omega (arith, nf.bank, nf.shown.wide_degrees)

pub offset_bounds-ranks-at : goal.offset_bounds-ranks-at
offset_bounds-ranks-at c = let nf = c.requires.1 in omega (arith, nf.bank, nf.shown.few)

pub bounds-ranks-at : goal.bounds-ranks-at
bounds-ranks-at c = let nf = c.requires.1 in omega (arith, nf.bank, nf.shown.ranked.wide)

pub loop-i-init : goal.loop-i-init
loop-i-init c = (refl, λ s nt. nt)

pub notify_one-requires : goal.notify_one-requires
notify_one-requires c =
    let start = start_notifying c.if-not-changed.false c.requires.1 in
    record {
      notifying = (_, c.loop-i.invariant.1 _ start);
      i_bound = omega (arith, rw c.from-at.ensures at c.from-i-end.ensures);
      of_b = (ap (λ (k : ℕ). get_or c.args.degrees.now k 0) c.from-at.ensures, ap (λ (k : ℕ). get_or c.args.ranks.now k 0) c.from-at.ensures);
    }

pub loop-i-preserved : goal.loop-i-preserved
loop-i-preserved c =
    let inv = c.loop-i.invariant in
    (c.notify_one.auto.counts ∙ inv.0, λ s nt. c.notify_one.ensures s (inv.1 s nt))

pub shape_of-counts : goal.shape_of-counts
shape_of-counts c = c.loop-i.invariant.0

pub returns : goal.returns
returns c =
    let loop = c.loop-i in
    let a = c.args in
    let e : loop.i ≡ get_or a.degrees.now a.b.0 0 = omega (arith, rw c.from-at.ensures at c.from-i-end.ensures) in
    λ G nf.
    let said = c.if-not-changed.false in
    all_notified said (rw e at (loop.invariant.1 (notice_of G _ _) (start_notifying said nf)))
