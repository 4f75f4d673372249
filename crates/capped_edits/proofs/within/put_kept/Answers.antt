-- `put_kept`: the part that is lent is that many cells from the front.
use Prim.Native.Nat.{ℕ}
use Rattle.memory.specs.Cells.{over}
use borrow.Author.Rules.{rules}
use lib.ListN.{take, length-take}
use mathlib.Core.Path.{refl, ap, ◌∙◌}
use native.Mathlib.Omega.{arith}
use Rattle.capped_edits.proofs.within.put_kept.Goals as goal

pub returns-then-number-ne0 : goal.returns-then-number-ne0
returns-then-number-ne0 c = record { some = λ z. absurd (c.if-number-ne0.true z); none = λ z. (refl, refl) }

pub slice_bounds-put_front-end : goal.slice_bounds-put_front-end
slice_bounds-put_front-end c = search (rules, (c.requires c.if-number-ne0.false).0)

pub put_front-requires : goal.put_front-requires
put_front-requires c = omega (arith, length-take c.from.result c.args.cells.now, c.from.ensures, (c.requires c.if-number-ne0.false).1)

pub returns : goal.returns
returns c =
    let s = c.args in
    record {
      some = λ z. (refl, c.put_front.ensures ∙ ap (λ (x : ℕ). over (take x s.cells.now) s.slice.now) c.from.ensures);
      none = λ z. absurd (z c.if-number-ne0.false);
    }
