-- `open_core` meets its contract: each return is one case of `opened`.
use mathlib.Core.Bool.{Bool, true}
use mathlib.Core.Path.{◌≡◌, sym, ◌∙◌}
use native.Mathlib.Omega.{arith}
use Prim.Native.Nat.{ℕ}
use Rattle.memory.proofs.Theorems.{long}
use Rattle.memory.specs.Plan.{Slices, long_enough}
use Rattle.memory.specs.inner.View.{Long}
use Rattle.planner.proofs.NoClash.{opened_many, opened_short, opened_filled}
use Rattle.opening.proofs.opening.open_core.Goals as goal

-- there is room for each fill
room : {n : ℕ} {s : Slices} {r : Bool} → r ≡ long_enough n s → r ≡ true → Long n s
room {n} {s} e t = long n s (sym e ∙ t)

pub returns-then-n-gt-MOST_BANKS : goal.returns-then-n-gt-MOST_BANKS
returns-then-n-gt-MOST_BANKS c = opened_many _ _ _ (omega arith)

pub returns-then-not-long_enough : goal.returns-then-not-long_enough
returns-then-not-long_enough c = opened_short _ _ _ (omega arith) (sym c.long_enough.ensures ∙ c.if-not-long_enough.true)

pub fill-requires : goal.fill-requires
fill-requires c = omega (arith, c.from-n.ensures, (room c.long_enough.ensures c.if-not-long_enough.false).neighbours)

pub fill-requires-2 : goal.fill-requires-2
fill-requires-2 c = omega (arith, c.from-n.ensures, (room c.long_enough.ensures c.if-not-long_enough.false).degrees)

pub fill-requires-3 : goal.fill-requires-3
fill-requires-3 c = omega (arith, c.from-n.ensures, (room c.long_enough.ensures c.if-not-long_enough.false).waves)

pub fill-requires-4 : goal.fill-requires-4
fill-requires-4 c = omega (arith, c.from-n.ensures, (room c.long_enough.ensures c.if-not-long_enough.false).counts)

pub fill-requires-5 : goal.fill-requires-5
fill-requires-5 c = omega (arith, c.from-n.ensures, (room c.long_enough.ensures c.if-not-long_enough.false).ranks)

pub returns : goal.returns
returns c =
    let a = c.args in
    opened_filled a.banks c.from-n.result a.neighbours.now a.degrees.now a.waves.now a.counts.now a.ranks.now a.tally
    c.from-n.ensures (omega (arith, c.from-n.ensures, c.if-n-gt-MOST_BANKS.false))
    (sym c.long_enough.ensures ∙ c.if-not-long_enough.false)
    c.fill.ensures c.fill-2.ensures c.fill-3.ensures c.fill-4.ensures c.fill-5.ensures (omega (arith, c.min.ensures))
