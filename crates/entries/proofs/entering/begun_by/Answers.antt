-- `begun_by`: an edit has come before, this entry is one, or neither.
use Rattle.planner.specs.States.{begun_by}
use Rattle.rule.specs.declared.Entry.{Entry}
use Rattle.rule.specs.declared.Entry.TheVariants.{Clash, Rank}
use mathlib.Core.Bool.{true}
use mathlib.Core.Path.{◌≡◌, refl}
use Rattle.entries.proofs.entering.begun_by.Goals as goal

-- once an edit has come, one has come
stays : (e : Entry) → true ≡ begun_by e true
unfolding begun_by
stays (Clash k a b) = refl
stays (Rank b r) = refl

pub returns-then-begun : goal.returns-then-begun
returns-then-begun c = rw c.if-begun.true (stays _)

pub returns-in-Clash : goal.returns-in-Clash
unfolding begun_by
returns-in-Clash c = rw c.in-Clash.is

pub returns-in_default : goal.returns-in_default
unfolding begun_by
returns-in_default c = rw (c.in_default.is, c.if-begun.false) refl
