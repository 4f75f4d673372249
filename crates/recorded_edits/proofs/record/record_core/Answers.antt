-- `record_core` meets its contract: refused it leaves all as it was, else it makes the edit and writes its entry.
use Rattle.journal.proofs.Recording.{record_refused, record_late, record_room, record_done-law}
use Rattle.rule.proofs.Refusals.{refused_some}
use mathlib.Core.Path.{◌≡◌, refl}
use Prim.Native.Nat.{ℕ}
use Rattle.recorded_edits.proofs.record.record_core.Goals as goal

pub returns-in-Err : goal.returns-in-Err
returns-in-Err c = rw (c.refuse.ensures.0, c.refuse.ensures.1, c.from.ensures) (record_refused _ _ _ _ _ _ _ c.in-Err.ensures (refused_some _))

pub next_space-space-requires : goal.next_space-space-requires
next_space-space-requires c = c.in_default.ensures.head refl

pub edit_within-done-requires : goal.edit_within-done-requires
edit_within-done-requires c = (_, c.in_default.ensures.ready refl)

pub returns-then-done-ne0 : goal.returns-then-done-ne0
returns-then-done-ne0 c =
    let none : ◌≡◌ {A = ℕ} 0 0 = refl in
    let checked = c.in_default.ensures in
    let made = c.edit_within-done.ensures _ (checked.ready none) in
    rw c.refuse-then-done-ne0.ensures.0
    (record_late _ _ _ _ _ _ _ checked none _ c.next_space-space.ensures made c.if-done-ne0.true _ c.refuse-then-done-ne0.ensures.1)

pub record_entry-answer-requires : goal.record_entry-answer-requires
record_entry-answer-requires c =
    let none : ◌≡◌ {A = ℕ} 0 0 = refl in
    let checked = c.in_default.ensures in
    let made = c.edit_within-done.ensures _ (checked.ready none) in
    record_room _ _ _ _ _ _ _ checked none _ c.next_space-space.ensures made c.if-done-ne0.false

pub returns : goal.returns
returns c =
    let none : ◌≡◌ {A = ℕ} 0 0 = refl in
    let checked = c.in_default.ensures in
    let made = c.edit_within-done.ensures _ (checked.ready none) in
    record_done-law _ _ _ _ _ _ _ checked none _ c.next_space-space.ensures made c.if-done-ne0.false _ _
    c.record_entry-answer.ensures
