-- The loop has entered the fields before `last.next`: `Ahead` says where the replay stands.
use Prim.Native.Nat.{ℕ, ◌+◌, ◌-◌, ◌<◌, ◌≤◌}
use Rattle.journal_replay.proofs.Passing.{ahead_start, ahead_holds, ahead_banks, ahead_turn, ahead_end, rest_few}
use Rattle.planner.proofs.Lengths.{same, then}
use Rattle.planner.proofs.Made.{ready_banks}
use lib.ListN.{length}
use mathlib.Core.List.{List}
use mathlib.Core.Path.{◌≡◌, refl}
use native.Mathlib.Omega.{arith}
use Rattle.journal_replay.proofs.rerun.enter_fields.Goals as goal
use Rattle.journal_replay.proofs.rerun.enter_fields.Goals.{then-loop-last-test+else-size-journal, else-loop-last-test}

-- a field at `at` lies within the journal, and what is left of it falls
module _ (journal : List ℕ) (at size w : ℕ) (is : size ≡ w) (some : 0 < w) (long : size ≤ length journal - at) where
  fits : at + w ≤ length journal
  fits = omega arith

  falls : (next : ℕ) → next ≡ at + w → length journal - next < length journal - at
  falls next e = omega arith

stops : (n size w : ℕ) → size ≡ w → n < size → n < w
stops n size w e h = omega arith

pub slice_bounds-is_numbered-count : goal.slice_bounds-is_numbered-count
slice_bounds-is_numbered-count c = c.requires.inside

pub slice_bounds-is_numbered-start : goal.slice_bounds-is_numbered-start
slice_bounds-is_numbered-start c = c.requires.inside

pub loop-last-init : goal.loop-last-init
loop-last-init c =
    let p = c.requires in
    let h = p.held in (
      λ G h f. ahead_start _ _ _ G _ h f c.is_numbered-numbered.ensures _ refl refl refl refl,
      same _,
      p.inside,
      p.later,
      omega arith,
      c.reset.ensures.by_index _ _ (omega (arith, ready_banks _ _ h.1, h.1.plan.clashes.most)),
      λ f. c.reset.ensures.unranked,
    )

pub overflow_sub-journal : goal.overflow_sub-journal
overflow_sub-journal c = c.loop-last.invariant.2

pub overflow_add-last : goal.overflow_add-last
overflow_add-last c =
    let p = c.requires in
    omega (arith, c.loop-last.invariant.3, c.loop-last.invariant.2, p.few)

pub enter_field-last-requires : goal.enter_field-last-requires
enter_field-last-requires c =
    let h = c.requires.held in record {
      asks_field = record {
        held = ahead_holds _ _ _ h.0 _ _ _ (c.loop-last.invariant.0 h.0 h.1 h.2) c.loop-last-test.true;
        inside = fits c.args.journal.now c.loop-last.last.next _ _ c.entry_bytes-size.ensures (omega arith) c.if-size-journal.true;
        later = omega (arith, c.loop-last.invariant.4);
      };
      idle = c.loop-last.invariant.5;
      unranked = c.loop-last.invariant.6;
    }

pub loop-last-smaller : goal.loop-last-smaller
loop-last-smaller c =
    falls c.args.journal.now c.loop-last.last.next _ _ c.entry_bytes-size.ensures (omega arith) c.if-size-journal.true _
    c.enter_field-last.ensures.enters_field.next

pub loop-last-preserved : goal.loop-last-preserved
loop-last-preserved c =
    let i = c.loop-last.invariant in
    let k = c.enter_field-last.auto in
    let size = c.entry_bytes-size.ensures in
    let l = c.if-size-journal.true in
    let h = c.requires.held in
    let inside = fits c.args.journal.now c.loop-last.last.next _ _ size (omega arith) l in (
      λ G h r. ahead_turn _ _ _ G _ _ _ (i.0 G h r) c.loop-last-test.true (rw size at l) _ _ c.enter_field-last.ensures.enters_field,
      then _ _ _ i.1
          (record { neighbours = k.neighbours; degrees = k.degrees; waves = k.waves; counts = k.counts; ranks = k.ranks; trail = k.trail; moved = k.moved }),
      omega (arith, c.enter_field-last.ensures.enters_field.next, inside),
      omega (arith, c.enter_field-last.ensures.enters_field.next, c.enter_field-last.ensures.enters_field.field, i.3),
      omega (arith, c.enter_field-last.ensures.enters_field.field),
      rw (ahead_banks _ _ _ h.0 _ _ _ (i.0 h.0 h.1 h.2) c.loop-last-test.true _ _ c.enter_field-last.ensures.enters_field) c.enter_field-last.ensures.idle_after,
      c.enter_field-last.ensures.unranked_after,
    )

pub ended-answer-requires : goal.ended-answer-requires
ended-answer-requires c =
    let i = c.loop-last.invariant in
    (rest_few c.args.journal.now _ c.requires.few i.2, omega (arith, i.3, i.2, c.requires.few))

pub returns : goal.returns
returns c =
    record {
      of = λ G h f. ahead_end _ _ _ G _ _ _ (c.loop-last.invariant.0 G h f)
          (λ z. stops _ _ _ c.entry_bytes-size.ensures (elim c.loop-last-test.branch [
            | then-loop-last-test+else-size-journal w ↦ w.if-size-journal.false
            | else-loop-last-test w ↦ absurd (w.loop-last-test.false z)
          ])) _ c.ended-answer.ensures;
    }
