-- `can_step`: the state after it by the laws of `Stepping`.
use Rattle.steps.proofs.Stepping.{taken_less, counts_in, indexed, free_wave, notifiable, treated, worked}
use mathlib.Core.Path.{refl}
use native.Mathlib.Omega.{arith}
use Rattle.steps.specs.inner.Work.{new}
use Rattle.steps.proofs.can_step.can_step.Goals as goal

pub overflow_add-next : goal.overflow_add-next
overflow_add-next c = let wk = c.requires.1.working in omega (arith, wk.room, wk.shown.few)

pub dequeue-b-requires : goal.dequeue-b-requires
dequeue-b-requires c = (_, c.requires.1.waiting)

pub offset_bounds-trail-taken : goal.offset_bounds-trail-taken
offset_bounds-trail-taken c = let wk = c.requires.1.working in omega (arith, wk.room, wk.shown.few)

pub bounds-trail-taken : goal.bounds-trail-taken
bounds-trail-taken c =
    let st = c.requires.1 in
    let wk = st.working in
    omega (arith, taken_less wk (c.dequeue-b.ensures _ st.waiting), wk.wide_trail)

pub bounds-waves-at : goal.bounds-waves-at
bounds-waves-at c =
    let st = c.requires.1 in
    omega (arith, (c.dequeue-b.ensures _ st.waiting).next.bank, st.working.wide_waves)

pub collect_colours-colours-requires : goal.collect_colours-colours-requires
collect_colours-colours-requires c =
    let st = c.requires.1 in
    counts_in st.working (c.dequeue-b.ensures _ st.waiting)

pub assign_colour-changed-requires : goal.assign_colour-changed-requires
assign_colour-changed-requires c =
    let st = c.requires.1 in
    let wk = st.working in
    let dq = c.dequeue-b.ensures _ st.waiting in
    let col = c.collect_colours-colours.ensures _ _ (indexed wk dq) dq.next.bank in
    record { b_in_bounds = omega (arith, dq.next.bank, wk.wide_waves); colours_bound = free_wave wk dq col; colours_len = col.long }

pub bounds-waves-at-2 : goal.bounds-waves-at-2
bounds-waves-at-2 c =
    let st = c.requires.1 in
    omega (arith, (c.dequeue-b.ensures _ st.waiting).next.bank, st.working.wide_waves, c.assign_colour-changed.auto.waves)

pub list_moved-moves-requires : goal.list_moved-moves-requires
list_moved-moves-requires c =
    let st = c.requires.1 in
    let wk = st.working in
    omega (arith, taken_less wk (c.dequeue-b.ensures _ st.waiting), wk.few, wk.wide_moved)

pub notify_colours-requires : goal.notify_colours-requires
notify_colours-requires c =
    let st = c.requires.1 in
    let wk = st.working in
    let dq = c.dequeue-b.ensures _ st.waiting in
    (new c.requires.0, rw c.from-at.ensures (notifiable wk dq (c.collect_colours-colours.ensures _ _ (indexed wk dq) dq.next.bank) c.assign_colour-changed.ensures))

pub highest_after-top-requires : goal.highest_after-top-requires
highest_after-top-requires c =
    let st = c.requires.1 in
    let wk = st.working in
    let dq = c.dequeue-b.ensures _ st.waiting in
    let cells = (notifiable wk dq (c.collect_colours-colours.ensures _ _ (indexed wk dq) dq.next.bank) c.assign_colour-changed.ensures).movable _ dq.next.bank in
    record { bound = rw c.from-at.ensures cells.low; bound_2 = rw c.from-at.ensures cells.high }

pub returns : goal.returns
returns c =
    λ e st.
    let wk = st.working in
    let dq = c.dequeue-b.ensures _ st.waiting in
    let set = c.collect_colours-colours.ensures _ _ (indexed wk dq) dq.next.bank in
    let one = c.assign_colour-changed.ensures in
    let ntf = rw c.from-at.ensures at (c.notify_colours.ensures (new e) (rw c.from-at.ensures (notifiable wk dq set one))) in
    let top = rw c.from-at.ensures at c.highest_after-top.ensures in
    record {
      bank = _;
      treated = treated wk dq set one ntf refl c.list_moved-moves.ensures.moved_after c.list_moved-moves.ensures.value top;
      working = worked wk dq set one ntf refl c.list_moved-moves.ensures.moved_after c.list_moved-moves.ensures.value top;
    }
