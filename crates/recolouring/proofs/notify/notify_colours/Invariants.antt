-- `notify_colours`: after i turns the first i neighbours are notified.
use Rattle.std.proofs.Common.{◌≡◌, length}
use Rattle.recolouring.specs.inner.Notices.{Notice, Notifying}
use Rattle.recolouring.proofs.notify.notify_colours.Given as goal

abbrev pub invariant-loop-i : goal.invariant-loop-i
invariant-loop-i l = (length l.counts ≡ length l.initial.counts)
    × ((s : Notice)
    → Notifying s l.neighbours l.degrees l.ranks l.initial.counts l.initial.queue l.b.0 l.old.0 l.new.0 0
    → Notifying s l.neighbours l.degrees l.ranks l.counts l.queue l.b.0 l.old.0 l.new.0 l.i)
