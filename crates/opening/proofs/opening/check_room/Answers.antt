-- `check_room` meets its contract, test by test.
use Rattle.planner.proofs.Rooms.{room_many, room_trail, room_moved, room_none}
use native.Mathlib.Omega.{arith}
use Rattle.opening.proofs.opening.check_room.Goals as goal
use Rattle.opening.proofs.opening.check_room.Goals.{then-trail-n-via-then-trail-n, then-trail-n-via-else-trail-n+then-moved-n}

pub returns-then-n-gt-MOST_BANKS : goal.returns-then-n-gt-MOST_BANKS
returns-then-n-gt-MOST_BANKS c = room_many _ _ _ (omega arith)

pub returns-then-trail-n : goal.returns-then-trail-n
returns-then-trail-n c =
    elim c.then-trail-n.branch [
      | then-trail-n-via-then-trail-n w ↦ room_trail _ _ _ (omega arith) (omega arith)
      | then-trail-n-via-else-trail-n+then-moved-n w ↦ room_moved _ _ _ (omega arith) (omega arith) (omega arith)
    ]

pub returns : goal.returns
returns c = room_none _ _ _ (omega arith) (omega arith) (omega arith)
