-- `open_all` meets its contract: refused by `check_room`, or what `open_core` leaves.
use Rattle.planner.proofs.Rooms.{room_refused, room_opened}
use Rattle.std.proofs.lemmas.Result.{err_from_is_err_and}
use Rattle.opening.proofs.opening.open_all.Goals as goal

pub returns-in_err-check_room : goal.returns-in_err-check_room
returns-in_err-check_room c =
    let p = err_from_is_err_and c.from_residual.result c.from_residual.ensures.1 in
    rw (p.1, p.2) (room_refused _ _ _ c.in_err-check_room.ensures)

pub returns : goal.returns
returns c = room_opened _ _ c.in_ok-check_room.ensures _ _ c.open_core.ensures
