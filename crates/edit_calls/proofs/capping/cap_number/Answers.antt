-- Each test denied has its number, and all granted have none.
use Rattle.edit_calls.proofs.Caps.{cap_none, cap_high, cap_low, cap_good}
use mathlib.Core.Path.{sym}
use native.Mathlib.Omega.{arith}
use Rattle.edit_calls.proofs.capping.cap_number.Goals as goal
use Rattle.edit_calls.proofs.capping.cap_number.Goals.{then-cap-lt1-via-then-cap-lt1, then-cap-lt1-via-else-cap-lt1+then-cap-gt-MOST_WAVES}

pub returns-then-cap-lt1 : goal.returns-then-cap-lt1
returns-then-cap-lt1 c =
    let a = c.args in
    elim c.then-cap-lt1.branch [
      | then-cap-lt1-via-then-cap-lt1 w ↦ sym (cap_none a.waves a.«cap» (omega arith))
      | then-cap-lt1-via-else-cap-lt1+then-cap-gt-MOST_WAVES w ↦ sym (cap_high a.waves a.«cap» (omega arith) (omega arith))
    ]

pub returns-then-cap-waves : goal.returns-then-cap-waves
returns-then-cap-waves c = let a = c.args in sym (cap_low a.waves a.«cap» (omega arith) (omega arith) (omega arith))

pub returns : goal.returns
returns c = let a = c.args in sym (cap_good a.waves a.«cap» (omega arith) (omega arith) (omega arith))
