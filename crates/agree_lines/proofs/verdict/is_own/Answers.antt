-- The planner's sheet is written into bytes of its own, and these are compared.
use Prim.Native.Nat.{ℕ, ◌≤◌}
use Rattle.agree_lines.proofs.Verdicts.{own_inside, own_bytes, own_text, own_written}
use lib.ListN.{length, replicate, length-replicate}
use lib.Seq.{length-take-le}
use mathlib.Core.Path.{sym}
use native.Mathlib.Omega.{arith}
use Rattle.agree_lines.proofs.verdict.is_own.Goals as goal

-- room for the longest sheet
room : 4084 ≤ length {A = ℕ} (replicate 4084 0)
room = omega (arith, length-replicate {A = ℕ} 4084 0)

pub slice_bounds-own-end : goal.slice_bounds-own-end
slice_bounds-own-end c = omega (arith, own_inside _ _ c.requires _ room c.in-Ok.ensures)

pub slice_bounds-eq-end : goal.slice_bounds-eq-end
slice_bounds-eq-end c = sym (length-take-le _ _ (own_inside _ _ c.requires _ room c.in-Ok.ensures))

pub returns-in-Ok : goal.returns-in-Ok
returns-in-Ok c = own_text _ _ c.requires _ (own_bytes _ _ c.requires _ room c.in-Ok.ensures) c.eq.ensures

pub returns-in-Err : goal.returns-in-Err
returns-in-Err c = absurd (own_written _ _ c.requires _ room _ c.in-Err.ensures)
