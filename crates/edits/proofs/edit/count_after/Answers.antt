-- `count_after` meets its contract, kind by kind.
use native.Mathlib.Omega.{arith}
use Rattle.edits.proofs.edit.count_after.Goals as goal

pub overflow_add-result : goal.overflow_add-result
overflow_add-result c = let h = rw c.in-Adding.is at c.requires in record { fits = omega (arith, h) }

pub overflow_sub-result : goal.overflow_sub-result
overflow_sub-result c = rw c.in-Striking.is at c.requires

pub returns-in-Adding : goal.returns-in-Adding
returns-in-Adding c = rw c.in-Adding.is

pub returns-in-Striking : goal.returns-in-Striking
returns-in-Striking c = rw c.in-Striking.is
