-- `put_new` meets its contract: the entry with `done` before it has the number `done` + 1.
use Rattle.journal.proofs.Writing.{entries_one}
use native.Mathlib.Omega.{arith}
use Rattle.journal.proofs.start.put_new.Goals as goal

pub overflow_mul-done : goal.overflow_mul-done
overflow_mul-done c = omega (arith, c.requires.few)

pub overflow_add-done : goal.overflow_add-done
overflow_add-done c = omega (arith, c.requires.few)

pub overflow_add-done-2 : goal.overflow_add-done-2
overflow_add-done-2 c = omega (arith, c.requires.few)

pub put_entry-requires : goal.put_entry-requires
put_entry-requires c = (omega (arith, c.requires.inside), omega (arith, c.requires.few))

pub overflow_add-result : goal.overflow_add-result
overflow_add-result c = omega (arith, c.requires.few)

pub returns : goal.returns
returns c = entries_one _ _ _ _ _ c.put_entry.ensures
