-- `next_space` meets its contract.
use Rattle.journal.proofs.Recording.{space_next}
use Rattle.journal_fields.proofs.Entries.{entry_few}
use Rattle.journal_fields.proofs.Numbers.{size_few}
use native.Mathlib.Omega.{arith}
use Rattle.recorded_edits.proofs.record.next_space.Goals as goal

pub is_numbered_journal-numbered-requires : goal.is_numbered_journal-numbered-requires
is_numbered_journal-numbered-requires c = c.requires

pub overflow_add-size : goal.overflow_add-size
overflow_add-size c = omega (arith, c.entry_bytes.ensures, entry_few c.is_numbered_journal-numbered.result, size_few _ c.args.journal.now c.requires)

pub returns : goal.returns
returns c = space_next _ _ _ c.is_numbered_journal-numbered.ensures _ c.entry_bytes.ensures _ c.space_number.ensures
