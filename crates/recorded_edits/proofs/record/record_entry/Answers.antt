-- `record_entry` meets its contract: the number is one above the entries so far, and the new length is at most 60,000.
use Rattle.journal.proofs.Recording.{asks_room, next_few, next_bytes-law, next_fits, recorded_of}
use Rattle.journal_fields.proofs.Numbers.{size_first_field}
use Rattle.journal_fields.specs.Fields.{entry_size}
use mathlib.Core.Path.{ap}
use native.Mathlib.Omega.{arith}
use Rattle.recorded_edits.proofs.record.record_entry.Goals as goal

pub is_numbered_journal-numbered-requires : goal.is_numbered_journal-numbered-requires
is_numbered_journal-numbered-requires c = c.requires.head

pub overflow_sub-number : goal.overflow_sub-number
overflow_sub-number c = size_first_field _ c.args.journal.now c.requires.head

pub overflow_add-number : goal.overflow_add-number
overflow_add-number c = omega (arith, next_few _ _ c.requires _ c.is_numbered_journal-numbered.ensures _ c.entry_bytes.ensures)

pub put_entry-next-requires : goal.put_entry-next-requires
put_entry-next-requires c =
    let is = c.is_numbered_journal-numbered.ensures in
    (omega (arith, (asks_room _ _ c.requires).0, ap entry_size is), next_few _ _ c.requires _ is _ c.entry_bytes.ensures)

pub overflow_cast-result : goal.overflow_cast-result
overflow_cast-result c =
    let few = next_fits _ _ _ _ _ _ _ c.put_entry-next.ensures (omega (arith, (asks_room _ _ c.requires).1, ap entry_size c.is_numbered_journal-numbered.ensures)) in
    omega (arith, few)

pub returns : goal.returns
returns c =
    let is = c.is_numbered_journal-numbered.ensures in
    recorded_of _ _ _ _ _ _ _ _ is (next_bytes-law _ _ c.requires _ is _ c.entry_bytes.ensures _) c.put_entry-next.ensures
