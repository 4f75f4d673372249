-- The loop has passed whole entries, numbered in turn, no rank after an edit: the number of the bytes is that of those that are left.
use Rattle.std.proofs.Common.{◌≡◌, ◌+◌}
use Rattle.std.specs.Iterator.Adapters.{enumerate_source, enumerate_count}
use Rattle.std.specs.Slice.Iter.{chunks_rest, chunks_size}
use Rattle.journal_fields.specs.Fields.{entry_size, fields, fields_from}
use Rattle.journal_fields.specs.Numbers.{later_number}
use Rattle.journal_fields.proofs.Later.{number_from}
use Rattle.journal_reader.proofs.read.fields_number.Given as goal

abbrev pub invariant-loop-i : goal.invariant-loop-i
invariant-loop-i l =
    let left = chunks_rest (enumerate_source l.i-iterator) in
    record {
      can_next : (goal.iterator-loop-i).can_next l.i-iterator;
      is_finite : (goal.iterator-loop-i).is_finite l.i-iterator;
      size : chunks_size (enumerate_source l.i-iterator) ≡ entry_size l.numbered;
      number : later_number (fields l.bytes) ≡ number_from l.begun (fields_from l.numbered (enumerate_count l.i-iterator + 1) left);
    }
