-- `is_numbered_journal` meets its contract: the bytes after the first field are a part of the journal.
use Rattle.journal.proofs.Recording.{later_part}
use Rattle.journal_fields.proofs.Numbers.{size_inside, size_first_field}
use Rattle.journal_fields.specs.Fields.{numbered}
use mathlib.Core.Path.{ap, ◌∙◌}
use Rattle.recorded_edits.proofs.record.is_numbered_journal.Goals as goal

pub slice_bounds-is_numbered-count : goal.slice_bounds-is_numbered-count
slice_bounds-is_numbered-count c = size_first_field _ _ c.requires

pub slice_bounds-is_numbered-start : goal.slice_bounds-is_numbered-start
slice_bounds-is_numbered-start c = size_first_field _ _ c.requires

pub slice_bounds-is_numbered-end : goal.slice_bounds-is_numbered-end
slice_bounds-is_numbered-end c = size_inside _ _ c.requires

pub returns : goal.returns
returns c = c.is_numbered.ensures ∙ ap numbered (later_part _ _ c.requires)
