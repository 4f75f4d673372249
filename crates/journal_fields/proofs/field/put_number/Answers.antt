-- `put_number` writes nothing where fields have no number.
use Rattle.journal_fields.specs.Fields.{number_bytes}
use Rattle.text.proofs.Putting.{puts_none}
use Rattle.journal_fields.proofs.field.put_number.Goals as goal

pub returns-then-not-numbered : goal.returns-then-not-numbered
unfolding number_bytes
returns-then-not-numbered c = rw (c.if-not-numbered.true) (puts_none _ _)
