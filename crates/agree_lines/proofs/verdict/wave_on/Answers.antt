-- The cells hold the waves that are read.
use Rattle.agree_lines.proofs.Verdicts.{read_ok}
use Rattle.sheet_reader.proofs.Answers.{cells_enough, cells_free}
use Rattle.agree_lines.proofs.verdict.wave_on.Goals as goal

pub read_sheet-requires : goal.read_sheet-requires
read_sheet-requires c = record { enough = cells_enough _ c.requires.2; none_named = cells_free _ c.requires.2 }

pub returns : goal.returns
returns c = rw c.from.ensures (read_ok _ _ _ c.requires.0 _ _ c.read_sheet.ensures _ c.requires.1)
