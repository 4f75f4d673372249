-- The wave of the first bank.
use Rattle.agree_lines.proofs.verdict.put_banks.Goals as goal

pub wave_on-w-requires : goal.wave_on-w-requires
wave_on-w-requires c = (c.requires.sheet.0, c.requires.first_is_bank, c.requires.sheet.1)

pub returns : goal.returns
returns c = rw c.wave_on-w.ensures.0 at c.put_clash.ensures
