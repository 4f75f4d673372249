-- The table is that of the letters.
use mathlib.Core.Path.{refl}
use Rattle.wave_lines.proofs.Letters.{letters_are}
use Rattle.wave_lines.proofs.letter.Goals as goal

pub returns : goal.returns
returns c = rw (letters_are, ← c.from.ensures) refl
