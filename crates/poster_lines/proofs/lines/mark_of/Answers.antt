-- `mark_of` meets its contract: the first line of a wave has its letter, the others a space.
use Rattle.poster_lines.proofs.Pieces.{mark_first, mark_later}
use mathlib.Core.Path.{sym, ◌∙◌}
use native.Mathlib.Omega.{arith}
use Rattle.poster_lines.proofs.lines.mark_of.Goals as goal

pub returns-then-i-eq0 : goal.returns-then-i-eq0
returns-then-i-eq0 c = c.letter.ensures ∙ sym (mark_first _ _ (omega arith))

pub returns-else-i-eq0 : goal.returns-else-i-eq0
returns-else-i-eq0 c = sym (mark_later _ _ (λ e. omega arith))
