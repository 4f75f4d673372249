-- `read_line` meets its contract: the letter, the banks, the line feed.
use Rattle.sheet_parser.proofs.Lines.{no_letter, line_none, line_whole}
use native.Mathlib.Omega.{arith}
use Rattle.sheet_parser.proofs.line.read_line.Goals as goal
use Rattle.sheet_parser.proofs.line.read_line.Goals.{then-place-eq0-via-then-place-eq0, then-place-eq0-via-else-place-eq0+then-not-byte_at-2}

pub returns-then-not-byte_at : goal.returns-then-not-byte_at
returns-then-not-byte_at c = no_letter _ (λ b. c.if-not-byte_at.ensures (rw c.letter.ensures b))

pub returns-then-place-eq0 : goal.returns-then-place-eq0
returns-then-place-eq0 c =
    line_none c.in_ok-place.ensures (λ some feed.
    elim c.then-place-eq0.branch [
      | then-place-eq0-via-then-place-eq0 w ↦ omega (arith, w.if-place-eq0.true)
      | then-place-eq0-via-else-place-eq0+then-not-byte_at-2 w ↦ w.if-not-byte_at-2.ensures feed
    ])

pub returns : goal.returns
returns c = line_whole c.in_ok-place.ensures (omega (arith, c.if-place-eq0.false)) c.if-not-byte_at-2.ensures
