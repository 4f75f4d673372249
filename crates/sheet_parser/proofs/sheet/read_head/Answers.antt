-- `read_head` meets its contract: the word, the number of waves, the line feed.
use Rattle.sheet_parser.proofs.Sheets.{no_word, no_count, many_waves, no_feed, head_read}
use Rattle.sheet_parser.proofs.sheet.read_head.Goals as goal
use Rattle.sheet_parser.proofs.sheet.read_head.Goals.{then-count-gt-MOST_WAVES-via-then-count-gt-MOST_WAVES, then-count-gt-MOST_WAVES-via-else-count-gt-MOST_WAVES+then-not-byte_at}

pub returns-then-not-text_at : goal.returns-then-not-text_at
returns-then-not-text_at c = no_word c.if-not-text_at.ensures

pub returns-in_err-count : goal.returns-in_err-count
returns-in_err-count c = rw c.from_residual.ensures (no_count c.in_err-count.ensures)

pub returns-then-count-gt-MOST_WAVES : goal.returns-then-count-gt-MOST_WAVES
returns-then-count-gt-MOST_WAVES c =
    elim c.then-count-gt-MOST_WAVES.branch [
      | then-count-gt-MOST_WAVES-via-then-count-gt-MOST_WAVES w ↦ many_waves c.in_ok-count.ensures w.if-count-gt-MOST_WAVES.true
      | then-count-gt-MOST_WAVES-via-else-count-gt-MOST_WAVES+then-not-byte_at w ↦ no_feed c.in_ok-count.ensures w.if-not-byte_at.ensures
    ]

pub returns : goal.returns
returns c = head_read c.in_ok-count.ensures c.if-not-text_at.ensures c.if-count-gt-MOST_WAVES.false c.if-not-byte_at.ensures
