-- `put_line` meets its contract: the letter, the banks and the line feed one after another.
use Rattle.sheet_writer.proofs.Texts.{length_wave}
use Rattle.sheet_writer.specs.Sheet.{line_text}
use Rattle.sheet_writer.specs.inner.Cells.{members_text, sheet_wave}
use Rattle.text.proofs.Putting.{puts_three}
use Rattle.wave_lines.specs.Lines.{letters}
use lib.ListN.{get_or}
use mathlib.Core.List.{[], ◌∷◌}
use native.Mathlib.Omega.{arith}
use Rattle.sheet_writer.proofs.lines.put_line.Goals as goal

pub put_byte-banks-requires : goal.put_byte-banks-requires
put_byte-banks-requires c =
    let a = c.args in
    omega (arith, length_wave a.waves.now a.n a.c.0, c.requires.2)

pub put_members-feed-requires : goal.put_members-feed-requires
put_members-feed-requires c =
    let a = c.args in
    (c.requires.1, omega (arith, length_wave a.waves.now a.n a.c.0, c.requires.2, c.put_byte-banks.ensures.next, c.put_byte-banks.auto.out))

pub put_byte-requires : goal.put_byte-requires
put_byte-requires c =
    let a = c.args in
    omega (arith, length_wave a.waves.now a.n a.c.0, c.requires.2, c.put_byte-banks.ensures.next, c.put_byte-banks.auto.out, c.put_members-feed.ensures.next, c.put_members-feed.auto.out)

pub returns : goal.returns
unfolding sheet_wave line_text members_text
returns c =
    let q = c.put_members-feed in
    let a = c.args in
    let ws = a.waves.now in
    let first = rw c.letter.ensures at c.put_byte-banks.ensures in
    let long = length_wave ws a.n a.c.0 in
    let fits = c.requires.2 in
    puts_three (get_or letters a.c.0 0 ∷ []) (members_text ws a.c.0 a.n) (10 ∷ []) a.at a.out.now (omega arith) _ _ _ _ _ _
    c.put_byte-banks.auto.out first q.ensures c.put_byte.ensures
