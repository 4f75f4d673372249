-- `count_wave` meets its contract: the wave's banks take a line for each 7 of them.
use Rattle.poster_lines.proofs.Pieces.{length_lines}
use Rattle.wave_lines.proofs.Members.{members_few}
use Rattle.wave_lines.specs.inner.Cells.{members_of}
use native.Mathlib.Omega.{arith}
use Rattle.poster_writer.proofs.waves.count_wave.Goals as goal

pub lines_for-requires : goal.lines_for-requires
lines_for-requires c =
    let a = c.args in
    omega (arith, members_few a.waves.now a.c.0 a.n, c.gather.ensures.next, c.requires.0)

pub returns : goal.returns
returns c =
    let found = c.gather.ensures.next in
    let a = c.args in
    let members = members_of a.waves.now a.c.0 a.n in
    let few = members_few a.waves.now a.c.0 a.n in
    let lines = c.lines_for.ensures in
    (omega (arith, length_lines a.c.0 members), omega (arith, c.requires.0))
