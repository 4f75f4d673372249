-- `put_wave_of` meets its contract: the banks that were gathered are those of the wave.
use Rattle.poster_writer.proofs.Members.{members_small, gathered}
use Rattle.poster_writer.specs.inner.Cells.{poster_wave}
use Rattle.wave_lines.proofs.Members.{members_few}
use lib.ListN.{length-take}
use native.Mathlib.Omega.{arith}
use Rattle.poster_writer.proofs.waves.put_wave_of.Goals as goal

pub slice_bounds-banks-end : goal.slice_bounds-banks-end
slice_bounds-banks-end c =
    let a = c.args in
    omega (arith, members_few a.waves.now a.c.0 a.n, c.gather-count.ensures.next, c.requires.1)

pub slice_bounds-put_wave-end : goal.slice_bounds-put_wave-end
slice_bounds-put_wave-end c =
    let a = c.args in
    let count = c.gather-count.result in
    let banks = c.gather-count.new.banks in
    omega (arith, length-take count banks, members_few a.waves.now a.c.0 a.n, c.gather-count.ensures.next, c.gather-count.auto.banks, c.requires.1)

pub put_wave-requires : goal.put_wave-requires
unfolding poster_wave
put_wave-requires c =
    let a = c.args in
    let ws = a.waves.now in
    let few = members_few ws a.c.0 a.n in
    let pre = c.requires in
    rw (gathered _ _ _ _ c.gather-count.ensures) (pre.0, members_small ws a.c.0 a.n pre.1, omega (arith, pre.1), pre.3)

pub returns : goal.returns
unfolding poster_wave
returns c = rw (gathered _ _ _ _ c.gather-count.ensures) at c.put_wave.ensures
