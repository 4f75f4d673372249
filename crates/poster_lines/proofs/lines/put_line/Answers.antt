-- `put_line` meets its contract: its four pieces one after another.
use Rattle.poster_lines.proofs.Columns.{length_columns, puts_line}
use native.Mathlib.Omega.{arith}
use Rattle.poster_lines.proofs.lines.put_line.Goals as goal

pub put_banks-end-requires : goal.put_banks-end-requires
put_banks-end-requires c = (c.requires.0, omega (arith, c.put_byte-space.ensures.next, c.put_byte-space.auto.out, c.put_byte-first.ensures.next, c.put_byte-first.auto.out, c.requires.1, c.requires.2))

pub overflow_sub-end : goal.overflow_sub-end
overflow_sub-end c =
    let s = c.put_banks-end in
    let q = c.put_byte-first in
    let p = c.put_byte-space in
    omega (arith, p.ensures.next, q.ensures.next, s.ensures.next)

pub put_end-requires : goal.put_end-requires
put_end-requires c =
    let long = length_columns c.args.banks.now c.requires.0 in
    let few = c.requires.1 in
    let room = c.requires.2 in (
      omega (arith, c.put_byte-space.ensures.next, c.put_byte-first.ensures.next, c.put_banks-end.ensures.next),
      omega (arith, c.put_byte-space.ensures.next, c.put_byte-space.auto.out, c.put_byte-first.ensures.next, c.put_byte-first.auto.out, c.put_banks-end.ensures.next, c.put_banks-end.auto.out),
    )

pub returns : goal.returns
returns c =
    let s = c.put_banks-end in
    let q = c.put_byte-first in
    let a = c.args in
    let pre = c.requires in
    puts_line a.mark a.banks.now pre.0 pre.1 a.at a.out.now pre.2 _ _ _ _ _ _ _ _ c.put_byte-space.auto.out
    c.put_byte-space.ensures q.ensures s.ensures c.put_end.ensures
