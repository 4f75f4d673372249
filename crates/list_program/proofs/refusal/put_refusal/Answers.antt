-- `put_refusal` meets its contract: its five pieces one after another, and 24 bytes hold them, since each number has at most 5 digits.
use Rattle.list_program.proofs.Answering.{length_refusal, puts_refusal}
use Rattle.text.proofs.Decimal.{few_digits}
use native.Mathlib.Omega.{arith}
use Rattle.list_program.proofs.refusal.put_refusal.Goals as goal

pub put_number-middle-requires : goal.put_number-middle-requires
put_number-middle-requires c =
    omega (arith, few_digits 4 c.args.number (omega arith), c.requires, c.put_text-c.ensures.next, c.put_text-c.auto.out)

pub put_text-r-requires : goal.put_text-r-requires
put_text-r-requires c =
    omega (arith, few_digits 4 c.args.number (omega arith), c.requires, c.put_text-c.ensures.next, c.put_text-c.auto.out, c.put_number-middle.ensures.next, c.put_number-middle.auto.out)

pub put_number-end-requires : goal.put_number-end-requires
put_number-end-requires c =
    let few = few_digits 4 c.args.number (omega arith) in
    let fewer = few_digits 4 c.args.row (omega arith) in
    omega (arith, c.requires, c.put_text-c.ensures.next, c.put_text-c.auto.out, c.put_number-middle.ensures.next, c.put_number-middle.auto.out, c.put_text-r.ensures.next, c.put_text-r.auto.out)

pub put_byte-requires : goal.put_byte-requires
put_byte-requires c =
    let few = few_digits 4 c.args.number (omega arith) in
    let fewer = few_digits 4 c.args.row (omega arith) in
    omega (
      arith,
      c.requires,
      c.put_text-c.ensures.next,
      c.put_text-c.auto.out,
      c.put_number-middle.ensures.next,
      c.put_number-middle.auto.out,
      c.put_text-r.ensures.next,
      c.put_text-r.auto.out,
      c.put_number-end.ensures.next,
      c.put_number-end.auto.out,
    )

pub returns : goal.returns
returns c =
    let a = c.args in
    let long = length_refusal a.number a.row in
    let few = few_digits 4 a.number (omega arith) in
    let fewer = few_digits 4 a.row (omega arith) in
    let room = c.requires in
    let all =
    puts_refusal a.number a.row a.out.now (omega arith) _ _ _ _ _ _ _ _ _ _ c.put_text-c.auto.out c.put_number-middle.auto.out c.put_text-r.auto.out
    c.put_text-c.ensures c.put_number-middle.ensures c.put_text-r.ensures c.put_number-end.ensures c.put_byte.ensures in
    (all, omega (arith, all.next, c.put_text-c.auto.out, c.put_number-middle.auto.out, c.put_text-r.auto.out, c.put_number-end.auto.out, c.put_byte.auto.out))
