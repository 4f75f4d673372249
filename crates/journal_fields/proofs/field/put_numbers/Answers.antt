-- `put_numbers` meets its contract: tag and length, edit number, and the two numbers.
use Rattle.journal_fields.proofs.Writing.{number_room, pair_room, pair_of, field_put}
use Rattle.journal_fields.specs.Fields.{two_bytes}
use native.Mathlib.Omega.{arith}
use Rattle.journal_fields.proofs.field.put_numbers.Goals as goal

pub put_text-after_head-requires : goal.put_text-after_head-requires
put_text-after_head-requires c = omega (arith, c.requires.0)

pub put_number-after_number-requires : goal.put_number-after_number-requires
put_number-after_number-requires c =
    let room = number_room c.args.numbered _ c.args.number c.args.x c.args.y _ _ c.requires.0 in
    (room _ c.value_bytes.ensures _ _ c.put_text-after_head.auto.out c.put_text-after_head.ensures, c.requires.1)

pub put_text-requires : goal.put_text-requires
unfolding two_bytes
put_text-requires c =
    pair_room c.args.numbered _ _ c.args.x c.args.y _ _ c.requires.0 _ c.value_bytes.ensures _ _ c.put_text-after_head.auto.out c.put_text-after_head.ensures _ _
    c.put_number-after_number.auto.journal c.put_number-after_number.ensures

pub returns : goal.returns
returns c =
    let four = pair_of _ _ _ _ (omega (arith, c.ranges.x)) (omega (arith, c.ranges.y)) c.to_le_bytes.ensures c.to_le_bytes-2.ensures in
    field_put c.args.numbered _ _ c.args.x c.args.y _ _ c.requires.0 _ c.value_bytes.ensures _ _ c.put_text-after_head.auto.out c.put_text-after_head.ensures _ _
    c.put_number-after_number.auto.journal c.put_number-after_number.ensures _ _ _ four c.put_text.ensures
