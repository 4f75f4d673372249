-- `write_poster_in` meets its contract: the bytes are written, and their length put.
use borrow.Author.Rules.{rules}
use Rattle.c_cells.proofs.Results.{value_is, result_same}
use Rattle.c_cells.proofs.Rooms.{roomed_some}
use Rattle.c_texts.proofs.Done.{text_done-law}
use Rattle.c_texts.specs.Texts.{text_call, text_of}
use Rattle.poster_lines.specs.Poster.{poster}
use Rattle.poster_writer.proofs.Theorems.{poster_fits}
use Rattle.wave_lines.proofs.Writing.{answer_most}
use Rattle.std.proofs.Common.{Ok, ◌≤◌, ap, arith}
use Rattle.c_texts.proofs.texts.write_poster_in.Goals as goal

pub returns-then-short-ne0 : goal.returns-then-short-ne0
unfolding text_call
returns-then-short-ne0 c = roomed_some _ _ _ _ c.room-short.ensures.number _ _ c.if-short-ne0.true

pub map-requires : goal.map-requires
map-requires c x is _ _ = let few : x ≤ 8200 = answer_most poster _ _ _ 8200 poster_fits (Ok x) _ (rw is at c.write_poster.ensures) in omega (arith, few)

pub returns : goal.returns
returns c =
    let same = result_same c.write_poster.result _ c.map.result c.map.ensures.cases (λ x q. value_is _ _ _ q (λ y p. search rules)) in
    rw (c.put_result.ensures.number, same)
    (text_done-law _ _ _ _ _ _ _ _ _ c.room-short.ensures.number c.if-short-ne0.false c.tally_in-tally.ensures (ap text_of c.write_poster.ensures)
    (rw (← same) c.put_result.ensures.res))
