-- `replay_in` meets its contract: the call on the lent cells, and its results put.
use Rattle.c_cells.proofs.Calls.{refused, called}
use Rattle.c_texts.specs.Texts.{replay_outcome, replay_call}
use Rattle.std.proofs.Common.{ap, arith}
use Rattle.c_texts.proofs.sources.replay_in.Goals as goal

pub returns-then-short-ne0 : goal.returns-then-short-ne0
unfolding replay_call
returns-then-short-ne0 c = refused _ 2 _ _ c.room-short.ensures.number c.if-short-ne0.true

pub put_answer-requires : goal.put_answer-requires
put_answer-requires c = omega (arith, c)

pub returns : goal.returns
unfolding replay_call
returns c =
    called _ 2 _ _ c.room-short.ensures.number _ _ _ _ c.if-short-ne0.false c.tally_in-t.ensures (ap replay_outcome c.replay_core-made.ensures) c.put_answer.ensures.tally c.put_answer.ensures.res
