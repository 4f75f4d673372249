-- The head, the banks and the line feed, one after another.
use Rattle.crew_lines.proofs.Lines.{length_head, length_step}
use Rattle.crew_lines.specs.Lines.{head_text}
use Rattle.crew_lines.specs.inner.Cells.{lowest_in, step_in}
use Rattle.sheet_writer.specs.inner.Cells.{members_text}
use Rattle.text.proofs.Putting.{puts_three}
use lib.ListN.{get_or}
use mathlib.Core.List.{[], ◌∷◌}
use native.Mathlib.Omega.{arith}
use Rattle.crew_lines.proofs.line.put_step.Goals as goal

pub put_head-banks-requires : goal.put_head-banks-requires
put_head-banks-requires c =
    let a = c.args in
    let ws = a.waves.now in (
      c.requires.4 _ c.lowest-b.ensures.1,
      omega (
        arith,
        c.requires.3,
        length_step ws a.steps.now a.n a.k,
        length_head a.k (get_or ws c.lowest-b.result 0),
        length_head a.k (get_or ws (lowest_in a.steps.now a.k a.n) 0),
      ),
    )

pub put_members-feed-requires : goal.put_members-feed-requires
put_members-feed-requires c =
    let low = c.lowest-b in
    let a = c.args in
    let ws = a.waves.now in (
      c.requires.2,
      omega (
        arith,
        c.requires.3,
        length_step ws a.steps.now a.n a.k,
        length_head a.k (get_or ws low.result 0),
        length_head a.k (get_or ws (lowest_in a.steps.now a.k a.n) 0),
        c.put_head-banks.ensures.next,
        c.put_head-banks.auto.out,
      ),
    )

pub put_byte-requires : goal.put_byte-requires
put_byte-requires c =
    let low = c.lowest-b in
    let a = c.args in
    let ws = a.waves.now in
    omega (
      arith,
      c.requires.3,
      length_step ws a.steps.now a.n a.k,
      length_head a.k (get_or ws low.result 0),
      length_head a.k (get_or ws (lowest_in a.steps.now a.k a.n) 0),
      c.put_head-banks.ensures.next,
      c.put_head-banks.auto.out,
      c.put_members-feed.ensures.next,
      c.put_members-feed.auto.out,
    )

pub returns : goal.returns
unfolding step_in
returns c =
    let banks = c.put_members-feed in
    let a = c.args in
    let ws = a.waves.now in
    let ss = a.steps.now in
    let first = rw c.lowest-b.ensures.0 at c.put_head-banks.ensures in
    let long = length_step ws ss a.n a.k in
    let fits = c.requires.3 in
    puts_three (head_text a.k (get_or ws (lowest_in ss a.k a.n) 0)) (members_text ss a.k a.n) (10 ∷ []) a.at a.out.now (omega arith) _ _ _ _ _ _
    c.put_head-banks.auto.out first banks.ensures c.put_byte.ensures
