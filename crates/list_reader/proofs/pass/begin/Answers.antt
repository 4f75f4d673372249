-- `begin` meets its contract: refused by opening, or the edits are read into the plan that was opened.
use Rattle.list_pass.proofs.Beginning.{begin_refused, opened_state, begin_passed}
use Rattle.rule.proofs.Refusals.{refused_some}
use mathlib.Core.List.{[]}
use mathlib.Core.Path.{refl}
use Rattle.list_reader.proofs.pass.begin.Goals as goal

pub returns-in-Err : goal.returns-in-Err
returns-in-Err c = record { is = rw c.from.ensures (begin_refused _ _ _ _ _ _ c.in-Err.ensures (refused_some _)) }

pub read_edits-requires : goal.read_edits-requires
read_edits-requires c =
    let p = c.requires in
    record { held = opened_state 0 _ [] _ _ _ c.in-Ok.ensures refl; few = p.few; later = p.later; inside = p.inside }

pub returns-in-Ok : goal.returns-in-Ok
returns-in-Ok c = record { is = begin_passed _ _ _ _ _ _ c.in-Ok.ensures refl _ c.read_edits.ensures.of }
