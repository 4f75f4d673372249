-- `try_edit`: refused at once, made, or made and unmade.
use Rattle.capped_edits.proofs.Unmade.{made_ready, first_refused, kept, unmade}
use Rattle.rule.proofs.Refusals.{refused_some}
use mathlib.Core.Path.{sym}
use Rattle.capped_edits.proofs.within.try_edit.Goals as goal

pub edit_alone-made-requires : goal.edit_alone-made-requires
edit_alone-made-requires c = c.requires

pub returns-then-made-ne0 : goal.returns-then-made-ne0
returns-then-made-ne0 c =
    let e = c.edit_alone-made.ensures in
    λ G ready. first_refused (e G ready) _ c.if-made-ne0.true

pub returns-in_default : goal.returns-in_default
returns-in_default c =
    let e = c.edit_alone-made.ensures in
    λ G ready. kept (e G ready) _ c.if-made-ne0.false (sym (c.in_default.ensures {u = tt}))

pub take_back-requires : goal.take_back-requires
take_back-requires c =
    let e = c.edit_alone-made.ensures in
    let p = c.requires in
    (_, made_ready (e p.0 p.1) c.if-made-ne0.false)

pub returns : goal.returns
returns c =
    let e = c.edit_alone-made.ensures in
    λ G ready.
    unmade (e G ready) ready c.if-made-ne0.false (c.take_back.ensures _ (made_ready (e G ready) c.if-made-ne0.false)) _ _
    c.in-Err.ensures (refused_some _) _ c.refuse.ensures
