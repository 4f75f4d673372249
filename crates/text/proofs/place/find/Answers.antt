-- The place in the rest is the count of the bytes before the first c.
use Rattle.std.proofs.Common.{rules, arith, length, eqb, drop, ◌∙◌}
use borrow.Author.Tests.{tests}
use Rattle.std.proofs.lemmas.Iterator.{YieldsList-from_slice}
use Rattle.std.proofs.lemmas.Iterator.Search.{position_from_yields_List}
use Rattle.std.proofs.lemmas.Slice.{between_to_end}
use Rattle.text.proofs.Places.{found, absent}
use Rattle.text.proofs.place.find.Goals as goal

pub returns-in-Some : goal.returns-in-Some
returns-in-Some c =
    let a = c.args in
    let rest = drop a.from a.s.now in
    let is = c.iter.ensures.rest ∙ between_to_end a.s.now a.from (length a.s.now) (omega arith) in
    let e =
    position_from_yields_List (λ x. eqb x a.c) _ _ c.position.result c.position.ensures.ran (YieldsList-from_slice rest is) (λ x b q k. search (rules, tests)) in
    found a.s.now a.from a.c c.requires _ _ e c.in-Some.is

pub returns-in-None : goal.returns-in-None
returns-in-None c =
    let a = c.args in
    let rest = drop a.from a.s.now in
    let is = c.iter.ensures.rest ∙ between_to_end a.s.now a.from (length a.s.now) (omega arith) in
    let e =
    position_from_yields_List (λ x. eqb x a.c) _ _ c.position.result c.position.ensures.ran (YieldsList-from_slice rest is) (λ x b q k. search (rules, tests)) in
    absent a.s.now a.from a.c c.requires _ e c.in-None.is
