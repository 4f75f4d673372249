-- `judge` meets its contract, test by test.
use Rattle.sheet_reader.proofs.Accepted.{two_named}
use Rattle.sheet_reader.proofs.Answers.{clash_found, many_waves, kept_apart, none_first, none_second}
use mathlib.Core.Path.{refl}
use Rattle.sheet_reader.proofs.judge.Goals as goal

pub returns-in-Some : goal.returns-in-Some
returns-in-Some c =
    let pair = c.in-Some.ensures in
    record {
      judged = record { number = clash_found _ _ _ _ pair.clash; line = refl; first = pair.first_is; second = pair.second_is };
      kind = two_named _ _ c.requires.rowed pair;
    }

pub returns-then-tally-k-clause-judged : goal.returns-then-tally-k-clause-judged
returns-then-tally-k-clause-judged c =
    let none = c.in_default.ensures in
    record { number = many_waves _ _ _ _ none c.if-tally-k.true; line = refl; first = none_first _ _ none; second = none_second _ _ none }

pub returns-clause-judged : goal.returns-clause-judged
returns-clause-judged c =
    let none = c.in_default.ensures in
    record { number = kept_apart _ _ _ _ none c.if-tally-k.false; line = refl; first = none_first _ _ none; second = none_second _ _ none }
