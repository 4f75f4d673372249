-- `apply` meets its contract, row by row: an entry, or all clashes of a bank.
use Rattle.list_edits.proofs.Queued.{one_begun, all_begun}
use Rattle.list_pass.proofs.Passing.{change_one, one_fits}
use Rattle.list_edits.proofs.change.apply.Goals as goal

pub enter_held-requires : goal.enter_held-requires
enter_held-requires c = record {
  enterable = record { held = c.requires.asks.held; fits = one_fits c.in-One.is c.requires.asks.fits };
  idle = c.requires.idle;
  unranked = c.requires.unranked;
}

pub strike_all-requires : goal.strike_all-requires
strike_all-requires c =
    record {
      holds_plan = (c.requires.asks.held.0, c.requires.asks.held.1);
      idle = c.requires.idle;
    }

pub returns-in-One : goal.returns-in-One
returns-in-One c =
    let is = c.in-One.is in
    record {
      applies = record { of = λ G h f. rw is (change_one _ G _ h f _ _ _ (c.enter_held.ensures.enters.of G h f)) };
      idle_after = c.enter_held.ensures.idle_2;
      unranked_after = λ f. c.enter_held.ensures.unranked_2 (one_begun _ is f);
    }

pub returns-in-StrikeAll : goal.returns-in-StrikeAll
returns-in-StrikeAll c =
    let is = c.in-StrikeAll.is in
    record {
      applies = record { of = λ G h f. rw is ((c.strike_all.ensures.strikes_all _).of G h f) };
      idle_after = c.strike_all.ensures.idle_after;
      unranked_after = λ f. absurd (all_begun _ is f);
    }
