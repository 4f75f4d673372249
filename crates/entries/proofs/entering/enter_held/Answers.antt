-- `enter_held`, entry by entry: an edit, or a rank.
use Rattle.entries.proofs.Queued.{idle_ranked, clash_begun, rank_begun}
use Rattle.planner.proofs.RanksSet.{clash_entered, rank_entered, ranks_wide, rank_of-law}
use Rattle.entries.proofs.entering.enter_held.Goals as goal

pub edit_placed-requires : goal.edit_placed-requires
edit_placed-requires c =
    record {
      holds_plan = (c.requires.enterable.held.0, c.requires.enterable.held.1);
      idle = c.requires.idle;
    }

pub rank_held-requires : goal.rank_held-requires
rank_held-requires c = ranks_wide c.requires.enterable.held.0 _ c.requires.enterable.held.1

pub returns-in-Clash : goal.returns-in-Clash
returns-in-Clash c =
    let is = c.in-Clash.is in record {
      enters = record { of = λ G h f. rw is (clash_entered _ _ _ _ G _ _ _ (c.edit_placed.ensures.edit_made G h) f) };
      idle_2 = c.edit_placed.ensures.idle_2;
      unranked_2 = λ f. absurd (clash_begun _ is f);
    }

pub returns-in-Rank : goal.returns-in-Rank
returns-in-Rank c =
    let is = c.in-Rank.is in
    let fits = rank_of-law is c.requires.enterable.fits in record {
      enters = record { of = λ G h f. rw is (rank_entered _ _ _ h f fits c.rank_held.ensures) };
      idle_2 = idle_ranked _ c.rank_held.ensures c.requires.idle c.requires.unranked;
      unranked_2 = λ f. c.requires.unranked (rank_begun _ is f);
    }
