-- Memory that is long enough has room for each test, and the tests together are `Tested`.
use Rattle.std.proofs.Common.{rules}
use Rattle.memory.proofs.Plans.{long}
use Rattle.memory.proofs.Tested.{rows_of}
use Rattle.plan_test.proofs.Decided.{decided}
use Rattle.plan_test.proofs.test.is_plan.Goals as goal

pub rows_right-requires-clause-long_neighbours : goal.rows_right-requires-clause-long_neighbours
rows_right-requires-clause-long_neighbours c = (long _ _ c.requires.long).neighbours

pub rows_right-requires-clause-long_degrees : goal.rows_right-requires-clause-long_degrees
rows_right-requires-clause-long_degrees c = (long _ _ c.requires.long).degrees

pub all_under-requires : goal.all_under-requires
all_under-requires c = (long _ _ c.requires.long).waves

pub all_under-requires-then-all_under : goal.all_under-requires-then-all_under
all_under-requires-then-all_under c = (long _ _ c.requires.long).ranks

pub clashes_right-requires : goal.clashes_right-requires
clashes_right-requires c =
    let l = long _ _ c.requires.long in
    record {
      rows = rows_of c.requires.few l (search rules);
      waves_small = record { long = l.waves; small = search rules };
      long_counts = l.counts;
      long_ranks = l.ranks;
    }

pub degree_sum-requires : goal.degree_sum-requires
degree_sum-requires c =
    record {
      few = c.requires.few;
      long = (long _ _ c.requires.long).degrees;
      small = search rules;
    }

pub wave_count-requires-clause-banks_in_bounds : goal.wave_count-requires-clause-banks_in_bounds
wave_count-requires-clause-banks_in_bounds c = (long _ _ c.requires.long).waves

pub returns-then-tally-degree_sum : goal.returns-then-tally-degree_sum
returns-then-tally-degree_sum c = decided _ _ c.requires.few c.requires.long _ (search rules)

pub returns-else-tally-degree_sum : goal.returns-else-tally-degree_sum
returns-else-tally-degree_sum c = decided _ _ c.requires.few c.requires.long _ (search rules)
