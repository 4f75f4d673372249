-- `bench_ready`: an empty queue can serve any plan, so it can serve those with these ranks.
use Rattle.bench_edit.proofs.bench_ready.Goals as goal

pub place_by_rank-requires : goal.place_by_rank-requires
place_by_rank-requires c =
    let p = c.requires in record {
      banks_in_bounds = p.1;
      idle = c.reset.ensures.by_index _ _ p.0;
    }
