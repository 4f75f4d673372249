-- `serve_day` meets its contract: the waves are counted, the steps before each added up, and those of the banks stored.
use Rattle.crews.proofs.Stored.{sizes_fit, servable, all_served}
use Rattle.crews.proofs.serving.serve_day.Goals as goal

pub first_steps-starts-requires : goal.first_steps-starts-requires
first_steps-starts-requires c =
    record {
      sizes = sizes_fit c.requires.few_each c.count_cells-sizes.ensures;
      crew = c.requires.crew;
    }

pub serve_banks-requires : goal.serve_banks-requires
serve_banks-requires c = servable c.requires.few_each c.count_cells-sizes.ensures c.requires.crew c.first_steps-starts.ensures c.requires.banks_in_bounds

pub returns : goal.returns
returns c = all_served c.requires.few_each c.count_cells-sizes.ensures c.requires.crew c.first_steps-starts.ensures c.serve_banks.ensures
