-- What a reader must believe of runs: Runs, Totals.
pub mod Runs
pub mod Totals
