-- `crew_fits` meets its contract.
use borrow.Author.Rules.{rules}
use Rattle.crews.specs.Calls.{crew_fits}
use Rattle.crews.proofs.crew_fits.Goals as goal

pub returns : goal.returns
unfolding crew_fits
returns c = rw (c.contains.ensures.value, c.new.ensures.start, c.new.ensures.end, c.new.ensures.exhausted) (search rules)
