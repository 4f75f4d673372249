-- `count_ranks` meets its contract: the ranks that pass the test are those that are entries.
use Rattle.std.proofs.Common.{◌≡◌, not, eqb, count_by, take, arith, rules, ◌∙◌}
use Rattle.std.proofs.lemmas.List.{length-take}
use Rattle.std.proofs.lemmas.List.Sums.{count_by-le-length}
use Rattle.journal.proofs.Ranks.{ranks_counted}
use Rattle.journal.proofs.start.count_ranks.Goals as goal

pub returns : goal.returns
returns c =
    let ranks = c.args.ranks.now in
    let e : c.count.result ≡ count_by (λ x. not (eqb x 0)) (take c.from.result ranks) = search rules in (
      rw c.from.ensures at e ∙ ranks_counted _ _ c.requires,
      omega (arith, e, count_by-le-length (λ x. not (eqb x 0)) (take c.from.result ranks), length-take c.from.result ranks, c.from.ensures),
    )
