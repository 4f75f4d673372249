-- The sum of the first degrees, by the library and by the definition.
use Rattle.std.proofs.Common.{rules, arith, ◌≡◌, ◌+◌, ◌≤◌, ◌<◌, ℕ, zero, suc, List, length, get_or, take, sym, ap, ◌∙◌}
use Rattle.std.specs.List.{sum_by}
use Rattle.std.proofs.iter.runs.Made.{chains}
use Rattle.std.proofs.lemmas.List.Sums.{sum_by_more}
use Rattle.memory.specs.inner.Test.{sum}
use Rattle.memory.proofs.Sums.{sum_none, sum_next, sum_below}
use Rattle.plan_test.proofs.test.degree_sum.Goals as goal

front : (ds : List ℕ) (n : ℕ) → n ≤ length ds → sum_by (λ x. x) (take n ds) ≡ sum ds n
front ds zero h = sum_none ds
front ds (suc n) h =
    let e : suc n ≡ n + 1 = omega arith in
    rw e (sum_by_more (λ x. x) ds n 0 (omega arith) ∙ ap (λ k. k + get_or ds n 0) (front ds n (omega arith)) ∙ sym (sum_next ds n))

pub sum-requires : goal.sum-requires
sum-requires c =
    let ds = c.args.degrees.now in
    let n = c.from.result in
    let few : n ≤ c.args.banks = omega (arith, c.from.ensures) in
    let fits : sum_by (λ x. x) (take n ds) < 65536 = omega (arith, front ds n (omega (arith, c.requires.long)), sum_below ds n c.args.banks few c.requires.small) in
    search (rules, chains)

pub returns : goal.returns
returns c =
    let ds = c.args.degrees.now in
    let n = c.from.result in
    let e : c.sum.result ≡ sum_by (λ x. x) (take n ds) = search (rules, chains) in
    e ∙ front ds n (omega (arith, c.from.ensures)) ∙ ap (sum ds) c.from.ensures
