-- The cells so far are counted.
use Rattle.std.proofs.Common.{◌≡◌, take}
use Rattle.std.specs.List.{count_by}
use Rattle.plan_test.proofs.Counted.{is_unused}
use Rattle.plan_test.proofs.test.rest_unused.Given as goal

abbrev pub invariant-loop-cell : goal.invariant-loop-cell
invariant-loop-cell l = l.unused ≡ count_by is_unused (take l.cell-index l.row)
