-- The loop has compared the first i bytes.
use Rattle.shelf.specs.Names.{same}
use lib.ListN.{drop, length}
use mathlib.Core.Path.{◌≡◌}
use Rattle.shelf.proofs.names.same_bytes.Given as goal

abbrev pub invariant-loop-i : goal.invariant-loop-i
invariant-loop-i l = (same l.a l.b ≡ same (drop l.i l.a) (drop l.i l.b)) × (length l.a ≡ length l.b)
