-- The bytes passed are digits, and as many digits give a value below that power of ten.
use Prim.Native.Nat.{◌^◌, ◌<◌}
use Rattle.text.specs.Numbers.{digits, value_from}
use lib.ListN.{drop}
use mathlib.Core.Path.{◌≡◌}
use Rattle.text.proofs.number.read_digits.Given as goal

abbrev pub invariant-loop-x : goal.invariant-loop-x
invariant-loop-x l = (digits l.s ≡ digits (drop l.x-index l.s)) × (value_from 0 l.s ≡ value_from l.value (drop l.x-index l.s)) × (l.value < 10 ^ l.x-index)
