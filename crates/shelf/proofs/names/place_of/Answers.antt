-- `place_of`: name after name.
use Rattle.shelf.proofs.Bytes.{place_first, place_second, place_third, place_none}
use mathlib.Core.Path.{sym}
use native.Mathlib.Omega.{arith}
use Rattle.shelf.proofs.names.place_of.Goals as goal

pub returns-then-same_bytes : goal.returns-then-same_bytes
returns-then-same_bytes c = (place_first _ _ c.same_bytes.ensures c.if-same_bytes.true, omega arith)

pub returns-then-same_bytes-2 : goal.returns-then-same_bytes-2
returns-then-same_bytes-2 c = (place_second _ _ _ c.same_bytes.ensures c.if-same_bytes.false c.same_bytes-2.ensures c.if-same_bytes-2.true, omega arith)

pub returns-then-same_bytes-3 : goal.returns-then-same_bytes-3
returns-then-same_bytes-3 c = (
  place_third _ _ _ _ c.same_bytes.ensures c.if-same_bytes.false c.same_bytes-2.ensures c.if-same_bytes-2.false
      c.same_bytes-3.ensures c.if-same_bytes-3.true,
  omega arith,
)

pub returns : goal.returns
returns c =
    sym (place_none _ _ _ _ c.same_bytes.ensures c.if-same_bytes.false c.same_bytes-2.ensures c.if-same_bytes-2.false
    c.same_bytes-3.ensures c.if-same_bytes-3.false)
