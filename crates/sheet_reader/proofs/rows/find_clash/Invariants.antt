-- No bank below b has a clashing bank in its wave.
use Prim.Native.Nat.{ℕ, ◌<◌}
use Rattle.sheet_parser.specs.inner.Lines.{wave_in}
use Rattle.sheet_reader.specs.Calls.{has_clash}
use Rattle.sheet_reader.specs.inner.Rows.{rows_in}
use mathlib.Core.Bool.{false}
use mathlib.Core.Path.{◌≡◌}
use Rattle.sheet_reader.proofs.rows.find_clash.Given as goal

abbrev pub invariant-loop-b : goal.invariant-loop-b
invariant-loop-b l = (x : ℕ) → x < l.b → has_clash (rows_in l.n l.neighbours) (wave_in l.cells) x ≡ false
