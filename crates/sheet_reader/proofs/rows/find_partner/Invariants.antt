-- The banks of the row so far stand in other waves.
use Rattle.rule.specs.Graph.{neighbours}
use Rattle.sheet_parser.specs.inner.Lines.{wave_in}
use Rattle.sheet_reader.proofs.Clashes.{Scanned}
use Rattle.sheet_reader.specs.inner.Rows.{rows_in}
use lib.Dec.{eqb}
use Rattle.sheet_reader.proofs.rows.find_partner.Given as goal

abbrev pub invariant-loop-v : goal.invariant-loop-v
invariant-loop-v l = Scanned (λ v. eqb (wave_in l.cells v) (wave_in l.cells l.fn.b.0)) (neighbours (rows_in l.n l.neighbours) l.fn.b.0) l.v-index
