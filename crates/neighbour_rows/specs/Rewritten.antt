-- Rows and degrees after the edit of one clash.
use Rattle.std.specs.Prelude.{List, ◌≡◌, ℕ, ◌*◌}
use Rattle.rule.specs.Graph.{Graph, degree}
use Rattle.rule.specs.Reach.{edited}
use Rattle.rule.specs.declared.Kind.{Kind}
use Rattle.memory.specs.Cells.{Beyond}
use Rattle.memory.specs.inner.View.{Rowed}
use Rattle.neighbour_rows.specs.declared.clash.Degrees.{Degrees}
use Rattle.neighbour_rows.specs.Acceptable.{Acceptable}

-- rows and degrees are those of G after the edit of a and b, whose degrees before it are r
pub record Rewritten (k : Kind) (G : Graph) (a b : ℕ) (ns ds ns' ds' : List ℕ) (r : Degrees) : Type 0 where
  pub rowed : Rowed (edited k G a b) ns' ds'
  pub rows_beyond : Beyond (G.banks * 23) ns' ns
  pub degrees_beyond : Beyond G.banks ds' ds
  pub degree_a : r.a ≡ degree G a
  pub degree_b : r.b ≡ degree G b

-- the rows and degrees of some clashes, for which the edit of a and b is acceptable
abbrev pub Changeable : Kind → List ℕ → List ℕ → ℕ → ℕ → Type 0
Changeable k ns ds a b = (G : Graph) × Rowed G ns ds × Acceptable k G a b

-- they are rewritten, whichever clashes these are
abbrev pub ChangesClash : Kind → List ℕ → List ℕ → List ℕ → List ℕ → ℕ → ℕ → Degrees → Type 0
ChangesClash k ns ds ns' ds' a b r = (G : Graph) → Rowed G ns ds → Acceptable k G a b → Rewritten k G a b ns ds ns' ds' r
