-- The seeds of an edit: the banks that it takes up whatever the waves become.
use Rattle.std.specs.Prelude.{Bool, false, ◌&&◌, ◌||◌, not, List, ◌≡◌, ℕ, ◌<◌, get_or, take}
use Rattle.std.specs.Bool.{beq}
use Rattle.rule.specs.Lists.{memb}
use Rattle.rule.specs.Order.{earlier_by}
use Rattle.rule.specs.Graph.{Graph, neighbours, degree}
use Rattle.rule.specs.WorkList.{OneEdit, seed}
use Rattle.memory.specs.inner.Counts.{by_cells}
use Rattle.memory.specs.Plan.{Slices}
use Rattle.queue.specs.Queue.{waits}
use Rattle.neighbour_rows.specs.declared.clash.Degrees.{Degrees}
use Rattle.steps.specs.inner.Work.{Edit, new}
use Rattle.edits.specs.inner.Recount.{Recounting}

-- the order of x and y is not what it was when y had the degree d, by the cells of degrees and ranks
unfoldable pub turned_from : List ℕ → List ℕ → ℕ → ℕ → ℕ → Bool
turned_from ds rs d y x = not (beq (earlier_by (get_or ds x 0) (get_or rs x 0) x d (get_or rs y 0) y) (by_cells ds rs x y))

-- what the search for turned neighbours starts from: the clashes, Counts before the edit, and the queue's banks
pub record Search : Type 0 where
  pub graph : Graph
  pub counts : List ℕ
  pub given : ℕ → Bool

-- of the first i neighbours of y, which had the degree d, those whose order turned are queued, and Counts of all queued are counted anew
pub record Turning (from : Search) (s : Slices) (q : List ℕ) (n y d i : ℕ) : Type 0 where
  pub counts : Recounting from.graph s from.counts q n
  pub bank : y < n
  pub members : (x : ℕ) → x < n
      → waits from.graph q x ≡ (from.given x || (memb x (take i (neighbours from.graph y)) && turned_from s.degrees s.ranks d y x))

-- rows and degrees are those of the new clashes, a and b had these degrees before, and the queue is empty
pub record Seedable (e : Edit) (s : Slices) (q : List ℕ) (n : ℕ) (before : Degrees) : Type 0 where
  pub edit : OneEdit e.old (new e) e.a e.b
  pub counts : Recounting (new e) s s.counts q n
  pub empty : (x : ℕ) → x < n → waits (new e) q x ≡ false
  pub bank_a : e.a < n
  pub bank_b : e.b < n
  pub degree_a : before.a ≡ degree e.old e.a
  pub degree_b : before.b ≡ degree e.old e.b

-- the queue has the seeds, and their Counts are counted anew; the others are as in `was`
pub record Seeded (e : Edit) (s : Slices) (was q : List ℕ) (n : ℕ) : Type 0 where
  pub counts : Recounting (new e) s was q n
  pub seeds : (x : ℕ) → x < n → waits (new e) q x ≡ seed e.old (new e) e.a e.b x
