-- The search for a wave: what it is lent, and what it has found on the way.
use Rattle.std.specs.Prelude.{List, [], ℕ, ◌<◌, length}
use Rattle.rule.specs.Graph.{Graph}
use Rattle.rule.specs.Lists.{upto, filter}
use Rattle.rule.specs.Wave.{waves}
use Rattle.memory.specs.Plan.{slices_of, graph_in}
use Rattle.memory.specs.inner.Counts.{by_cells, CountedTo}
use Rattle.memory.specs.inner.View.{Shown}

-- the clashes that the rows of n banks name, and their ranks
abbrev pub read_in : ℕ → List ℕ → List ℕ → Graph
read_in n ns rs = graph_in n (slices_of ns [] [] [] rs)

-- rows, degrees and ranks are those of the clashes that the rows name, and b is one of the n banks
pub record Readable (ns ds rs : List ℕ) (n b : ℕ) : Type 0 where
  pub shown : Shown (read_in n ns rs) ns ds rs
  pub bank : b < n

-- these 24 cells count the first k banks of b's row that are earlier than b, by their rule waves
abbrev pub HeldTo : List ℕ → List ℕ → List ℕ → ℕ → ℕ → List ℕ → ℕ → Type 0
HeldTo ns ds rs n b held k = CountedTo ns ds rs (waves (read_in n ns rs)) held b k

-- the place of b in the rule order, by the cells: how many of n banks are earlier
unfoldable pub place_of : List ℕ → List ℕ → ℕ → ℕ → ℕ
place_of ds rs n b = length (filter (λ v. by_cells ds rs v b) (upto n))
