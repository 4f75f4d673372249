-- What the theorems on kept states speak of. Opening it aside, the shelf changes by keepings alone: every other call leaves it as it is.
use Rattle.std.specs.Prelude.{List, [], ◌∷◌, ◌≡◌, ℕ}
use Rattle.memory.specs.declared.Tally.{Tally}
use Rattle.rule.specs.Graph.{Graph}
use Rattle.memory.specs.Plan.{Slices, graph_in}
use Rattle.memory.specs.PlanCells.{plan_cells}
use Rattle.shelf.specs.Names.{place_of}
use Rattle.shelf.specs.Shelf.{place, slices_in}
use Rattle.checkpoints.specs.Calls.{keep, BackResult}

-- a call of keep: the name, the slices and the tally that it is lent
pub record Keeping : Type 0 where
  pub name : List ℕ
  pub slices : Slices
  pub tally : Tally

-- the shelf after these calls in turn, accepted or refused
unfoldable pub after_keepings : List Keeping → List ℕ → List ℕ
after_keepings [] shelf = shelf
after_keepings (k ∷ ks) shelf = after_keepings ks (keep k.name k.slices k.tally shelf).shelf

-- each of these calls that is accepted is of n banks, and under another name
pub record Other (n : ℕ) (name : List ℕ) (k : Keeping) : Type 0 where
  pub banks : k.tally.banks ≡ n
  pub differs : place_of k.name ≡ place_of name → ⊥

abbrev pub Others : ℕ → List ℕ → List Keeping → List ℕ → Type 0
Others n name [] shelf = Unit {0}
Others n name (k ∷ ks) shelf =
    let r = keep k.name k.slices k.tally shelf in
    (r.number ≡ 0 → Other n name k) × Others n name ks r.shelf

-- a call of come_back was accepted, and gave back the plan cells of n banks in s and the tally t, its cap included
pub record GivesBack (n : ℕ) (s : Slices) (t : Tally) (r : BackResult) : Type 0 where
  pub number : r.number ≡ 0
  pub cells : plan_cells n r.slices ≡ plan_cells n s
  pub tally : r.tally ≡ t

-- the clashes and ranks of the state that is kept under a name on a shelf of n banks
abbrev pub clashes_kept : ℕ → List ℕ → List ℕ → Graph
clashes_kept n name shelf = graph_in n (slices_in n (place n (place_of name) shelf))
