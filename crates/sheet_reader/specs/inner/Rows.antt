-- The pass over the rows: two clashing banks in one wave.
use Rattle.std.specs.Prelude.{true, ◌&&◌, not, List, [], ◌∷◌, ◌≡◌, ℕ, eqb, leb}
use Rattle.rule.specs.Graph.{Graph, neighbours}
use Rattle.memory.specs.Plan.{slices_of, graph_in}
use Rattle.planner.specs.Questions.{◌else◌, first_no}
use Rattle.sheet_reader.specs.Calls.{has_clash, any_clash, first_of, clash_first, clash_second, Verdict}

-- the clashes that the rows of n banks name
abbrev pub rows_in : ℕ → List ℕ → Graph
rows_in n ns = graph_in n (slices_of ns [] [] [] [])

-- a bank in the wave of b clashes with it, and this is the lowest
pub record PartnerOf (G : Graph) (w : ℕ → ℕ) (b bank : ℕ) : Type 0 where
  pub clash : has_clash G w b ≡ true
  pub bank_is : bank ≡ first_of (λ v. eqb (w v) (w b)) (neighbours G b)

-- two clashing banks are in one wave, and these are the lowest
pub record PairOf (G : Graph) (w : ℕ → ℕ) (first second : ℕ) : Type 0 where
  pub clash : any_clash G w ≡ true
  pub first_is : first ≡ clash_first G w
  pub second_is : second ≡ clash_second G w

-- the number of the last question
unfoldable pub clash_number : Graph → (ℕ → ℕ) → ℕ → ℕ → ℕ
clash_number G w k most = first_no ((not (any_clash G w) && leb k most else 27) ∷ [])

-- k waves w were judged, in a plan of `most`
pub record Judged (G : Graph) (w : ℕ → ℕ) (k most : ℕ) (r : Verdict) : Type 0 where
  pub number : r.number ≡ clash_number G w k most
  pub line : r.line ≡ 0
  pub first : r.first ≡ clash_first G w
  pub second : r.second ≡ clash_second G w
