-- The accepted edit of one clash, on memory that holds a plan.
use Rattle.std.specs.Prelude.{◌≡◌, ℕ, length}
use Rattle.rule.specs.Graph.{Graph}
use Rattle.rule.specs.Reach.{edited, trail as trailOf, moved as movedOf}
use Rattle.rule.specs.declared.Kind.{Kind}
use Rattle.memory.specs.Cells.{over}
use Rattle.memory.specs.Plan.{plan_in, tally_of}
use Rattle.memory.specs.Memory.{Memory, Ready}
pub use Rattle.neighbour_rows.specs.Acceptable.{HasRoom, Acceptable}
use Rattle.edits.specs.declared.edit.Accepted.{Accepted}

-- no refusal is due: the edit of a and b is acceptable, and memory holds the plan of G, with trail and moved slices long enough (questions 3 to 11)
pub record Editable (k : Kind) (G : Graph) (m : Memory) (a b : ℕ) : Type 0 where
  pub acceptable : Acceptable k G a b
  pub ready : Ready G m

-- memory went from the plan of G, in `was`, to that of H, in `is`; the cap stays; the trail and the moved list stand at the fronts of their slices, and
-- the answer is their lengths
pub record Outcome (k : Kind) (G H : Graph) (a b : ℕ) (was is : Memory) (r : Accepted) : Type 0 where
  pub slices : is.slices ≡ plan_in H was.slices
  pub tally : is.tally ≡ tally_of was.tally.cap H
  pub trail : is.trail ≡ over (trailOf k G H a b) was.trail
  pub moved : is.moved ≡ over (movedOf G H) was.moved
  pub trail_count : r.trail ≡ length (trailOf k G H a b)
  pub moved_count : r.moved ≡ length (movedOf G H)
  pub ready : Ready H is

-- what the edit of a and b left: H is G with that clash added or struck
abbrev pub Result : Kind → Graph → ℕ → ℕ → Memory → Memory → Accepted → Type 0
Result k G a b = Outcome k G (edited k G a b) a b
