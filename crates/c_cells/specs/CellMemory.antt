-- What a caller in C lends, and how its cells carry the tally and the results.
use Rattle.std.specs.Prelude.{List, [], ◌∷◌, ℕ, zero, suc, leb, length, get_or}
use Rattle.memory.specs.declared.Tally.{Tally}
use Rattle.memory.specs.Cells.{over}
use Rattle.memory.specs.Plan.{Slices}
use Rattle.memory.specs.Memory.{Memory, memory_of}
use Rattle.planner.specs.Questions.{◌else◌, first_no}
use Rattle.planner.specs.Calls.{EditResult}

-- the cells of a tally slice
abbrev pub tally_size : ℕ
tally_size = 4

-- the tally that the front cells of its slice give
unfoldable pub tally_in : List ℕ → Tally
tally_in cells = record { banks = get_or cells 0 0; clashes = get_or cells 1 0; waves = get_or cells 2 0; cap = get_or cells 3 0 }

-- the cells of a tally
unfoldable pub tally_cells : Tally → List ℕ
tally_cells t = t.banks ∷ t.clashes ∷ t.waves ∷ t.cap ∷ []

-- 2 if a tally slice of so many cells is short, or a result slice of so many has fewer than the call needs; else 0
unfoldable pub short_number : ℕ → ℕ → ℕ → ℕ
short_number needed tally result = first_no ((leb tally_size tally else 2) ∷ (leb needed result else 2) ∷ [])

-- by the number for short slices: what the call leaves, or the refusal
unfoldable pub roomed : {A : Type 0} → ℕ → (ℕ → A) → A → A
roomed zero refusal done = done
roomed (suc c) refusal done = refusal (suc c)

-- what a call that edits is lent and leaves
pub record CellMemory : Type 0 where
  pub slices : Slices
  pub trail : List ℕ
  pub moved : List ℕ
  pub tally : List ℕ
  pub result : List ℕ

abbrev pub cells_of : Slices → List ℕ → List ℕ → List ℕ → List ℕ → CellMemory
cells_of slices trail moved tally result = record { slices = slices; trail = trail; moved = moved; tally = tally; result = result }

-- the memory that is lent
unfoldable pub memory_in : CellMemory → Memory
memory_in l = memory_of l.slices l.trail l.moved (tally_in l.tally)

-- the memory after a call, its tally and these results at the fronts of their slices
unfoldable pub leaving : Memory → List ℕ → CellMemory → CellMemory
leaving m results l =
    cells_of m.slices m.trail m.moved (over (tally_cells m.tally) l.tally) (over results l.result)

-- what a call on memory comes to: its number, its results, and the memory that it leaves
pub record Outcome : Type 0 where
  pub number : ℕ
  pub results : List ℕ
  pub memory : Memory

abbrev pub outcome : ℕ → List ℕ → Memory → Outcome
outcome number results memory = record { number = number; results = results; memory = memory }

-- what the same call on cells answers and leaves
pub record Answered : Type 0 where
  pub number : ℕ
  pub cells : CellMemory

abbrev pub answered : ℕ → CellMemory → Answered
answered number cells = record { number = number; cells = cells }

-- the outcome put into the cells
unfoldable pub done : Outcome → CellMemory → Answered
done o l = answered o.number (leaving o.memory o.results l)

-- a call on the memory that is lent, which needs so many result cells; or 2, and all as it was
unfoldable pub on_cells : ℕ → (Memory → Outcome) → CellMemory → Answered
on_cells needed call l =
    roomed (short_number needed (length l.tally) (length l.result)) (λ c. answered c l) (done (call (memory_in l)) l)

-- what an edit comes to: its results are the moved count and the trail count
abbrev pub edit_outcome : EditResult → Outcome
edit_outcome e = outcome e.answer.number (e.answer.moved ∷ e.answer.trail ∷ []) e.memory
