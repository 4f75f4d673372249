-- Memory that holds the plan of given clashes, and what an edit makes of it: what a layer above goes by.
use Rattle.std.specs.Prelude.{Bool, false, not, List, [], ◌∷◌, ◌≡◌, ℕ, Result, zero, suc, ◌≤◌, ◌<◌, ltb, leb, set}
use Rattle.rule.specs.Graph.{Graph}
use Rattle.rule.specs.Reach.{edited}
use Rattle.rule.specs.declared.Kind.{Kind}
use Rattle.rule.specs.declared.Entry.{Entry}
use Rattle.rule.specs.declared.Entry.TheVariants.{Clash, Rank}
use Rattle.rule.specs.declared.refusal.Refusal.{Refusal}
use Rattle.rule.specs.Refusals.{number_in}
use Rattle.memory.specs.declared.Tally.{Tally}
use Rattle.memory.specs.Plan.{Slices, PlanOf, graph_in}
use Rattle.memory.specs.Memory.{Memory, Ready}
use Rattle.planner.specs.declared.Edited.{Edited}
use Rattle.planner.specs.Questions.{◌else◌, first_no}
use Rattle.planner.specs.States.{State, entry_number, enter, begin, begin_number}
use Rattle.planner.specs.Calls.{clash_questions, no_edit, edit_result, edit_number, edit_of}

-- memory holds the plan of the clashes that its rows name
abbrev pub PlanIn : Slices → Tally → Type 0
PlanIn s t = PlanOf (graph_in t.banks s) s t

abbrev pub ReadyIn : Memory → Type 0
ReadyIn m = Ready (graph_in m.tally.banks m.slices) m

-- the plan of some clashes
abbrev pub HoldsPlan : Memory → Type 0
HoldsPlan m = (G : Graph) × Ready G m

-- the number of an edit's questions about the clash and the degrees
abbrev pub clash_number : Kind → Bool → ℕ → ℕ → ℕ
clash_number k clash da db = first_no (clash_questions k clash da db)

-- by the number of the first no
unfoldable pub graph_by : ℕ → Kind → Graph → ℕ → ℕ → Graph
graph_by zero k G a b = edited k G a b
graph_by (suc c) k G a b = G

-- the clashes after an edit, refused or not
unfoldable pub graph_after : Kind → Graph → ℕ → ℕ → Graph
graph_after k G a b = graph_by (edit_number k G a b) k G a b

-- an edit of memory m that holds the plan of G left r and m': they are those of `edit_of`, and m' holds the plan after the edit
pub record EditMade (k : Kind) (G : Graph) (a b : ℕ) (m : Memory) (r : Edited) (m' : Memory) : Type 0 where
  pub is : edit_result r.answer m' ≡ edit_of k G a b m
  pub ready : Ready (graph_after k G a b) m'

-- the state of these clashes and this memory, where an edit has come or not
abbrev pub at : Bool → Graph → Memory → State
at begun G m = record { graph = G; memory = m; begun = begun }

-- no two banks clash; before the first edit that is so
abbrev pub Bare : Graph → Type 0
Bare G = (x y : ℕ) → x < G.banks → y < G.banks → G.clash x y ≡ false

abbrev pub Fresh : Bool → Graph → Type 0
Fresh begun G = begun ≡ false → Bare G

-- the plan of some clashes, at this point of a pass
abbrev pub HoldsState : Bool → Memory → Type 0
HoldsState begun m = (G : Graph) × Ready G m × Fresh begun G

-- the new state where the number is 0, else the old
unfoldable pub tried : ℕ → State → State → State
tried zero new old = new
tried (suc c) new old = old

-- memory m' is that of the state, and holds the plan of its clashes
pub record Stands (s : State) (m' : Memory) : Type 0 where
  pub memory : m' ≡ s.memory
  pub ready : Ready s.graph m'
  pub fresh : Fresh s.begun s.graph

-- an entry's rank is at most 9,999
abbrev pub RankFits : Entry → Type 0
RankFits (Clash k a b) = Unit {0}
RankFits (Rank b r) = r ≤ 9999

-- what entering asks: memory holds a plan, at this point of a pass, and a rank fits
pub record Enterable (begun : Bool) (e : Entry) (m : Memory) : Type 0 where
  pub held : HoldsState begun m
  pub fits : RankFits e

-- an entry got this number and left m'
pub record EntryDone (e : Entry) (s : State) (number : ℕ) (m' : Memory) : Type 0 where
  pub is : number ≡ entry_number e s
  pub stands : Stands (tried (entry_number e s) (enter e s) s) m'

-- the same of whichever plan the memory holds
pub record Enters (begun : Bool) (e : Entry) (m : Memory) (r : Edited) (m' : Memory) : Type 0 where
  pub of : (G : Graph) → Ready G m → Fresh begun G → EntryDone e (at begun G m) r.answer.number m'

-- the number of a rank's questions in a plan of n banks
abbrev pub rank_number : Bool → ℕ → ℕ → ℕ
rank_number begun b n = first_no ((not begun else 18) ∷ (ltb b n else 4) ∷ [])

-- by the number of the first no: the cells of ranks with that of b set to r, or as they were
unfoldable pub ranks_by : ℕ → ℕ → ℕ → List ℕ → List ℕ
ranks_by zero b r rs = set rs b r
ranks_by (suc c) b r rs = rs

-- a rank was set or refused
pub record RankDone (begun : Bool) (b r : ℕ) (t : Tally) (rs rs' : List ℕ) (e : Edited) : Type 0 where
  pub answer : e.answer ≡ no_edit (rank_number begun b t.banks)
  pub ranks : rs' ≡ ranks_by (rank_number begun b t.banks) b r rs
  pub tally : e.tally ≡ t

-- opening n banks got its number and left m', where question 4 is asked for all seven slices
pub record OpensAll (n : ℕ) (m : Memory) (r : Result Tally Refusal) (m' : Memory) : Type 0 where
  pub number : number_in r ≡ begin_number n m
  pub refused : (number_in r ≡ 0 → ⊥) → m' ≡ m
  pub opened : number_in r ≡ 0 → Stands (begin n m) m'

-- questions 3 and 4, the latter for trail and moved slices of these lengths
unfoldable pub room_number : ℕ → ℕ → ℕ → ℕ
room_number n trail moved = first_no ((leb n 1024 else 1) ∷ (leb n trail else 2) ∷ (leb n moved else 2) ∷ [])
