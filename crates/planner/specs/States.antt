-- Where a pass over entries stands, a list's or a journal's: it opens a plan, then sets ranks and makes edits in turn.
use Rattle.std.specs.Prelude.{Bool, true, false, not, [], ◌∷◌, ℕ, ltb, leb}
use Rattle.rule.specs.Graph.{Graph, empty, ranked}
use Rattle.rule.specs.Reach.{edited}
use Rattle.rule.specs.declared.Kind.{Kind}
use Rattle.rule.specs.declared.Entry.{Entry}
use Rattle.rule.specs.declared.Entry.TheVariants.{Clash, Rank}
use Rattle.memory.specs.Plan.{plan_in, tally_of}
use Rattle.memory.specs.Memory.{Memory}
use Rattle.planner.specs.Questions.{◌else◌, first_no}
use Rattle.planner.specs.Calls.{all_long, edit_number, accepted}

-- the clashes and ranks so far, the memory that holds their plan, and whether an edit has come
pub record State : Type 0 where
  pub graph : Graph
  pub memory : Memory
  pub begun : Bool

-- an edit to which no refusal is due
unfoldable pub make : Kind → ℕ → ℕ → State → State
make k a b s = record { graph = edited k s.graph a b; memory = (accepted k s.graph a b s.memory).memory; begun = true }

-- the memory with the plan of G and this cap; trail and moved stay
abbrev pub planned : ℕ → Graph → Memory → Memory
planned cap G m = record { slices = plan_in G m.slices; tally = tally_of cap G; trail = m.trail; moved = m.moved }

-- the rank of b set to r
unfoldable pub set_rank : ℕ → ℕ → State → State
set_rank b r s =
    record { graph = ranked s.graph b r; memory = planned s.memory.tally.cap (ranked s.graph b r) s.memory; begun = s.begun }

-- has an edit come, once this entry has?
unfoldable pub begun_by : Entry → Bool → Bool
begun_by (Clash k a b) begun = true
begun_by (Rank b r) begun = begun

-- questions 7 to 11 of an edit; of a rank: has no edit come (02, N6), and question 7
unfoldable pub entry_number : Entry → State → ℕ
entry_number (Clash k a b) s = edit_number k s.graph a.0 b.0
entry_number (Rank b r) s = first_no ((not s.begun else 18) ∷ (ltb b.0 s.graph.banks else 4) ∷ [])

-- an entry to which no refusal is due
unfoldable pub enter : Entry → State → State
enter (Clash k a b) s = make k a.0 b.0 s
enter (Rank b r) s = set_rank b.0 r s

-- the plan of n banks and no clash, with a cap of 24
unfoldable pub begin : ℕ → Memory → State
begin n m = record { graph = empty n; memory = planned 24 (empty n) m; begun = false }

-- questions 3 and 4, the latter for all slices
unfoldable pub begin_number : ℕ → Memory → ℕ
begin_number n m = first_no ((leb n 1024 else 1) ∷ (all_long n m else 2) ∷ [])
