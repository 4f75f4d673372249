-- What each call answers and leaves, of what it is lent (01, "Calls" and "The questions").
use Rattle.std.specs.Prelude.{Bool, ◌&&◌, not, List, [], ◌∷◌, ℕ, zero, suc, ltb, leb, eqb, length, Result, Ok, Err}
use Rattle.rule.specs.Graph.{Graph, degree, neighbours, empty}
use Rattle.rule.specs.Wave.{wave}
use Rattle.rule.specs.Reach.{edited, trail, moved}
use Rattle.rule.specs.declared.Kind.{Kind}
use Rattle.rule.specs.declared.Kind.TheVariants.{Adding, Striking}
use Rattle.rule.specs.declared.Wave.{Wave}
use Rattle.rule.specs.declared.refusal.Refusal.{Refusal}
use Rattle.memory.specs.declared.Tally.{Tally}
use Rattle.memory.specs.Cells.{over}
use Rattle.memory.specs.Plan.{Slices, long_enough, plan_in, tally_of, graph_in, holds}
use Rattle.memory.specs.Memory.{Memory}
use Rattle.planner.specs.declared.Answer.{Answer}
use Rattle.planner.specs.Questions.{Question, ◌else◌, first_no}

-- is each slice that a call of n banks uses long enough, trail and moved included?
unfoldable pub all_long : ℕ → Memory → Bool
all_long n m = long_enough n m.slices && (leb n (length m.trail) && leb n (length m.moved))

-- questions 3 and 4 of open
unfoldable pub open_number : ℕ → Slices → ℕ
open_number n s = first_no ((leb n 1024 else 1) ∷ (long_enough n s else 2) ∷ [])

-- questions 3 to 5 of a call that only reads
unfoldable pub plan_number : Slices → Tally → ℕ
plan_number s t = first_no ((leb t.banks 1024 else 1) ∷ (long_enough t.banks s else 2) ∷ (holds s t else 3) ∷ [])

-- questions 3 to 5 and 7 of a call that reads one bank
unfoldable pub bank_number : ℕ → Slices → Tally → ℕ
bank_number b s t =
    first_no ((leb t.banks 1024 else 1) ∷ (long_enough t.banks s else 2) ∷ (holds s t else 3) ∷ (ltb b t.banks else 4) ∷ [])

-- questions 3 to 5 of an edit
unfoldable pub memory_number : Memory → ℕ
memory_number m =
    first_no
    ((leb m.tally.banks 1024 else 1) ∷ (all_long m.tally.banks m else 2) ∷ (holds m.slices m.tally else 3) ∷ [])

-- questions 9 and 11 of an add, 10 of a strike, by whether the banks clash and by their degrees
unfoldable pub clash_questions : Kind → Bool → ℕ → ℕ → List Question
clash_questions Adding clash da db = (not clash else 6) ∷ (ltb da 23 && ltb db 23 else 8) ∷ []
clash_questions Striking clash da db = (clash else 7) ∷ []

-- questions 7 to 11 of an edit of the plan of G; the question of its cap comes after them, where a call asks it
unfoldable pub edit_number : Kind → Graph → ℕ → ℕ → ℕ
edit_number k G a b =
    first_no ((ltb a G.banks && ltb b G.banks else 4) ∷ (not (eqb a b) else 5) ∷ clash_questions k (G.clash a b) (degree G a) (degree G b))

-- what opening leaves
pub record OpenResult : Type 0 where
  pub number : ℕ
  pub slices : Slices
  pub tally : Tally

abbrev pub open_result : ℕ → Slices → Tally → OpenResult
open_result number slices tally = record { number = number; slices = slices; tally = tally }

-- by the number of the first no
unfoldable pub opened_by : ℕ → ℕ → Slices → Tally → OpenResult
opened_by zero n s t = open_result 0 (plan_in (empty n) s) (tally_of 24 (empty n))
opened_by (suc c) n s t = open_result (suc c) s t

-- the call open: the plan of n banks and no clash, with a cap of 24, or the number, and all as it was
unfoldable pub opened : ℕ → Slices → Tally → OpenResult
opened n s t = opened_by (open_number n s) n s t

-- what an edit leaves
pub record EditResult : Type 0 where
  pub answer : Answer
  pub memory : Memory

abbrev pub edit_result : Answer → Memory → EditResult
edit_result answer memory = record { answer = answer; memory = memory }

-- the answer of a refused edit: the number, counts 0
abbrev pub no_edit : ℕ → Answer
no_edit c = record { number = c; moved = 0; trail = 0 }

-- refused: that answer, and memory as it was
unfoldable pub refused : ℕ → Memory → EditResult
refused c m = edit_result (no_edit c) m

-- accepted: the plan of the new clashes; the cap as it was; the trail and the moved list at the fronts of their slices, and their lengths
unfoldable pub accepted : Kind → Graph → ℕ → ℕ → Memory → EditResult
accepted k old a b m =
    let new = edited k old a b in
    record {
      answer = record { number = 0; moved = length (moved old new); trail = length (trail k old new a b) };
      memory = record {
        slices = plan_in new m.slices;
        tally = tally_of m.tally.cap new;
        trail = over (trail k old new a b) m.trail;
        moved = over (moved old new) m.moved;
      };
    }

-- by the number of the first no
unfoldable pub edit_by : ℕ → Kind → Graph → ℕ → ℕ → Memory → EditResult
edit_by zero k G a b m = accepted k G a b m
edit_by (suc c) k G a b m = refused (suc c) m

-- an edit of memory that holds the plan of G
unfoldable pub edit_of : Kind → Graph → ℕ → ℕ → Memory → EditResult
edit_of k G a b m = edit_by (edit_number k G a b) k G a b m

-- by the number of the first no
unfoldable pub wave_by : ℕ → ℕ → Graph → ℕ
wave_by zero b G = wave G b
wave_by (suc c) b G = 0

-- the call wave of a bank: its rule wave, or 0 with the number
unfoldable pub wave_of : ℕ → Slices → Tally → ℕ
wave_of b s t = wave_by (bank_number b s t) b (graph_in t.banks s)

-- the wave that such a call answers, 0 where it is refused
abbrev pub wave_in : Result Wave Refusal → ℕ
wave_in (Ok w) = w.0
wave_in (Err e) = 0

-- by the number of the first no
unfoldable pub clashes_by : ℕ → ℕ → Graph → List ℕ
clashes_by zero b G = neighbours G b
clashes_by (suc c) b G = []

-- the call clashes of a bank: its neighbours, or nothing where the call wave of a bank gives a number
unfoldable pub clashes_of : ℕ → Slices → Tally → List ℕ
clashes_of b s t = clashes_by (bank_number b s t) b (graph_in t.banks s)
