-- The queue as rows come: no row changes the number of banks, and only a rank leaves the queue without ranks.
use mathlib.Core.Bool.{Bool, false}
use mathlib.Core.List.{List, [], ◌∷◌}
use mathlib.Core.Path.{◌≡◌, refl, sym, ◌∙◌, subst}
use Prim.Native.Nat.{ℕ, zero, suc}
use lib.Dec.{T}
use Rattle.rule.specs.Graph.{Graph, neighbours}
use Rattle.rule.specs.declared.Bank.{Bank}
use Rattle.rule.specs.declared.Kind.{Kind}
use Rattle.rule.specs.declared.Kind.TheVariants.{Striking}
use Rattle.rule.specs.declared.Entry.{Entry}
use Rattle.rule.specs.declared.Entry.TheVariants.{Clash, Rank}
use Rattle.rule.proofs.Fixed.{edited_banks}
use Rattle.memory.specs.Memory.{Memory, Ready}
use Rattle.queue.specs.Queue.{Idle}
use Rattle.planner.specs.declared.Edited.{Edited}
use Rattle.planner.specs.Calls.{edit_number}
use Rattle.planner.specs.States.{State, make, set_rank, begun_by, enter}
use Rattle.planner.specs.inner.Held.{HoldsState, graph_by, graph_after, EditMade, tried}
use Rattle.planner.proofs.Made.{ready_banks}
use Rattle.list_rows.specs.declared.row.Change.{Change}
use Rattle.list_rows.specs.declared.row.Change.TheVariants.{One, StrikeAll}
use Rattle.list_rows.specs.declared.row.Row.{Row}
use Rattle.list_rows.specs.declared.row.Row.TheVariants.{Banks, Edit, Unreadable, Retired}
use Rattle.list_pass.specs.declared.Step.{Step}
use Rattle.list_pass.specs.Pass.{started, strike_each, change, step}
use Rattle.list_pass.specs.inner.Steps.{change_begun, EditsRow}

-- after an edit, refused or not, there are as many banks
by_banks : (n : ℕ) (k : Kind) (G : Graph) (a b : ℕ) → (graph_by n k G a b).banks ≡ G.banks
unfolding graph_by
by_banks zero k G a b = edited_banks k G a b
by_banks (suc c) k G a b = refl

after_banks : (k : Kind) (G : Graph) (a b : ℕ) → (graph_after k G a b).banks ≡ G.banks
unfolding graph_after
after_banks k G a b = by_banks (edit_number k G a b) k G a b

pub edit_banks : {k : Kind} {G : Graph} {a b : ℕ} {m m' : Memory} {r : Edited} → EditMade k G a b m r m' → Ready G m → m'.tally.banks ≡ m.tally.banks
edit_banks {k} {G} {a} {b} {m} {m'} made ready =
    ready_banks (graph_after k G a b) m' made.ready ∙ after_banks k G a b ∙ sym (ready_banks G m ready)

-- so there are after a row
enter_banks : (e : Entry) (s : State) → (enter e s).graph.banks ≡ s.graph.banks
unfolding enter make set_rank
enter_banks (Clash k a b) s = edited_banks k s.graph a.0 b.0
enter_banks (Rank b r) s = refl

each_banks : (b : ℕ) (vs : List ℕ) (s : State) → (strike_each b vs s).graph.banks ≡ s.graph.banks
unfolding strike_each make
each_banks b [] s = refl
each_banks b (v ∷ vs) s = each_banks b vs (make Striking b v s) ∙ edited_banks Striking s.graph b v

change_banks : (c : Change) (s : State) → (change c s).graph.banks ≡ s.graph.banks
unfolding change
change_banks (One e) s = enter_banks e s
change_banks (StrikeAll b) s = each_banks b.0 (neighbours s.graph b.0) (started s)

step_banks : (r : Row) (s : State) → (step r s).graph.banks ≡ s.graph.banks
unfolding step
step_banks (Banks n) s = refl
step_banks (Edit c) s = change_banks c s
step_banks Unreadable s = refl
step_banks Retired s = refl

tried_banks : (n : ℕ) (r : Row) (s : State) → (tried n (step r s) s).graph.banks ≡ s.graph.banks
unfolding tried
tried_banks zero r s = step_banks r s
tried_banks (suc c) r s = refl

pub idle_row : {list : List ℕ} {v : Bool} {start i : ℕ} {begun : Bool} {m m' : Memory} {r : Step} {rs words : List ℕ}
    → EditsRow list v start i begun m r m' → HoldsState begun m → Idle m.tally.banks rs words → Idle m'.tally.banks rs words
idle_row {m = m} {m' = m'} {rs = rs} {words = words} done held idle =
    let stands = (done.of held.0 held.1 held.2).stands in
    let same = ready_banks _ m' stands.ready ∙ tried_banks _ _ _ ∙ sym (ready_banks held.0 m held.1) in
    subst (λ (n : ℕ). Idle n rs words) (sym same) idle

-- has an edit come?
pub one_begun : {c : Change} {e : Entry} (begun : Bool) → c ≡ One e → change_begun c begun ≡ false → begun_by e begun ≡ false
unfolding change_begun
one_begun begun is f = rw is at f

pub all_begun : {c : Change} {b : Bank} (begun : Bool) → c ≡ StrikeAll b → change_begun c begun ≡ false → ⊥
unfolding change_begun
all_begun begun is f = subst T (rw is at f) tt
