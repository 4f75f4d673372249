-- The calls add and strike of memory that holds the plan of G, whichever clashes these are: they are the edit of G.
use mathlib.Core.Bool.{Bool, ◌&&◌, ◌||◌, not}
use mathlib.Core.List.{List}
use mathlib.Core.Logic.{inl, inr}
use mathlib.Core.Path.{◌≡◌, refl, sym, ap, ap₂, ◌∙◌}
use native.Mathlib.Decide.{ℕ_discrete}
use native.Mathlib.Omega.{arith}
use Prim.Native.Nat.{ℕ, zero, suc, ◌+◌, ◌≤◌, ◌<◌}
use lib.Dec.{T}
use lib.ListN.{length}
use Rattle.rule.specs.Graph.{Graph, pair, added, struck, Same}
use Rattle.rule.specs.Wave.{wave_count}
use Rattle.rule.specs.Reach.{edited, inverse, changed, on_trail, trail, moved}
use Rattle.rule.specs.declared.Kind.{Kind}
use Rattle.rule.specs.declared.Kind.TheVariants.{Adding, Striking}
use Rattle.rule.proofs.Booleans.{lt_or_ge, t_along}
use Rattle.rule.proofs.Agree.{degree_agree}
use Rattle.rule.proofs.OneClash.{degrees_more, degrees_less, degree_added, degree_struck}
use Rattle.rule.proofs.Reaches.{ordered_few}
use Rattle.rule.proofs.Theorems.{trail_agree, moved_agree, trail_fixed}
use Rattle.memory.specs.declared.Tally.{Tally}
use Rattle.memory.specs.Plan.{tally_of, cap_fits, clash_count, graph_in, Clashes}
use Rattle.memory.specs.Memory.{Memory, Ready}
use Rattle.memory.proofs.ClashPairs.{clash_count_more}
use Rattle.memory.proofs.Fronts.{over_long}
use Rattle.memory.proofs.Question.{cap_fits-law, cap_parts}
use Rattle.memory.proofs.Theorems.{plan_in_agree, tally_agree, cells_give, holds_cap}
use Rattle.edits.specs.Edits.{Acceptable}
use Rattle.planner.specs.Calls.{EditResult, edit_result, no_edit, refused, memory_number, edit_number, accepted, edit_by}
use Rattle.capped_edits.specs.Capped.{cap_by, capped_number, capped_of}
use Rattle.edit_calls.specs.Calls.{checked_by, edit}
use Rattle.planner.proofs.Numbers.{far_a, far_b, one_bank, two_banks, memory_plan, held_number, memory_passed, number_ready, plan_passed}
use Rattle.planner.proofs.Outcomes.{acceptable, edited_banks}
use Rattle.planner.proofs.Made.{ready_banks}
use Rattle.planner.proofs.After.{after_plan, inverse_due, inverse_cells, inverse_tally}
use Rattle.capped_edits.proofs.Capped.{capped_due, due_capped}

-- the same clashes between the banks and the same ranks: the same questions, and the same edit
module _ {G H : Graph} (s : Same G H) where
  pub edited_same : (k : Kind) (a b : ℕ) → Same (edited k G a b) (edited k H a b)
  unfolding edited
  edited_same Adding a b = record { banks = s.banks; clash = λ x y lx ly. ap (λ (t : Bool). t || pair a b x y) (s.clash x y lx ly); rank = s.rank }
  edited_same Striking a b = record { banks = s.banks; clash = λ x y lx ly. ap (λ (t : Bool). t && not (pair a b x y)) (s.clash x y lx ly); rank = s.rank }

  pub number_agree : (k : Kind) (a b : ℕ) → edit_number k G a b ≡ edit_number k H a b
  number_agree k a b = elim (lt_or_ge a H.banks) [
    | inr g ↦ far_a G a b k (omega (arith, s.banks)) ∙ sym (far_a H a b k g)
    | inl l ↦ elim (lt_or_ge b H.banks) [
      | inr g ↦ far_b G a b k (omega (arith, s.banks)) (omega (arith, s.banks)) ∙ sym (far_b H a b k l g)
      | inl h ↦ named l h (ℕ_discrete a b)
    ]
  ]
    where
      named : a < H.banks → b < H.banks → Dec (a ≡ b) → edit_number k G a b ≡ edit_number k H a b
      named la lb (yes e) = one_bank G a b (omega (arith, s.banks)) (omega (arith, s.banks)) k e ∙ sym (one_bank H a b la lb k e)
      named la lb (no d) =
          two_banks G a b (omega (arith, s.banks)) (omega (arith, s.banks)) k d
          ∙ rw (s.clash a b la lb, degree_agree s a la, degree_agree s b lb) (sym (two_banks H a b la lb k d))

  waves_agree : (k : Kind) (a b : ℕ) → wave_count (edited k G a b) ≡ wave_count (edited k H a b)
  waves_agree k a b = unfold tally_of in ap (λ (t : Tally). t.waves) (tally_agree (edited_same k a b) 0)

  pub capped_agree : (cap : ℕ) (k : Kind) (a b : ℕ) → capped_number cap k G a b ≡ capped_number cap k H a b
  unfolding capped_number
  capped_agree cap k a b = ap₂ (λ (c w : ℕ). cap_by c w cap) (number_agree k a b) (waves_agree k a b)

  accepted_agree : (k : Kind) (a b : ℕ) (m : Memory) → a < H.banks → b < H.banks → accepted k G a b m ≡ accepted k H a b m
  unfolding accepted
  accepted_agree k a b m la lb =
      let n = edited_same k a b in
      let banks = sym (edited_banks k H a b) in
      rw (
        trail_agree s n banks k a b (omega (arith, edited_banks k H a b)) (omega (arith, edited_banks k H a b)),
        moved_agree s n banks,
        plan_in_agree n m.slices,
        tally_agree n m.tally.cap,
      )

  edit_agree : (k : Kind) (a b : ℕ) (m : Memory) → capped_of k G a b m ≡ capped_of k H a b m
  unfolding capped_of
  edit_agree k a b m = ap (λ (n : ℕ). edit_by n k G a b m) (capped_agree m.tally.cap k a b) ∙ by (capped_number m.tally.cap k H a b) refl
    where
      by : (n : ℕ) → capped_number m.tally.cap k H a b ≡ n → edit_by n k G a b m ≡ edit_by n k H a b m
      by zero e = let ok = acceptable H a b k (capped_due m.tally.cap k H a b e).0 in unfold edit_by in accepted_agree k a b m ok.bank_a ok.bank_b
      by (suc c) e = unfold edit_by in refl

-- memory that holds the plan of G under a cap that fits passes questions 3 to 5, and its rows name the clashes of G
module _ {G : Graph} {m : Memory} (ready : Ready G m) (fits : T (cap_fits m.tally)) where
  same_banks-law : m.tally.banks ≡ G.banks
  same_banks-law = ready_banks G m ready

  pub ready_number : memory_number m ≡ 0
  ready_number =
      memory_plan m (omega (arith, same_banks-law, ready.trail_room)) (omega (arith, same_banks-law, ready.moved_room))
      ∙ held_number G m.slices m.tally ready.plan fits

  rows_same : Same (graph_in m.tally.banks m.slices) G
  rows_same = cells_give m.slices m.tally G ready.plan

  -- so the call is the edit of G, refused or not
  pub edit_of-law : (k : Kind) (a b : ℕ) → edit k a b m ≡ capped_of k G a b m
  unfolding edit checked_by
  edit_of-law k a b = rw ready_number (edit_agree rows_same k a b m)

  pub edit_accepted : (k : Kind) (a b : ℕ) → capped_number m.tally.cap k G a b ≡ 0 → edit k a b m ≡ accepted k G a b m
  unfolding capped_of edit_by
  edit_accepted k a b due = edit_of-law k a b ∙ rw due

-- an accepted edit leaves memory that holds the plan of the new clashes, under the same cap, which fits it
module _ (k : Kind) {G : Graph} (a b : ℕ) {m : Memory} (ready : Ready G m) (fits : T (cap_fits m.tally)) (due : capped_number m.tally.cap k G a b ≡ 0) where
  abbrev H : Graph
  H = edited k G a b

  abbrev once : Memory
  once = (accepted k G a b m).memory

  abbrev first : edit_number k G a b ≡ 0
  first = (capped_due m.tally.cap k G a b due).0

  after_ready : Ready H once
  unfolding accepted trail moved
  after_ready =
      let same = edited_banks k G a b in
      record {
        plan = after_plan k G a b m ready first;
        trail_room =
            let few = ordered_few H (on_trail k G H a b) in
            omega (arith, ready.trail_room, over_long (trail k G H a b) once.trail m.trail (omega (arith, ready.trail_room)) refl);
        moved_room =
            let few = ordered_few H (changed G H) in
            omega (arith, ready.moved_room, over_long (moved G H) once.moved m.moved (omega (arith, ready.moved_room)) refl);
      }

  pub after_fits : T (cap_fits once.tally)
  unfolding accepted tally_of
  after_fits = let p = cap_parts m.tally fits in cap_fits-law once.tally p.0 p.1 (capped_due m.tally.cap k G a b due).1

  -- so it passes questions 3 to 5 again
  pub after_number : memory_number once ≡ 0
  after_number = ready_number after_ready after_fits

  -- and its inverse is accepted then: the plan before it had no more waves than the cap
  back_due : capped_number once.tally.cap (inverse k) H a b ≡ 0
  unfolding accepted tally_of
  back_due =
      let waves = ap (λ (t : Tally). t.waves) (inverse_tally k G a b m ready first) in
      due_capped m.tally.cap (inverse k) H a b (inverse_due k G a b m ready first) (omega (arith, waves, (cap_parts m.tally fits).2))

  inverse_of : edit (inverse k) a b (edit k a b m).memory ≡ accepted (inverse k) H a b once
  inverse_of =
      ap (λ (r : EditResult). edit (inverse k) a b r.memory) (edit_accepted ready fits k a b due)
      ∙ edit_accepted after_ready after_fits (inverse k) a b back_due

-- a call that is accepted is the edit of the plan that memory holds, to which no refusal was due
accepted_by : (c : ℕ) (k : Kind) (G : Graph) (a b : ℕ) (m : Memory) → (edit_by c k G a b m).answer.number ≡ 0 → (c ≡ 0) × (edit_by c k G a b m ≡ accepted k G a b m)
unfolding edit_by refused
accepted_by zero k G a b m e = (refl, refl)
accepted_by (suc c) k G a b m e = absurd (omega (arith, e))

module _ (k : Kind) (a b : ℕ) (m : Memory) where
  abbrev here : Graph
  here = graph_in m.tally.banks m.slices

  -- memory passed questions 3 to 5, no refusal was due, and the call is that edit
  pub record Accepted : Type 0 where
    pub ready : Ready here m
    pub fits : T (cap_fits m.tally)
    pub due : capped_number m.tally.cap k here a b ≡ 0
    pub is : edit k a b m ≡ accepted k here a b m

  call_by : (c : ℕ) → (checked_by c k a b m).answer.number ≡ 0 → (c ≡ 0) × ((capped_of k here a b m).answer.number ≡ 0) × (checked_by c k a b m ≡ capped_of k here a b m)
  unfolding checked_by refused
  call_by zero e = (refl, e, refl)
  call_by (suc c) e = absurd (omega (arith, e))

  pub accepted_edit : (edit k a b m).answer.number ≡ 0 → Accepted
  unfolding edit capped_of
  accepted_edit e =
      let q = call_by (memory_number m) e in
      let p = memory_passed m q.0 in
      let r = accepted_by (capped_number m.tally.cap k here a b) k here a b m q.1 in
      record {
        ready = number_ready m p.0 p.1 p.2;
        fits = holds_cap m.slices m.tally (t_along (sym (plan_passed m.slices m.tally p.2).plan) tt);
        due = r.0;
        is = q.2 ∙ r.1;
      }

-- an accepted call, then its inverse
module _ (k : Kind) (a b : ℕ) (m : Memory) (done : (edit k a b m).answer.number ≡ 0) where
  abbrev G : Graph
  G = graph_in m.tally.banks m.slices

  abbrev back : EditResult
  back = edit (inverse k) a b (edit k a b m).memory

  abbrev was : Accepted k a b m
  was = accepted_edit k a b m done

  back_is : back ≡ accepted (inverse k) (edited k G a b) a b (accepted k G a b m).memory
  back_is = inverse_of k a b was.ready was.fits was.due

  pub back_accepted : back.answer.number ≡ 0
  back_accepted = ap (λ (r : EditResult). r.answer.number) back_is ∙ unfold accepted in refl

  pub back_slices : back.memory.slices ≡ m.slices
  back_slices = ap (λ (r : EditResult). r.memory.slices) back_is ∙ inverse_cells k G a b m was.ready (capped_due m.tally.cap k G a b was.due).0

  pub back_tally : back.memory.tally ≡ m.tally
  back_tally = ap (λ (r : EditResult). r.memory.tally) back_is ∙ inverse_tally k G a b m was.ready (capped_due m.tally.cap k G a b was.due).0

  after_tally : (edit k a b m).memory.tally ≡ tally_of m.tally.cap (edited k G a b)
  unfolding accepted
  after_tally = ap (λ (r : EditResult). r.memory.tally) was.is

  -- the cap stays, and the waves after an accepted call do not pass it
  pub accepted_cap : (edit k a b m).memory.tally.cap ≡ m.tally.cap
  unfolding tally_of
  accepted_cap = ap (λ (t : Tally). t.cap) after_tally

  pub accepted_waves : (edit k a b m).memory.tally.waves ≤ m.tally.cap
  unfolding tally_of
  accepted_waves = omega (arith, ap (λ (t : Tally). t.waves) after_tally, (capped_due m.tally.cap k G a b was.due).1)

-- how many clashes there are then
module _ (G : Graph) (a b : ℕ) (good : Clashes G) where
  count_added : Acceptable Adding G a b → clash_count (edited Adding G a b) ≡ clash_count G + 1
  unfolding edited
  count_added ok =
      let free : T (G.clash b a) → ⊥ = λ t. ok.allowed (t_along (good.symmetric b a ok.bank_b ok.bank_a) t) in
      let r = degrees_more G a b ok.bank_a ok.bank_b ok.differ ok.allowed free in
      clash_count_more G (added G a b) a b refl ok.bank_a ok.bank_b ok.differ r.0 r.1 (degree_added G a b)

  count_struck : Acceptable Striking G a b → clash_count G ≡ clash_count (edited Striking G a b) + 1
  unfolding edited
  count_struck ok =
      let there = t_along (good.symmetric a b ok.bank_a ok.bank_b) ok.allowed in
      let r = degrees_less G a b ok.bank_a ok.bank_b ok.differ ok.allowed there in
      clash_count_more (struck G a b) G a b refl ok.bank_a ok.bank_b ok.differ r.0 r.1 (λ x da db. sym (degree_struck G a b x da db))

module _ (a b : ℕ) (m : Memory) where
  abbrev rows : Graph
  rows = graph_in m.tally.banks m.slices

  -- the tally's clashes are those of the plan, before an accepted edit and after it
  tally_counts : (k : Kind) → (edit k a b m).answer.number ≡ 0
      → (m.tally.clashes ≡ clash_count rows) × ((edit k a b m).memory.tally.clashes ≡ clash_count (edited k rows a b))
  unfolding accepted tally_of
  tally_counts k done =
      let r = accepted_edit k a b m done in
      (ap (λ (t : Tally). t.clashes) r.ready.plan.tally, ap (λ (e : EditResult). e.memory.tally.clashes) r.is)

  ok : (k : Kind) → (edit k a b m).answer.number ≡ 0 → Acceptable k rows a b
  ok k done = acceptable rows a b k (capped_due m.tally.cap k rows a b (accepted_edit k a b m done).due).0

  pub add_clashes : (edit Adding a b m).answer.number ≡ 0 → (edit Adding a b m).memory.tally.clashes ≡ m.tally.clashes + 1
  add_clashes done =
      let n = tally_counts Adding done in
      omega (arith, n.0, n.1, count_added rows a b (accepted_edit Adding a b m done).ready.plan.clashes (ok Adding done))

  pub strike_clashes : (edit Striking a b m).answer.number ≡ 0 → m.tally.clashes ≡ (edit Striking a b m).memory.tally.clashes + 1
  strike_clashes done =
      let n = tally_counts Striking done in
      omega (arith, n.0, n.1, count_struck rows a b (accepted_edit Striking a b m done).ready.plan.clashes (ok Striking done))

-- two edits from the same old clashes to the same new ones, under caps that they do not pass, get the same answer
module _ {G G' : Graph} {m m' : Memory} (ready : Ready G m) (ready' : Ready G' m') (fits : T (cap_fits m.tally)) (fits' : T (cap_fits m'.tally)) where
  pub same_reach : (k k' : Kind) (a b a' b' : ℕ) → capped_number m.tally.cap k G a b ≡ 0 → capped_number m'.tally.cap k' G' a' b' ≡ 0
      → Same G G' → Same (edited k G a b) (edited k' G' a' b') → (edit k a b m).answer ≡ (edit k' a' b' m').answer
  same_reach k k' a b a' b' due due' old new =
      let ok = acceptable G a b k (capped_due m.tally.cap k G a b due).0 in
      ap (λ (r : EditResult). r.answer) (edit_accepted ready fits k a b due)
      ∙ answers
      (moved_agree old new (sym (edited_banks k' G' a' b')))
      (trail_fixed k k' a b a' b' ok.bank_a ok.bank_b ok.allowed old new)
      ∙ sym (ap (λ (r : EditResult). r.answer) (edit_accepted ready' fits' k' a' b' due'))
    where
      answers : moved G (edited k G a b) ≡ moved G' (edited k' G' a' b') → trail k G (edited k G a b) a b ≡ trail k' G' (edited k' G' a' b') a' b'
          → (accepted k G a b m).answer ≡ (accepted k' G' a' b' m').answer
      answers p q = unfold accepted in ap₂ (λ (x y : List ℕ). record { number = 0; moved = length x; trail = length y }) p q

-- a refused call leaves all as it was, and its answer is the number with counts 0
edit_same : (y : ℕ) (k : Kind) (G : Graph) (a b : ℕ) (m : Memory) (c : ℕ) → (edit_by y k G a b m).answer.number ≡ suc c → edit_by y k G a b m ≡ refused (suc c) m
unfolding edit_by accepted refused
edit_same zero k G a b m c e = absurd (omega (arith, e))
edit_same (suc d) k G a b m c e = ap (λ (z : ℕ). edit_result (no_edit z) m) e

call_same : (x : ℕ) (k : Kind) (a b : ℕ) (m : Memory) (c : ℕ) → (checked_by x k a b m).answer.number ≡ suc c → checked_by x k a b m ≡ refused (suc c) m
unfolding checked_by capped_of refused
call_same zero k a b m c e =
    let G = graph_in m.tally.banks m.slices in edit_same (capped_number m.tally.cap k G a b) k G a b m c e
call_same (suc d) k a b m c e = ap (λ (z : ℕ). edit_result (no_edit z) m) e

pub refused_same : (k : Kind) (a b : ℕ) (m : Memory) (c : ℕ) → (edit k a b m).answer.number ≡ suc c → edit k a b m ≡ refused (suc c) m
unfolding edit
refused_same k a b m c e = call_same (memory_number m) k a b m c e
