-- What an edit of memory that holds a plan leaves, refused and accepted.
use mathlib.Core.Bool.{◌&&◌, not}
use mathlib.Core.List.{[], ◌∷◌}
use mathlib.Core.Logic.{◌≢◌}
use mathlib.Core.Path.{◌≡◌, refl, sym, ap, ap₂, ◌∙◌}
use Prim.Native.Nat.{ℕ, zero, suc, ◌<◌}
use lib.Dec.{T, ltb, eqb}
use Rattle.rule.specs.Graph.{Graph, degree}
use Rattle.rule.specs.WorkList.{Allowed}
use borrow.Author.Tests.{ltb-true, eqb-false, not-true}
use Rattle.planner.specs.Questions.{first_no}
use Rattle.rule.specs.Reach.{edited}
use Rattle.rule.specs.declared.Kind.{Kind}
use Rattle.rule.specs.declared.Kind.TheVariants.{Adding, Striking}
use Rattle.memory.specs.declared.Tally.{Tally}
use Rattle.edits.specs.declared.edit.Accepted.{Accepted}
use Rattle.edits.specs.Edits.{HasRoom, Acceptable, Editable, Result}
use Rattle.planner.specs.declared.Answer.{Answer}
use Rattle.planner.specs.declared.Edited.{Edited}
use Rattle.memory.specs.Memory.{Memory}
use Rattle.planner.specs.Calls.{edit_result, no_edit, refused, accepted, clash_questions, edit_number, edit_by, edit_of}
use Rattle.memory.specs.Memory.{Ready}
use Rattle.planner.specs.inner.Held.{graph_by, graph_after, EditMade}
use Rattle.rule.proofs.Booleans.{t_along, both_true}
pub use Rattle.rule.proofs.Fixed.{edited_banks}
use Rattle.planner.proofs.Numbers.{none}

-- the number 0 says that no refusal is due
module _ (G : Graph) (a b : ℕ) where
  abbrev N : ℕ
  N = G.banks

  pub acceptable : (k : Kind) → edit_number k G a b ≡ 0 → Acceptable k G a b
  unfolding edit_number
  acceptable k e =
      let q = none (ltb a N && ltb b N) 3 (record { holds = not (eqb a b); number = 5 } ∷ clash_questions k (G.clash a b) (degree G a) (degree G b)) e in
      let r = none (not (eqb a b)) 4 (clash_questions k (G.clash a b) (degree G a) (degree G b)) q.1 in
      let u = both_true (ltb a N) (ltb b N) q.0 in
      let w = clashes k r.1 in
      record { bank_a = ltb-true a N u.0; bank_b = ltb-true b N u.1; differ = eqb-false a b (not-true (eqb a b) r.0); allowed = w.0; room = w.1 }
    where
      clashes : (k : Kind) → first_no (clash_questions k (G.clash a b) (degree G a) (degree G b)) ≡ 0 → Allowed k G a b × HasRoom k G a b
      clashes Adding e = unfold clash_questions in free (unfold clash_questions in e)
        where
          free : first_no (record { holds = not (G.clash a b); number = 6 } ∷ record { holds = ltb (degree G a) 23 && ltb (degree G b) 23; number = 8 } ∷ []) ≡ 0
              → (T (G.clash a b) → ⊥) × ((degree G a < 23) × (degree G b < 23))
          free e =
              let r = none (not (G.clash a b)) 5 (record { holds = ltb (degree G a) 23 && ltb (degree G b) 23; number = 8 } ∷ []) e in
              let u = none (ltb (degree G a) 23 && ltb (degree G b) 23) 7 [] r.1 in
              let w = both_true (ltb (degree G a) 23) (ltb (degree G b) 23) u.0 in
              (t_along (not-true (G.clash a b) r.0), (ltb-true (degree G a) 23 w.0, ltb-true (degree G b) 23 w.1))
      clashes Striking e = there (unfold clash_questions in e)
        where
          there : first_no (record { holds = G.clash a b; number = 7 } ∷ []) ≡ 0 → T (G.clash a b) × Unit {0}
          there e = (t_along (sym (none (G.clash a b) 6 [] e).0) tt, tt)

-- the same memory with this tally
abbrev pub with : Memory → Tally → Memory
with m t = record { slices = m.slices; tally = t; trail = m.trail; moved = m.moved }

-- refused: the number is not 0, the answer has it and memory is as it was
module _ (k : Kind) (G : Graph) (a b : ℕ) (m : Memory) where
  edit_by-law : (c : ℕ) → c ≡ edit_number k G a b → edit_by c k G a b m ≡ edit_of k G a b m
  unfolding edit_of
  edit_by-law c e = ap (λ (x : ℕ). edit_by x k G a b m) e

  after_by : (c : ℕ) → c ≡ edit_number k G a b → graph_by c k G a b ≡ graph_after k G a b
  unfolding graph_after
  after_by c e = ap (λ (x : ℕ). graph_by x k G a b) e

  pub edit_refused : Ready G m → (c : ℕ) → c ≡ edit_number k G a b → c ≢ 0 → (r : Edited) → r.answer ≡ no_edit c → r.tally ≡ m.tally
      → EditMade k G a b m r (with m r.tally)
  edit_refused ready zero e n r p q = absurd (n refl)
  edit_refused ready (suc c) e n r p q = record {
    is = ap₂ (λ (x : Answer) (t : Tally). edit_result x (with m t)) p q ∙ unfold edit_by refused in edit_by-law (suc c) e;
    ready = rw (q, ← (after_by (suc c) e)) (unfold graph_by in ready);
  }

-- accepted
module _ (k : Kind) {G : Graph} (a b : ℕ) {m : Memory} (ready : Ready G m) (e : 0 ≡ edit_number k G a b) where
  abbrev H : Graph
  H = edited k G a b

  pub editable : Editable k G m a b
  editable = record { acceptable = acceptable G a b k (sym e); ready = ready }

  module _ {is : Memory} {r : Accepted} (done : Result k G a b m is r) where
    abbrev answer : Answer
    answer = record { number = 0; moved = r.moved; trail = r.trail }

    is_accepted : edit_result answer is ≡ accepted k G a b m
    unfolding accepted
    is_accepted = λ i. record {
      answer = record { number = 0; moved = done.moved_count i; trail = done.trail_count i };
      memory = record { slices = done.slices i; tally = done.tally i; trail = done.trail i; moved = done.moved i };
    }

    pub edit_accepted : EditMade k G a b m (record { answer = answer; tally = is.tally }) is
    edit_accepted = record {
      is = is_accepted ∙ unfold edit_by in edit_by-law k G a b m 0 e;
      ready = rw (← (after_by k G a b m 0 e)) (unfold graph_by in done.ready);
    }
