-- Opening a plan for a pass over edits: questions 3 and 4 for all seven slices.
use mathlib.Core.Bool.{Bool, true, false, cond, ◌&&◌}
use mathlib.Core.Path.{◌≡◌, refl, sym, ap, ◌∙◌}
use Prim.Native.Nat.{ℕ, zero, suc, ◌≤◌, ◌<◌}
use native.Mathlib.Omega.{arith}
use lib.Dec.{leb}
use lib.ListN.{length}
use borrow.Author.Tests.{le-leb, lt-leb, leb-true}
use Rattle.std.specs.Prelude.{Result, Err}
use Rattle.rule.specs.declared.refusal.Refusal.{Refusal}
use Rattle.rule.specs.Refusals.{number_of, number_in, value_or}
use Rattle.rule.proofs.Refusals.{refused_some}
use Rattle.memory.specs.declared.Tally.{Tally}
use Rattle.memory.specs.Plan.{Slices, long_enough}
use Rattle.memory.specs.Memory.{Memory}
use Rattle.planner.specs.Questions.{first_no}
use Rattle.planner.specs.Calls.{OpenResult, open_result, all_long, open_number, opened_by, opened}
use Rattle.planner.specs.States.{begin, begin_number}
use Rattle.planner.specs.inner.Held.{OpensAll, room_number}
use Rattle.planner.proofs.NoClash.{none_clash, opened_plan}

-- the number by the answers to questions 3 and 4, part by part
abbrev room_by : Bool → Bool → Bool → ℕ
room_by a t v = cond a (cond t (cond v 0 2) 2) 1

abbrev long_by : Bool → Bool → ℕ
long_by a l = cond a (cond l 0 2) 1

room_both : (a t v : Bool) → room_by a t v ≡ 0 → (t ≡ true) × (v ≡ true)
room_both true true true z = (refl, refl)
room_both true true false z = absurd (omega arith)
room_both true false v z = absurd (omega arith)
room_both false t v z = absurd (omega arith)

-- questions 3 and 4, as far as trail and moved go
module _ (n trail moved : ℕ) where
  pub room_many : 1024 < n → 1 ≡ room_number n trail moved
  unfolding room_number first_no
  room_many h = rw (lt-leb n 1024 h)

  pub room_trail : n ≤ 1024 → trail < n → 2 ≡ room_number n trail moved
  unfolding room_number first_no
  room_trail h k = rw (le-leb n 1024 h, lt-leb n trail k)

  pub room_moved : n ≤ 1024 → n ≤ trail → moved < n → 2 ≡ room_number n trail moved
  unfolding room_number first_no
  room_moved h j k = rw (le-leb n 1024 h, le-leb n trail j, lt-leb n moved k)

  pub room_none : n ≤ 1024 → n ≤ trail → n ≤ moved → 0 ≡ room_number n trail moved
  unfolding room_number first_no
  room_none h j k = rw (le-leb n 1024 h, le-leb n trail j, le-leb n moved k)

  room_yes : room_number n trail moved ≡ 0 → (n ≤ trail) × (n ≤ moved)
  unfolding room_number first_no
  room_yes z =
      let p = room_both (leb n 1024) (leb n trail) (leb n moved) z in
      (leb-true n trail p.0, leb-true n moved p.1)

-- a no of these decides; without one the plan's slices do
room_no : (a l t v : Bool) → (room_by a t v ≡ 0 → ⊥) → long_by a (l && (t && v)) ≡ room_by a t v
room_no true l true true n = absurd (n refl)
room_no true true true false n = refl
room_no true false true false n = refl
room_no true true false v n = refl
room_no true false false v n = refl
room_no false l t v n = refl

room_rest : (a l t v : Bool) → room_by a t v ≡ 0 → long_by a (l && (t && v)) ≡ long_by a l
room_rest true true true true z = refl
room_rest true false true true z = refl
room_rest true l true false z = absurd (omega arith)
room_rest true l false v z = absurd (omega arith)
room_rest false l t v z = absurd (omega arith)

module _ (n : ℕ) (m : Memory) where
  number_no : (room_number n (length m.trail) (length m.moved) ≡ 0 → ⊥) → begin_number n m ≡ room_number n (length m.trail) (length m.moved)
  unfolding begin_number all_long room_number first_no
  number_no z = room_no (leb n 1024) (long_enough n m.slices) (leb n (length m.trail)) (leb n (length m.moved)) z

  number_rest : room_number n (length m.trail) (length m.moved) ≡ 0 → begin_number n m ≡ open_number n m.slices
  unfolding begin_number all_long room_number open_number first_no
  number_rest z = room_rest (leb n 1024) (long_enough n m.slices) (leb n (length m.trail)) (leb n (length m.moved)) z

-- the memory after opening
abbrev after : Memory → OpenResult → Memory
after m p = record { slices = p.slices; tally = p.tally; trail = m.trail; moved = m.moved }

module _ (n : ℕ) (m : Memory) where
  -- trail or moved is too short, or there are too many banks
  pub room_refused : (r : Refusal) → number_of r ≡ room_number n (length m.trail) (length m.moved) → OpensAll n m (Err r) m
  room_refused r e = record {
    number = e ∙ sym (number_no n m (λ q. refused_some r (e ∙ q)));
    refused = λ f. refl;
    opened = λ q. absurd (refused_some r q);
  }

  by_opening : (k : ℕ) (p : OpenResult) → p ≡ opened_by k n m.slices m.tally
      → (p.number ≡ k) × ((k ≡ 0 → ⊥) → after m p ≡ m) × (k ≡ 0 → after m p ≡ (begin n m).memory)
  unfolding opened_by begin
  by_opening zero p q = (ap (λ (x : OpenResult). x.number) q, λ f. absurd (f refl), λ z. ap (after m) q)
  by_opening (suc c) p q = (ap (λ (x : OpenResult). x.number) q, λ f. ap (after m) q, λ z. absurd (omega arith))

  -- they are long enough: what opening the five plan slices does
  pub room_opened : 0 ≡ room_number n (length m.trail) (length m.moved) → (r : Result Tally Refusal) (s' : Slices)
      → open_result (number_in r) s' (value_or r m.tally) ≡ opened n m.slices m.tally
      → OpensAll n m r (after m (open_result (number_in r) s' (value_or r m.tally)))
  unfolding opened begin
  room_opened room r s' o =
      let b = by_opening (open_number n m.slices) (open_result (number_in r) s' (value_or r m.tally)) o in
      let p = room_yes n (length m.trail) (length m.moved) (sym room) in
      record {
        number = b.0 ∙ sym (number_rest n m (sym room));
        refused = λ f. b.1 (λ q. f (b.0 ∙ q));
        opened = λ q. record {
          memory = b.2 (sym b.0 ∙ q);
          ready = record { plan = opened_plan n m.slices m.tally (rw q at o); trail_room = p.0; moved_room = p.1 };
          fresh = λ f. none_clash n;
        };
      }
