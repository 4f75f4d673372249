-- One entry to which no refusal is due: the number of clashes after it, and those that were made of a row of rows or entries.
use mathlib.Core.Bool.{false}
use mathlib.Core.List.{List, [], ◌∷◌, foldr}
use mathlib.Core.Path.{◌≡◌, refl, ap, ◌∙◌}
use Prim.Native.Nat.{ℕ, zero, suc, ◌+◌, ◌-◌, ◌≤◌}
use native.Mathlib.Omega.{arith}
use lib.ListN.{length, take, replicate, length-replicate}
use Rattle.rule.specs.Lists.{upto, filter}
use Rattle.rule.specs.Graph.{Graph, neighbours, degree, empty, ranked}
use Rattle.rule.specs.Reach.{edited}
use Rattle.rule.specs.declared.Kind.{Kind}
use Rattle.rule.specs.declared.Kind.TheVariants.{Adding, Striking}
use Rattle.rule.specs.declared.Entry.{Entry}
use Rattle.rule.specs.declared.Entry.TheVariants.{Clash, Rank}
use Rattle.memory.specs.declared.Tally.{Tally}
use Rattle.memory.specs.Plan.{Slices, clash_count, tally_of, PlanOf}
use Rattle.memory.specs.Memory.{Memory, memory_of, Ready}
use Rattle.planner.specs.Calls.{EditResult, edit_number, accepted}
use Rattle.edit_calls.specs.Calls.{with_cap, edit}
use Rattle.edit_calls.proofs.Calls.{recapped}
use Rattle.memory.proofs.Theorems.{widest_cap}
use Rattle.planner.specs.States.{State, make, set_rank, entry_number, enter}
use Rattle.planner.proofs.Outcomes.{edited_banks}
use Rattle.planner.proofs.Made.{Holding}
use Rattle.edit_calls.proofs.Theorems.{edit_accepted, capped_wide, add_clashes, strike_clashes}
use Rattle.journal_replay.specs.Ends.{after_entry}
use Rattle.totals.specs.Totals.{edit_total, entry_total, before}

-- the tally of a plan
module _ {G : Graph} {s : Slices} {t : Tally} (p : PlanOf G s t) where
  pub tally_clashes : t.clashes ≡ clash_count G
  unfolding tally_of
  tally_clashes = ap (λ (u : Tally). u.clashes) p.tally

  pub tally_banks : t.banks ≡ G.banks
  unfolding tally_of
  tally_banks = ap (λ (u : Tally). u.banks) p.tally

-- no clash
none_passes : (xs : List ℕ) → filter (λ x. false) xs ≡ []
unfolding filter
none_passes [] = refl
none_passes (x ∷ xs) = none_passes xs

no_sum : (f : ℕ → ℕ) → ((x : ℕ) → f x ≡ 0) → (xs : List ℕ) → foldr (λ b m. f b + m) 0 xs ≡ 0
no_sum f h [] = refl
no_sum f h (x ∷ xs) = omega (arith, h x, no_sum f h xs)

pub no_clash : (n : ℕ) → clash_count (empty n) ≡ 0
unfolding clash_count
no_clash n = omega (arith, no_sum (degree (empty n)) (λ b. unfold degree neighbours in ap length (none_passes (upto n))) (upto n))

-- the clashes after an edit of a plan
module _ (k : Kind) {G : Graph} {s : Slices} {t : Tally} (p : PlanOf G s t) (a b : ℕ) (due : edit_number k G a b ≡ 0) where
  -- memory with as long a trail and moved slice as are needed, and a cap of 24
  abbrev roomy : Memory
  roomy = memory_of s (replicate G.banks 0) (replicate G.banks 0) (with_cap 24 t)

  plan : PlanOf G s (with_cap 24 t)
  plan = recapped G s t 24 p

  ready : Ready G roomy
  ready =
      let room : G.banks ≤ length {A = ℕ} (replicate G.banks 0) = omega (arith, length-replicate {A = ℕ} G.banks 0) in
      record { plan = plan; trail_room = room; moved_room = room }

  is_accepted : edit k a b roomy ≡ accepted k G a b roomy
  is_accepted = edit_accepted k G a b roomy ready (widest_cap plan refl) (capped_wide 24 k G a b p.clashes (omega arith) ∙ due)

  number : (edit k a b roomy).answer.number ≡ 0
  unfolding accepted
  number = ap (λ (r : EditResult). r.answer.number) is_accepted

  count : (edit k a b roomy).memory.tally.clashes ≡ clash_count (edited k G a b)
  unfolding accepted tally_of
  count = ap (λ (r : EditResult). r.memory.tally.clashes) is_accepted

pub edit_count : (k : Kind) {G : Graph} {s : Slices} {t : Tally} (p : PlanOf G s t) (a b : ℕ) → edit_number k G a b ≡ 0
    → clash_count (edited k G a b) ≡ edit_total k (clash_count G)
unfolding edit_total
edit_count Adding p a b due =
    omega (arith, count Adding p a b due, add_clashes a b (roomy Adding p a b due) (number Adding p a b due), tally_clashes p)
edit_count Striking p a b due =
    omega (arith, count Striking p a b due, strike_clashes a b (roomy Striking p a b due) (number Striking p a b due), tally_clashes p)

-- a strike leaves one less
pub strike_count : {G : Graph} {s : Slices} {t : Tally} (p : PlanOf G s t) (a b : ℕ) → edit_number Striking G a b ≡ 0
    → clash_count G ≡ clash_count (edited Striking G a b) + 1
strike_count p a b due =
    omega (arith, count Striking p a b due, strike_clashes a b (roomy Striking p a b due) (number Striking p a b due), tally_clashes p)

-- what entries left: as many banks, these clashes and ranks, and this total
pub record Left (s : State) (n : ℕ) (G : Graph) (t : ℕ) : Type 0 where
  pub banks : s.graph.banks ≡ n
  pub graph : s.graph ≡ G
  pub count : clash_count s.graph ≡ t

-- a rank strikes and adds nothing
rank_count : (G : Graph) (b r : ℕ) → clash_count (ranked G b r) ≡ clash_count G
unfolding clash_count degree neighbours
rank_count G b r = refl

pub entry_left : (e : Entry) (s : State) → Holding s → entry_number e s ≡ 0
    → Left (enter e s) s.graph.banks (after_entry e s.graph) (entry_total e (clash_count s.graph))
unfolding enter entry_number make set_rank after_entry entry_total
entry_left (Clash k a b) s h z = record {
  banks = edited_banks k s.graph a.0 b.0;
  graph = refl;
  count = edit_count k h a.0 b.0 z;
}
entry_left (Rank b r) s h z = record { banks = refl; graph = refl; count = rank_count s.graph b.0 r }

-- those before the one refused: none before the first; and where a later one is refused, the first was made
module _ {A : Type 0} where
  pub before_none : (i c : ℕ) (xs : List A) → before i (suc c) i xs ≡ []
  unfolding before
  before_none i c xs = let e : i - i ≡ 0 = omega arith in ap (λ (n : ℕ). take n xs) e

  pub before_next : (i c place : ℕ) (x : A) (xs : List A) → ((c ≡ 0 → ⊥) → suc i ≤ place) → before i c place (x ∷ xs) ≡ x ∷ before (suc i) c place xs
  unfolding before
  before_next i zero place x xs h = refl
  before_next i (suc c) place x xs h =
      let l : suc i ≤ place = h (λ e. omega arith) in
      let e : place - i ≡ suc (place - suc i) = omega arith in
      ap (λ (n : ℕ). take n (x ∷ xs)) e
