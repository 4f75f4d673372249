-- The theorems to cite, each restated. Their proofs are in the files beside this one.
use mathlib.Core.Path.{◌≡◌}
use native.Mathlib.Omega.{arith}
use Prim.Native.Nat.{ℕ, suc, ◌+◌, ◌≤◌, ◌<◌}
use lib.Dec.{T}
use lib.ListN.{length, get_or}
use Rattle.rule.specs.Graph.{Graph, Same}
use Rattle.rule.specs.Wave.{wave, wave_count}
use Rattle.rule.specs.Reach.{edited, inverse, on_trail, trail, moved, around}
use Rattle.rule.specs.declared.Kind.{Kind}
use Rattle.rule.specs.declared.Kind.TheVariants.{Adding, Striking}
use Rattle.rule.proofs.Theorems.{trail_bound}
use Rattle.memory.specs.declared.Tally.{Tally}
use Rattle.memory.specs.Plan.{Slices, cap_fits, holds, PlanOf, Clashes}
use Rattle.memory.specs.Memory.{Memory, Ready}
use Rattle.memory.specs.PlanCells.{SameCells}
use Rattle.planner.specs.Calls.{memory_number, edit_number, refused, accepted}
use Rattle.planner.proofs.Outcomes.{acceptable, edited_banks}
use Rattle.planner.proofs.After as After
use Rattle.capped_edits.specs.Capped.{capped_number, capped_of}
use Rattle.edit_calls.specs.Calls.{edit, set_cap, with_cap}
use Rattle.capped_edits.proofs.Capped as Capped
use Rattle.edit_calls.proofs.Calls as Calls
use Rattle.edit_calls.proofs.EditCalls as EditCalls

-- 1. the calls add and strike of memory that holds the plan of G under a cap that fits, whichever clashes these are: they are the edit of G, refused or not
pub edit_of-law : {G : Graph} {m : Memory} → Ready G m → T (cap_fits m.tally) → (k : Kind) (a b : ℕ) → edit k a b m ≡ capped_of k G a b m
edit_of-law = EditCalls.edit_of-law

-- an edit to which no refusal is due
module _ (k : Kind) (G : Graph) (a b : ℕ) (m : Memory) (ready : Ready G m) (fits : T (cap_fits m.tally)) (due : capped_number m.tally.cap k G a b ≡ 0) where
  first : edit_number k G a b ≡ 0
  first = (Capped.capped_due m.tally.cap k G a b due).0

  -- is accepted, whatever the trail and moved slices held before,
  pub edit_accepted : edit k a b m ≡ accepted k G a b m
  edit_accepted = EditCalls.edit_accepted ready fits k a b due

  -- memory holds the plan of the new clashes afterwards,
  pub after_plan : PlanOf (edited k G a b) (edit k a b m).memory.slices (edit k a b m).memory.tally
  after_plan = rw edit_accepted (After.after_plan k G a b m ready first)

  -- passes questions 3 to 5 again,
  pub after_number : memory_number (edit k a b m).memory ≡ 0
  after_number = rw edit_accepted (EditCalls.after_number k a b ready fits due)

  -- and the stored waves are the rule's
  pub after_waves : (x : ℕ) → x < G.banks → get_or (edit k a b m).memory.slices.waves x 0 ≡ wave (edited k G a b) x
  after_waves = rw edit_accepted (After.after_waves k G a b m ready first)

  -- no plan cell of a bank off the trail differs
  pub off_trail_cells : (x : ℕ) → x < G.banks → (T (on_trail k G (edited k G a b) a b x) → ⊥) → SameCells m.slices (edit k a b m).memory.slices x
  off_trail_cells = rw edit_accepted (After.off_trail_cells k G a b m ready first)

  -- the counts are those of the definitions, which the old and the new clashes give
  pub trail_count-law : (edit k a b m).answer.trail ≡ length (trail k G (edited k G a b) a b)
  unfolding accepted
  trail_count-law = rw edit_accepted

  pub moved_count-law : (edit k a b m).answer.moved ≡ length (moved G (edited k G a b))
  unfolding accepted
  moved_count-law = rw edit_accepted

  -- the trail count is at most the size of the set made of a, b, the moved banks and all neighbours of these after the edit
  pub trail_count_bound : (edit k a b m).answer.trail ≤ length (around G (edited k G a b) a b)
  trail_count_bound =
      let ok = acceptable G a b k first in
      let same = edited_banks k G a b in
      omega (arith, trail_count-law, trail_bound k G (edited k G a b) a b (omega (arith, ok.bank_a)) (omega (arith, ok.bank_b)))

-- 2. no refusal is due exactly if none of 4 to 8 is, and the rule needs at most as many waves then as the cap; with a cap of 24 the latter is so
module _ (cap : ℕ) (k : Kind) (G : Graph) (a b : ℕ) where
  pub capped_due : capped_number cap k G a b ≡ 0 → (edit_number k G a b ≡ 0) × (wave_count (edited k G a b) ≤ cap)
  capped_due = Capped.capped_due cap k G a b

  pub due_capped : edit_number k G a b ≡ 0 → wave_count (edited k G a b) ≤ cap → capped_number cap k G a b ≡ 0
  due_capped = Capped.due_capped cap k G a b

  pub capped_wide : Clashes G → 24 ≤ cap → capped_number cap k G a b ≡ edit_number k G a b
  capped_wide = Capped.capped_wide cap k G a b

-- 3. two such edits from the same old clashes to the same new ones get the same answer: number, moved count and trail count
pub same_reach : {G G' : Graph} {m m' : Memory} → Ready G m → Ready G' m' → T (cap_fits m.tally) → T (cap_fits m'.tally) → (k k' : Kind) (a b a' b' : ℕ)
    → capped_number m.tally.cap k G a b ≡ 0 → capped_number m'.tally.cap k' G' a' b' ≡ 0 → Same G G' → Same (edited k G a b) (edited k' G' a' b')
    → (edit k a b m).answer ≡ (edit k' a' b' m').answer
same_reach = EditCalls.same_reach

-- 4. an accepted edit and then its inverse, which is accepted too, give back the plan cell by cell, and the tally
module _ (k : Kind) (a b : ℕ) (m : Memory) (done : (edit k a b m).answer.number ≡ 0) where
  pub inverse_accepted : (edit (inverse k) a b (edit k a b m).memory).answer.number ≡ 0
  inverse_accepted = EditCalls.back_accepted k a b m done

  pub inverse_slices : (edit (inverse k) a b (edit k a b m).memory).memory.slices ≡ m.slices
  inverse_slices = EditCalls.back_slices k a b m done

  pub inverse_tally : (edit (inverse k) a b (edit k a b m).memory).memory.tally ≡ m.tally
  inverse_tally = EditCalls.back_tally k a b m done

  -- the cap stays, and the waves do not pass it
  pub accepted_cap : (edit k a b m).memory.tally.cap ≡ m.tally.cap
  accepted_cap = EditCalls.accepted_cap k a b m done

  pub accepted_waves : (edit k a b m).memory.tally.waves ≤ m.tally.cap
  accepted_waves = EditCalls.accepted_waves k a b m done

  -- it is the edit of the plan that memory holds, to which no refusal was due
  pub accepted_edit : EditCalls.Accepted k a b m
  accepted_edit = EditCalls.accepted_edit k a b m done

-- 5. an accepted add makes the tally's clashes one more, an accepted strike one less
module _ (a b : ℕ) (m : Memory) where
  pub add_clashes : (edit Adding a b m).answer.number ≡ 0 → (edit Adding a b m).memory.tally.clashes ≡ m.tally.clashes + 1
  add_clashes = EditCalls.add_clashes a b m

  pub strike_clashes : (edit Striking a b m).answer.number ≡ 0 → m.tally.clashes ≡ (edit Striking a b m).memory.tally.clashes + 1
  strike_clashes = EditCalls.strike_clashes a b m

-- 6. a refused call leaves all as it was, and its answer is the number with counts 0
pub refused_same : (k : Kind) (a b : ℕ) (m : Memory) (c : ℕ) → (edit k a b m).answer.number ≡ suc c → edit k a b m ≡ refused (suc c) m
refused_same = EditCalls.refused_same

-- 7. memory whose cap was set holds the same plan, and passes question 5 again
module _ (cap : ℕ) (s : Slices) (t : Tally) (done : (set_cap cap s t).number ≡ 0) where
  pub cap_tally : (set_cap cap s t).tally ≡ with_cap cap t
  cap_tally = Calls.cap_tally cap s t done

  pub cap_holds : T (holds s (set_cap cap s t).tally)
  cap_holds = Calls.cap_holds cap s t done

-- where it is refused, the tally is as it was
pub cap_refused : (cap : ℕ) (s : Slices) (t : Tally) (c : ℕ) → (set_cap cap s t).number ≡ suc c → (set_cap cap s t).tally ≡ t
cap_refused = Calls.cap_refused
