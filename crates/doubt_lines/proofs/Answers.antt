-- What the calls answer, as far as a line needs it: waves that have a letter, and clashes that are banks.
use mathlib.Core.List.{List, []}
use mathlib.Core.Path.{◌≡◌, refl, sym, ◌∙◌}
use native.Mathlib.Decide.{ℕ_discrete}
use native.Mathlib.Omega.{arith}
use mathlib.Core.Logic.{inl, inr}
use Prim.Native.Nat.{ℕ, ◌≤◌, ◌<◌}
use lib.ListN.{length, get_or}
use Rattle.rule.specs.Graph.{Graph, neighbours}
use Rattle.rule.proofs.Booleans.{lt_or_ge}
use Rattle.rule.proofs.Neighbours.{degree_length, neighbours_in}
use Rattle.rule.proofs.Theorems.{wave_small}
use Rattle.rule.specs.Wave.{wave}
use Rattle.memory.specs.declared.Tally.{Tally}
use Rattle.memory.specs.Plan.{Slices, graph_in}
use Rattle.memory.specs.inner.View.{Held}
use Rattle.memory.proofs.Fronts.{in_cell}
use Rattle.memory.proofs.Theorems.{held_of}
use Rattle.planner.specs.Calls.{plan_number, bank_number, wave_of, clashes_of}
use Rattle.planner.proofs.Numbers.{number_plan, bank_refused, bank_far, bank_fine}
use Rattle.planner.proofs.Rows as Rows
use Rattle.direct_rule.specs.Calls.{direct_number, rule_wave_of}
use Rattle.direct_rule.proofs.Numbers as Numbers

module _ (s : Slices) (t : Tally) (b : ℕ) where
  abbrev G : Graph
  G = graph_in t.banks s

  -- memory that holds a plan, and one of its banks
  module _ (e : plan_number s t ≡ 0) (l : b < t.banks) where
    held : Held G s t.banks
    held = held_of G s t (number_plan s t e)

    inside : b < G.banks
    inside = omega (arith, held.banks)

    low : wave G b < 24
    low = omega (arith, wave_small G b inside ((number_plan s t e).clashes.few b inside))

  -- what a number of 0 says
  bank_passed : bank_number b s t ≡ 0 → (plan_number s t ≡ 0) × (b < t.banks)
  bank_passed z = go (ℕ_discrete (plan_number s t) 0)
    where
      go : Dec (plan_number s t ≡ 0) → (plan_number s t ≡ 0) × (b < t.banks)
      go (yes e) = (e, elim (lt_or_ge b t.banks) [ inl l ↦ l | inr g ↦ absurd (omega (arith, bank_far s t b e g)) ])
      go (no n) = absurd (n (sym (bank_refused s t b (plan_number s t) refl n) ∙ z))

  pub record Passed : Type 0 where
    pub plan : plan_number s t ≡ 0
    pub few : t.banks ≤ 16
    pub bank : b < t.banks

  pub direct_passed : direct_number b s t ≡ 0 → Passed
  direct_passed z = go (ℕ_discrete (plan_number s t) 0)
    where
      near : plan_number s t ≡ 0 → t.banks ≤ 16 → b < t.banks
      near e few = elim (lt_or_ge b t.banks) [ inl l ↦ l | inr g ↦ absurd (omega (arith, Numbers.direct_far s t b e few g)) ]

      go : Dec (plan_number s t ≡ 0) → Passed
      go (yes e) =
          elim (lt_or_ge 16 t.banks) [
            | inl m ↦ absurd (omega (arith, Numbers.direct_many s t b e m))
            | inr few ↦ record { plan = e; few = few; bank = near e few }
          ]
      go (no n) = absurd (n (sym (Numbers.direct_refused s t b (plan_number s t) refl n) ∙ z))

  -- a wave that is read straight off is kept too
  pub both_passed : direct_number b s t ≡ 0 → bank_number b s t ≡ 0
  both_passed z = let p = direct_passed z in bank_fine s t b p.plan p.bank

  -- and it stands in the bank's cell
  pub kept_cell : direct_number b s t ≡ 0 → (b < length s.waves) × (get_or s.waves b 0 ≡ wave_of b s t)
  kept_cell z =
      let p = direct_passed z in
      let plan = number_plan s t p.plan in
      (Rows.wave_cell plan p.bank, Rows.plan_wave plan p.bank ∙ Rows.wave_found b s t (sym (both_passed z)))

  -- in memory that holds a plan, a small one for the wave: what the calls answer for a bank
  pub row_clashes : plan_number s t ≡ 0 → b < t.banks → {part : List ℕ} → part ≡ neighbours G b → part ≡ clashes_of b s t
  row_clashes e l q = q ∙ Rows.clashes_found b s t (sym (bank_fine s t b e l))

  pub read_straight : {w : ℕ} → w ≡ wave G b → plan_number s t ≡ 0 → t.banks ≤ 16 → b < t.banks → w ≡ rule_wave_of b s t
  read_straight q e few l = q ∙ Numbers.wave_found s t b (sym (Numbers.direct_fine s t b e few l))

  -- each wave that is answered has a letter
  kept_low : wave_of b s t < 24
  kept_low = go (ℕ_discrete (bank_number b s t) 0)
    where
      go : Dec (bank_number b s t ≡ 0) → wave_of b s t < 24
      go (yes z) = let p = bank_passed z in omega (arith, Rows.wave_found b s t (sym z), low p.0 p.1)
      go (no n) = omega (arith, Rows.wave_refused b s t (bank_number b s t) refl n)

  straight_low : rule_wave_of b s t < 24
  straight_low = go (ℕ_discrete (direct_number b s t) 0)
    where
      go : Dec (direct_number b s t ≡ 0) → rule_wave_of b s t < 24
      go (yes z) = let p = direct_passed z in omega (arith, Numbers.wave_found s t b (sym z), low p.plan p.bank)
      go (no n) = omega (arith, Numbers.wave_refused s t b (direct_number b s t) refl n)

  pub kept_letter : {w : ℕ} → w ≡ wave_of b s t → w < 24
  kept_letter e = omega (arith, kept_low)

  pub straight_letter : {w : ℕ} → w ≡ rule_wave_of b s t → w < 24
  straight_letter e = omega (arith, straight_low)

  -- at most 23 clashes are answered, each a bank
  pub clashes_few : (part : List ℕ) → part ≡ clashes_of b s t → length part ≤ 23
  clashes_few part e = go (ℕ_discrete (bank_number b s t) 0)
    where
      go : Dec (bank_number b s t ≡ 0) → length part ≤ 23
      go (yes z) =
          let p = bank_passed z in
          let q : part ≡ neighbours G b = e ∙ sym (Rows.clashes_found b s t (sym z)) in
          rw q (omega (arith, degree_length G b, (number_plan s t p.0).clashes.few b (inside p.0 p.1)))
      go (no n) = let q : part ≡ [] = e ∙ sym (Rows.clashes_refused b s t (bank_number b s t) refl n) in rw q (omega arith)

  pub clash_bank : (part : List ℕ) → part ≡ clashes_of b s t → (i : ℕ) → i < length part → get_or part i 0 < t.banks
  clash_bank part e i l = go (ℕ_discrete (bank_number b s t) 0)
    where
      none : i < length {A = ℕ} [] → ⊥
      none k = omega arith

      found : bank_number b s t ≡ 0 → i < length (neighbours G b) → get_or (neighbours G b) i 0 < t.banks
      found z k =
          let p = bank_passed z in
          omega (arith, (held p.0 p.1).banks, (neighbours_in G b (get_or (neighbours G b) i 0) (in_cell i (neighbours G b) k)).0)

      go : Dec (bank_number b s t ≡ 0) → get_or part i 0 < t.banks
      go (yes z) = let q : part ≡ neighbours G b = e ∙ sym (Rows.clashes_found b s t (sym z)) in rw q (found z (rw q at l))
      go (no n) = let q : part ≡ [] = e ∙ sym (Rows.clashes_refused b s t (bank_number b s t) refl n) in absurd (none (rw q at l))
