-- A new journal has at most 60,000 bytes.
use mathlib.Core.List.{List, [], ◌∷◌}
use mathlib.Core.Path.{◌≡◌, refl, ap}
use Prim.Native.Nat.{ℕ, zero, suc, ◌≤◌}
use native.Mathlib.Omega.{arith}
use lib.ListN.{length}
use Rattle.memory.specs.declared.Tally.{Tally}
use Rattle.memory.specs.Plan.{Slices, graph_in}
use Rattle.planner.specs.Calls.{plan_number}
use Rattle.rule.specs.declared.refusal.Refusal.{Refusal}
use Rattle.std.specs.Prelude.{Result}
use Rattle.rule.specs.Refusals.{value_or}
use Rattle.journal_fields.specs.Numbers.{space_number}
use Rattle.journal_fields.proofs.Numbers.{first_zero, space_room}
use Rattle.journal.specs.Calls.{start_bytes, start_number, start_by, StartResult, start_answered, start_result, started}

module _ (s : Slices) (t : Tally) (journal : List ℕ) where
  by_number : (c : ℕ) → start_number s t journal ≡ c → (start_by c (start_bytes (graph_in t.banks s)) journal).answer.length ≤ 60000
  unfolding start_by start_number
  by_number zero e =
      let bytes : List ℕ = start_bytes (graph_in t.banks s) in
      let p = first_zero (plan_number s t) (space_number (length bytes) journal ∷ []) e in
      (space_room (length bytes) journal (first_zero (space_number (length bytes) journal) [] p.1).0).1
  by_number (suc c) e = omega arith

  started_most : (started s t journal).answer.length ≤ 60000
  unfolding started
  started_most = by_number (start_number s t journal) refl

  pub start_most : (answer : Result ℕ Refusal) (journal' : List ℕ) → start_result (start_answered answer) journal' ≡ started s t journal → value_or answer 0 ≤ 60000
  start_most answer journal' e = omega (arith, ap (λ (x : StartResult). x.answer.length) e, started_most)
