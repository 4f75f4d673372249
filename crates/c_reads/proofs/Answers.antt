-- Where the clashes of a bank stand.
use mathlib.Core.List.{List}
use mathlib.Core.Path.{◌≡◌, refl, sym, ap, ap₂, ◌∙◌}
use Prim.Native.Nat.{ℕ, zero, suc, ◌+◌, ◌*◌, ◌-◌, ◌≤◌, ◌<◌}
use native.Mathlib.Omega.{arith}
use lib.ListN.{length, get_or, take, drop}
use borrow.Author.Tests.{leb-true, ltb-true}
use Rattle.rule.specs.Graph.{Graph, neighbours}
use Rattle.rule.proofs.Booleans.{t_along}
use Rattle.rule.proofs.Neighbours.{degree_length}
use Rattle.rule.specs.declared.refusal.Refusal.{Refusal}
use Rattle.rule.specs.Refusals.{number_of}
use Rattle.rule.proofs.Refusals.{refused_some}
use Rattle.memory.specs.declared.Tally.{Tally}
use Rattle.memory.specs.Plan.{Slices, graph_in, PlanOf}
use Rattle.memory.proofs.Theorems.{holds_plan-law}
use Rattle.planner.specs.Calls.{bank_number, clashes_of}
use Rattle.planner.proofs.Numbers as Numbers
use Rattle.planner.proofs.Rows as Rows
use Rattle.c_reads.specs.Reads.{row_start}

-- where nothing is named the row starts at 0
pub row_end : (e : Refusal) (b : ℕ) → 0 ≡ row_start (number_of e) b
unfolding row_start
row_end e b = none (number_of e) (refused_some e)
  where
    none : (c : ℕ) → (c ≡ 0 → ⊥) → 0 ≡ row_start c b
    none zero n = absurd (n refl)
    none (suc c) n = refl

module _ (b : ℕ) (s : Slices) (t : Tally) where
  abbrev G : Graph
  G = graph_in t.banks s

  module _ (none : bank_number b s t ≡ 0) where
    few : t.banks ≤ 1024
    unfolding bank_number
    few = leb-true t.banks 1024 (Numbers.none _ 0 _ none).0

    below : b < t.banks
    unfolding bank_number
    below = ltb-true b t.banks (Numbers.none _ 3 _ (Numbers.none _ 2 _ (Numbers.none _ 1 _ (Numbers.none _ 0 _ none).1).1).1).0

    pub bank_small : b < 1024
    bank_small = omega (arith, few, below)

    plan : PlanOf G s t
    unfolding bank_number
    plan = holds_plan-law s t few (t_along (sym (Numbers.none _ 2 _ (Numbers.none _ 1 _ (Numbers.none _ 0 _ none).1).1).0) tt)

    found : clashes_of b s t ≡ neighbours G b
    found = sym (Rows.clashes_found b s t (sym none))

    -- the clashes are as many as the degree cell says
    counted : length (clashes_of b s t) ≡ get_or s.degrees b 0
    counted = ap length found ∙ sym (degree_length G b) ∙ sym (Rows.plan_degree plan below)

    few_found : length (clashes_of b s t) ≤ 23
    few_found = omega (arith, counted, Rows.few_cells plan below)

    -- the filled part of the row
    pub row_part : take (length (clashes_of b s t)) (drop (23 * b) s.neighbours) ≡ clashes_of b s t
    row_part =
        let d : ℕ = get_or s.degrees b 0 in
        let l : length (clashes_of b s t) ≡ b * 23 + d - b * 23 = omega (arith, counted) in
        let k : 23 * b ≡ b * 23 = omega arith in
        ap₂ (λ (x y : ℕ). take x (drop y s.neighbours)) l k ∙ Rows.row_part plan below b d refl refl ∙ sym found

  -- what the results of clashes_of_in name, by the number
  pub part_at : (c : ℕ) → bank_number b s t ≡ c → take (length (clashes_of b s t)) (drop (row_start c b) s.neighbours) ≡ clashes_of b s t
  unfolding row_start
  part_at zero e = row_part e
  part_at (suc c) e = rw (← Rows.clashes_refused b s t (suc c) (sym e) (λ z. absurd (omega arith)))

  pub few_clashes : (part : List ℕ) → part ≡ clashes_of b s t → length part ≤ 23
  few_clashes part is = rw is (by (bank_number b s t) refl)
    where
      by : (c : ℕ) → bank_number b s t ≡ c → length (clashes_of b s t) ≤ 23
      by zero e = few_found e
      by (suc c) e = rw (← Rows.clashes_refused b s t (suc c) (sym e) (λ z. absurd (omega arith))) (omega arith)
