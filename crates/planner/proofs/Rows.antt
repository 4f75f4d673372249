-- What is read off memory that holds a plan: a bank's wave and the filled part of its row; and what the calls that read answer.
use mathlib.Core.Bool.{Bool, true, false}
use mathlib.Core.List.{List, [], ◌∷◌}
use mathlib.Core.Logic.{inl, inr, ◌≢◌}
use mathlib.Core.Path.{◌≡◌, refl, sym, ap, ap₂, ◌∙◌}
use native.Mathlib.Omega.{arith}
use Prim.Native.Nat.{ℕ, zero, suc, ◌+◌, ◌*◌, ◌-◌, ◌≤◌, ◌<◌}
use lib.ListN.{length, get_or, take, drop, length-take, length-drop}
use lib.Seq.{get_or-take, get_or-drop, ext_get_or}
use Rattle.rule.specs.Graph.{Graph, neighbours, degree}
use Rattle.rule.specs.Wave.{wave}
use Rattle.rule.specs.Lists.{memb}
use Rattle.rule.proofs.Booleans.{t_along, is_true, is_false}
use Rattle.rule.proofs.Lists.{in_none, in_append, in_cons}
use Rattle.rule.proofs.Neighbours.{degree_length, memb_neighbours}
use Rattle.memory.specs.declared.Tally.{Tally}
use Rattle.memory.specs.Plan.{Slices, graph_in, PlanOf}
use Rattle.memory.specs.inner.View.{Held}
use Rattle.memory.proofs.Fronts.{get_d_any, take_next, in_cell}
use Rattle.memory.proofs.Views.{held_of, tally_banks}
use Rattle.rule.specs.declared.Kind.{Kind}
use Rattle.planner.specs.inner.Held.{clash_number}
use Rattle.planner.proofs.Numbers.{two_banks}
use Rattle.planner.specs.Calls.{edit_number, bank_number, wave_by, wave_in, wave_of, clashes_by, clashes_of}
use Rattle.std.specs.Prelude.{Result, Ok, Err, IfOk}
use Rattle.rule.specs.declared.Wave.{Wave}
use Rattle.rule.specs.declared.refusal.Refusal.{Refusal}

module _ {G : Graph} {s : Slices} {t : Tally} (p : PlanOf G s t) {b : ℕ} (l : b < t.banks) where
  held : Held G s t.banks
  held = held_of G s t p

  pub below : b < G.banks
  below = omega (arith, tally_banks t G p.tally)

  pub plan_degree : get_or s.degrees b 0 ≡ degree G b
  plan_degree = held.rowed.degrees b below

  pub few_cells : get_or s.degrees b 0 ≤ 23
  few_cells = omega (arith, plan_degree, held.rowed.small b below)

  pub degree_cell : b < length s.degrees
  degree_cell = omega (arith, below, held.rowed.wide_degrees)

  pub row_cells : b * 23 + 23 ≤ length s.neighbours
  row_cells = omega (arith, below, held.rowed.wide_rows)

  pub wave_cell : b < length s.waves
  wave_cell = omega (arith, held.wide_waves)

  pub plan_wave : get_or s.waves b 0 ≡ wave G b
  plan_wave = held.waves b below

  -- the filled part of the row, as the code takes it
  pub row_part : (at d : ℕ) → at ≡ b → d ≡ get_or s.degrees b 0 → take (at * 23 + d - at * 23) (drop (at * 23) s.neighbours) ≡ neighbours G b
  row_part at d e q =
      let n : d ≡ length (neighbours G b) = q ∙ plan_degree ∙ degree_length G b in
      let k : at * 23 + d - at * 23 ≡ d = omega arith in
      let j : at * 23 ≡ b * 23 = omega arith in
      ap₂ (λ (x y : ℕ). take x (drop y s.neighbours)) k j
      ∙ ext_get_or 0 (take d (drop (b * 23) s.neighbours)) (neighbours G b)
      (omega (arith, length-take d (drop (b * 23) s.neighbours), length-drop (b * 23) s.neighbours, row_cells, few_cells))
      (λ i h.
      let u : i < d = omega (arith, length-take d (drop (b * 23) s.neighbours)) in
      get_or-take d (drop (b * 23) s.neighbours) i 0 u
      ∙ get_or-drop (b * 23) s.neighbours i 0
      ∙ held.rowed.rows b i below (omega (arith, few_cells))
      ∙ get_d_any (neighbours G b) i 65535 0 (omega arith))

-- the answers, by the number of the first no
module _ (b : ℕ) (s : Slices) (t : Tally) where
  wave_by-law : (c : ℕ) → c ≡ bank_number b s t → wave_by c b (graph_in t.banks s) ≡ wave_of b s t
  unfolding wave_of
  wave_by-law c e = ap (λ (x : ℕ). wave_by x b (graph_in t.banks s)) e

  clashes_by-law : (c : ℕ) → c ≡ bank_number b s t → clashes_by c b (graph_in t.banks s) ≡ clashes_of b s t
  unfolding clashes_of
  clashes_by-law c e = ap (λ (x : ℕ). clashes_by x b (graph_in t.banks s)) e

  pub wave_refused : (c : ℕ) → c ≡ bank_number b s t → c ≢ 0 → 0 ≡ wave_of b s t
  wave_refused zero e n = absurd (n refl)
  wave_refused (suc c) e n = unfold wave_by in wave_by-law (suc c) e

  pub wave_found : 0 ≡ bank_number b s t → wave (graph_in t.banks s) b ≡ wave_of b s t
  wave_found e = unfold wave_by in wave_by-law 0 e

  pub clashes_refused : (c : ℕ) → c ≡ bank_number b s t → c ≢ 0 → [] ≡ clashes_of b s t
  clashes_refused zero e n = absurd (n refl)
  clashes_refused (suc c) e n = unfold clashes_by in clashes_by-law (suc c) e

  pub clashes_found : 0 ≡ bank_number b s t → neighbours (graph_in t.banks s) b ≡ clashes_of b s t
  clashes_found e = unfold clashes_by in clashes_by-law 0 e

-- where such a call is not refused, that is its wave
pub wave_ok : (r : Result Wave Refusal) (w : ℕ) → wave_in r ≡ w → IfOk r (λ x. x.0 ≡ w)
wave_ok (Ok x) w e = e
wave_ok (Err e) w q = tt

-- a search for bank v among cells
pub not_yet : (v : ℕ) → memb v [] ≡ false
not_yet v = is_false (memb v []) (in_none v)

pub not_here : (v i : ℕ) (row : List ℕ) → i < length row → memb v (take i row) ≡ false → (get_or row i 0 ≡ v → ⊥) → memb v (take (i + 1) row) ≡ false
not_here v i row l e n =
    is_false (memb v (take (i + 1) row)) (λ m. elim (in_append v (take i row) (get_or row i 0 ∷ []) (t_along (ap (memb v) (take_next i row l)) m)) [
      | inl t ↦ t_along e t
      | inr t ↦ elim (in_cons v (get_or row i 0) [] t) [ inl q ↦ n (sym q) | inr u ↦ in_none v u ]
    ])

pub here : (v i : ℕ) (row : List ℕ) → i < length row → get_or row i 0 ≡ v → true ≡ memb v row
here v i row l e = sym (is_true (memb v row) (rw e at (in_cell i row l)))

-- a row names the banks that clash with its bank
pub clash_named : {G : Graph} {s : Slices} {t : Tally} → PlanOf G s t → {a b : ℕ} → b < t.banks → (row : List ℕ) → row ≡ neighbours G a → (r : Bool) → r ≡ memb b row
    → G.clash a b ≡ r
clash_named {G} {s} {t} p {a} {b} l row e r q =
    sym (q ∙ ap (memb b) e ∙ memb_neighbours G a b (omega (arith, tally_banks t G p.tally)))

-- the questions about the clash and the degrees, by the cells, are those that are left of two different banks
pub edit_asked : (k : Kind) {G : Graph} {s : Slices} {t : Tally} (p : PlanOf G s t) {a b x y r : ℕ} {row : List ℕ}
    → a < t.banks → b < t.banks → a ≢ b → row ≡ neighbours G a → x ≡ a → y ≡ b
    → r ≡ clash_number k (memb b row) (get_or s.degrees x 0) (get_or s.degrees y 0) → r ≡ edit_number k G a b
edit_asked k {G} {s} {t} p {a} {b} {x} {y} {r} {row} la lb d is ex ey q =
    let clash = clash_named p lb row is (memb b row) refl in
    let da = ap (λ (z : ℕ). get_or s.degrees z 0) ex ∙ plan_degree p la in
    let db = ap (λ (z : ℕ). get_or s.degrees z 0) ey ∙ plan_degree p lb in
    q ∙ rw (← clash, da, db) (sym (two_banks G a b (below p la) (below p lb) k d))
