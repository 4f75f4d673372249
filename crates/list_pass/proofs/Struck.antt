-- striking all clashes of a bank, the lowest neighbour first.
use mathlib.Core.Bool.{Bool, true, false}
use mathlib.Core.List.{List, [], ◌∷◌}
use mathlib.Core.Path.{◌≡◌, refl, sym, ap, ◌∙◌}
use Prim.Native.Nat.{ℕ, ◌-◌, ◌≤◌, ◌<◌}
use native.Mathlib.Omega.{arith}
use lib.Dec.{T}
use lib.ListN.{length, get_or}
use borrow.Author.Tests.{lt-ltb, ne_eqb}
use Rattle.rule.specs.Graph.{Graph, neighbours}
use Rattle.rule.specs.Reach.{edited}
use Rattle.rule.specs.declared.Kind.TheVariants.{Striking}
use Rattle.rule.proofs.Strike.{first_below, first_clash, first_other, struck_first}
use Rattle.memory.specs.Plan.{Clashes}
use Rattle.planner.specs.declared.Edited.{Edited}
use Rattle.planner.specs.Questions.{first_no}
use Rattle.planner.specs.Calls.{clash_questions, edit_number}
use Rattle.memory.specs.Memory.{Memory}
use Rattle.planner.specs.inner.Held.{EditMade}
use Rattle.memory.specs.Memory.{Ready}
use Rattle.list_pass.specs.Pass.{strike_each}
use Rattle.planner.specs.States.{make}
use Rattle.planner.specs.inner.Held.{at, Stands}
use Rattle.planner.proofs.Made.{ready_banks, not_fresh, edit_accepted}

never : (b : Bool) → (T b → ⊥) → b ≡ false
never true n = absurd (n tt)
never false n = refl

-- the lowest neighbour v of b: its clash can be struck, and the others are left
module _ (G : Graph) (good : Clashes G) (b : ℕ) (below : b < G.banks) (v : ℕ) (vs : List ℕ) (e : neighbours G b ≡ v ∷ vs) where
  alone : G.clash b b ≡ false
  alone = never (G.clash b b) (good.apart b below)

  pub strike_number-law : edit_number Striking G b v ≡ 0
  unfolding edit_number clash_questions first_no
  strike_number-law =
      rw (
        lt-ltb b G.banks below,
        lt-ltb v G.banks (first_below G b v vs e alone),
        ne_eqb b v (first_other G b v vs e alone),
        first_clash G b v vs e alone,
      )

  pub strike_rest : neighbours (edited Striking G b v) b ≡ vs
  unfolding edited
  strike_rest = struck_first G b v vs e alone

same_banks-law : (G : Graph) (a b : ℕ) → (edited Striking G a b).banks ≡ G.banks
unfolding edited
same_banks-law G a b = refl

-- a list that is not empty
split : (l : List ℕ) → 0 < length l → (vs : List ℕ) × (l ≡ get_or l 0 0 ∷ vs)
split [] h = absurd (omega arith)
split (v ∷ vs) h = (vs, refl)

-- where striking all clashes of b, in memory m of the plan of G, stands: `left` are left
pub record Left (G : Graph) (b : ℕ) (m : Memory) (left : ℕ) (r : Edited) (m' : Memory) : Type 0 where
  pub number : r.answer.number ≡ 0
  pub graph : Graph
  pub ready : Ready graph m'
  pub below : b < m'.tally.banks
  pub count : length (neighbours graph b) ≡ left
  pub ahead : strike_each b (neighbours G b) (at true G m) ≡ strike_each b (neighbours graph b) (at true graph m')

module _ (G : Graph) (b : ℕ) (m : Memory) where
  pub left_start : (left : ℕ) (r : Edited) → r.answer.number ≡ 0 → Ready G m → b < m.tally.banks → left ≡ length (neighbours G b) → Left G b m left r m
  left_start left r z h l n = record { number = z; graph = G; ready = h; below = l; count = sym n; ahead = refl }

  -- the row of b is not empty
  pub left_some : (left : ℕ) (r : Edited) (m' : Memory) (w : Left G b m left r m') → 0 < left → (row : List ℕ) → row ≡ neighbours w.graph b → 0 < length row
  left_some left r m' w pos row q = omega (arith, ap length q, w.count)

  -- its first bank is struck
  pub left_turn : (left : ℕ) (r : Edited) (m' : Memory) (w : Left G b m left r m') → 0 < left → (row : List ℕ) → row ≡ neighbours w.graph b
      → (r' : Edited) (m'' : Memory) → EditMade Striking w.graph b (get_or row 0 0) m' r' m'' → Left G b m (left - 1) r' m''
  unfolding make strike_each
  left_turn left r m' w pos row q r' m'' d =
      let H : Graph = w.graph in
      let v : ℕ = get_or row 0 0 in
      let part = split row (left_some left r m' w pos row q) in
      let first : neighbours H b ≡ v ∷ part.0 = sym q ∙ part.1 in
      let below : b < H.banks = omega (arith, ready_banks H m' w.ready) in
      let good : Clashes H = w.ready.plan.clashes in
      let rest : neighbours (edited Striking H b v) b ≡ part.0 = strike_rest H good b below v part.0 first in
      let made = edit_accepted Striking true H b v m' r' m'' (strike_number-law H good b below v part.0 first) d (not_fresh H) in
      record {
        number = made.0;
        graph = edited Striking H b v;
        ready = made.1.ready;
        below = omega (arith, ready_banks (edited Striking H b v) m'' made.1.ready, same_banks-law H b v);
        count = omega (arith, ap length rest, ap length first, w.count);
        ahead =
            w.ahead
            ∙ ap (λ (l : List ℕ). strike_each b l (at true H m')) first
            ∙ ap (λ (x : Memory). strike_each b part.0 (at true (edited Striking H b v) x)) (sym made.1.memory)
            ∙ ap (λ (l : List ℕ). strike_each b l (at true (edited Striking H b v) m'')) (sym rest);
      }

  pub left_end : (left : ℕ) (r : Edited) (m' : Memory) → Left G b m left r m' → left ≤ 0 → Stands (strike_each b (neighbours G b) (at true G m)) m'
  unfolding strike_each
  left_end left r m' w l = rw w.ahead (none (neighbours w.graph b) (omega (arith, w.count)))
    where
      none : (l : List ℕ) → length l ≡ 0 → Stands (strike_each b l (at true w.graph m')) m'
      none [] q = record { memory = refl; ready = w.ready; fresh = not_fresh w.graph }
      none (x ∷ xs) q = absurd (omega arith)
