-- What holds after an edit, for all plans and edits.
use mathlib.Core.Bool.{Bool, true, false, ◌&&◌, ◌||◌, not}
use mathlib.Core.List.{List}
use mathlib.Core.Logic.{inl, inr, ◌≢◌}
use mathlib.Core.Path.{◌≡◌, refl, sym, ap, ◌∙◌}
use native.Mathlib.Decide.{ℕ_discrete}
use native.Mathlib.Omega.{arith}
use Prim.Native.Nat.{ℕ, ◌≤◌, ◌<◌}
use lib.Dec.{T, eqb, T_not}
use lib.ListN.{length, get_or}
use Rattle.rule.specs.Graph.{Graph, neighbours, degree, earlier, earlier_neighbours, pair, added, struck, Same}
use Rattle.rule.specs.Wave.{wave}
use Rattle.rule.specs.Reach.{edited, inverse, is_named, is_reached, on_trail}
use Rattle.rule.specs.declared.Kind.{Kind}
use Rattle.rule.specs.declared.Kind.TheVariants.{Adding, Striking}
use Rattle.rule.specs.WorkList.{OneEdit, is_taken}
use Rattle.rule.proofs.Booleans.{and_l, and_r, both, or_l, or_r, or_cases, t_along, eq→eqb, is_true, is_false}
use Rattle.rule.proofs.Spread.{same_neighbours, taken_spread, taken_seed, unchanged}
use Rattle.rule.proofs.Waves.{earlier_neighbours_in}
use Rattle.rule.proofs.OneClash.{degrees_more, degrees_less, degree_added, degree_struck, neighbours_added, neighbours_struck}
use Rattle.rule.proofs.Pairs.{pair_is, pair_here}
use Rattle.rule.proofs.Turned.{edited_one, on_trail_taken}
use Rattle.rule.proofs.Theorems.{off_trail}
use Rattle.memory.specs.inner.Counts.{standing}
use Rattle.memory.specs.Plan.{Slices, long_enough, tally_of, plan_in, Clashes, PlanOf}
use Rattle.memory.specs.PlanCells.{SameCells}
use Rattle.memory.specs.inner.View.{Held}
use Rattle.memory.proofs.Plans.{plan_over, long_again}
use Rattle.memory.proofs.Agree.{plan_in_agree, tally_agree}
use Rattle.memory.proofs.Standing.{standing_cong}
use Rattle.memory.proofs.Views.{held_of}
use Rattle.edits.specs.Edits.{Acceptable}
use Rattle.memory.specs.Memory.{Memory}
use Rattle.planner.specs.Calls.{accepted, edit_number}
use Rattle.memory.specs.Memory.{Ready}
use Rattle.planner.proofs.Numbers.{strike_fine, add_fine, two_banks}
use Rattle.planner.proofs.Outcomes.{acceptable, edited_banks}
use Rattle.rule.proofs.Fixed.{edited_ranks}

pair_apart : (a b x : ℕ) → a ≢ b → T (pair a b x x) → ⊥
pair_apart a b x d t = elim (pair_is a b x x t) [ inl e ↦ d (sym e.0 ∙ e.1) | inr e ↦ d (sym e.1 ∙ e.0) ]

-- the banks of a pair clash where a and b do
pub pair_clash : (G : Graph) (a b : ℕ) → Clashes G → a < G.banks → b < G.banks → (x y : ℕ) → T (pair a b x y) → G.clash x y ≡ G.clash a b
pair_clash G a b c la lb x y t =
    elim (pair_is a b x y t) [ inl e ↦ rw (e.0, e.1) | inr e ↦ rw (e.0, e.1) (c.symmetric b a lb la) ]

-- the new clashes are a set of clashes too
module _ (G : Graph) (a b : ℕ) (c : Clashes G) where
  at_each : (P : ℕ → Type 0) → P a → P b → ((x : ℕ) → x ≢ a → x ≢ b → P x) → (x : ℕ) → P x
  at_each P pa pb others x = go (ℕ_discrete x a) (ℕ_discrete x b)
    where
      go : Dec (x ≡ a) → Dec (x ≡ b) → P x
      go (yes e) d = rw e pa
      go (no n) (yes e) = rw e pb
      go (no n) (no m) = others x n m

  pub clashes_edited : (k : Kind) → Acceptable k G a b → Clashes (edited k G a b)
  unfolding edited
  clashes_edited Adding ok =
      let r = degrees_more G a b ok.bank_a ok.bank_b ok.differ ok.allowed (λ t. ok.allowed (t_along (c.symmetric b a ok.bank_b ok.bank_a) t)) in
      record {
        most = c.most;
        symmetric = (edited_one G c.symmetric a b ok.bank_a ok.bank_b ok.differ Adding).symmetric;
        apart = λ x l t. elim (or_cases (G.clash x x) (pair a b x x) t) [ inl u ↦ c.apart x l u | inr u ↦ pair_apart a b x ok.differ u ];
        few = at_each (λ x. x < G.banks → degree (added G a b) x ≤ 23) (λ l. omega (arith, r.0, ok.room.0)) (λ l. omega (arith, r.1, ok.room.1))
            (λ x na nb l. omega (arith, degree_added G a b x na nb, c.few x l));
        ranks = c.ranks;
      }
  clashes_edited Striking ok =
      let r = degrees_less G a b ok.bank_a ok.bank_b ok.differ ok.allowed (t_along (c.symmetric a b ok.bank_a ok.bank_b) ok.allowed) in
      record {
        most = c.most;
        symmetric = (edited_one G c.symmetric a b ok.bank_a ok.bank_b ok.differ Striking).symmetric;
        apart = λ x l t. c.apart x l (and_l (G.clash x x) (not (pair a b x x)) t);
        few = at_each (λ x. x < G.banks → degree (struck G a b) x ≤ 23) (λ l. omega (arith, r.0, c.few a l)) (λ l. omega (arith, r.1, c.few b l))
            (λ x na nb l. omega (arith, degree_struck G a b x na nb, c.few x l));
        ranks = c.ranks;
      }

  neighbours_kept : (k : Kind) (x : ℕ) → x ≢ a → x ≢ b → neighbours (edited k G a b) x ≡ neighbours G x
  unfolding edited
  neighbours_kept Adding = neighbours_added G a b
  neighbours_kept Striking = neighbours_struck G a b

-- the plan of clashes, put into slices that are long enough, is held by them
pub plan_in-law : (cap : ℕ) (H : Graph) (s : Slices) → Clashes H → long_enough H.banks s ≡ true → PlanOf H (plan_in H s) (tally_of cap H)
unfolding tally_of
plan_in-law cap H s c l = record { clashes = c; long = long_again H s l; cells = plan_over H H s refl; tally = refl }

module _ (k : Kind) (G : Graph) (a b : ℕ) (m : Memory) (ready : Ready G m) (due : edit_number k G a b ≡ 0) where
  abbrev H : Graph
  H = edited k G a b

  ok : Acceptable k G a b
  ok = acceptable G a b k due

  abbrev cl : Clashes G
  cl = ready.plan.clashes

  new_clashes : Clashes H
  new_clashes = clashes_edited G a b cl k ok

  -- memory holds the plan of the new clashes
  pub after_plan : PlanOf H (accepted k G a b m).memory.slices (accepted k G a b m).memory.tally
  unfolding accepted
  after_plan = plan_in-law m.tally.cap H m.slices new_clashes (rw (edited_banks k G a b) ready.plan.long)

  abbrev was : Held G m.slices m.tally.banks
  was = held_of G m.slices m.tally ready.plan

  abbrev s' : Slices
  s' = (accepted k G a b m).memory.slices

  is : Held H s' (accepted k G a b m).memory.tally.banks
  is = held_of H s' (accepted k G a b m).memory.tally after_plan

  -- and its waves are the rule's
  pub after_waves : (x : ℕ) → x < G.banks → get_or s'.waves x 0 ≡ wave H x
  after_waves x l = is.waves x (rw (edited_banks k G a b) l)

  one : OneEdit G H a b
  one = edited_one G cl.symmetric a b ok.bank_a ok.bank_b ok.differ k

  module _ (x : ℕ) (l : x < G.banks) (off : T (on_trail k G H a b x) → ⊥) where
    l' : x < H.banks
    l' = rw (edited_banks k G a b) l

    not_taken : T (is_taken G H a b x) → ⊥
    not_taken t = off (t_along (sym (on_trail_taken G cl.symmetric a b ok.bank_a ok.bank_b ok.differ k ok.allowed x)) t)

    named : T (is_named a b x) → T (on_trail k G H a b x)
    unfolding on_trail
    named t = or_l (is_named a b x || _) (is_reached G H x) (or_l (is_named a b x) _ t)

    not_a : x ≢ a
    not_a e = off (named (unfold is_named in or_l (eqb x a) (eqb x b) (eq→eqb x a e)))

    not_b : x ≢ b
    not_b e = off (named (unfold is_named in or_r (eqb x a) (eqb x b) (eq→eqb x b e)))

    kept_neighbours : neighbours H x ≡ neighbours G x
    kept_neighbours = neighbours_kept G a b cl k x not_a not_b

    kept_wave : wave G x ≡ wave H x
    kept_wave = off_trail G cl.symmetric a b ok.bank_a ok.bank_b ok.differ k ok.allowed x l' off

    degree_same : degree H x ≡ degree G x
    unfolding degree
    degree_same = ap length kept_neighbours

    -- its earlier neighbours are those that it had, and keep their waves, since it would be reached otherwise
    kept_counts : (c : ℕ) → standing (wave H) c (earlier_neighbours H x) ≡ standing (wave G) c (earlier_neighbours G x)
    kept_counts c =
        standing_cong (wave H) (wave G) c (earlier_neighbours H x) (λ v i.
        let r = earlier_neighbours_in H x v i in
        sym (unchanged G H a b one v (λ w. not_taken (taken_spread G H a b one v x r.0 (both (H.clash v x) (earlier H v x)
        (t_along (one.symmetric x v l' r.0) (and_l (H.clash x v) (earlier H v x) r.1)) (and_r (H.clash x v) (earlier H v x) r.1)) w))))
        ∙ ap (standing (wave G) c) (sym (same_neighbours G H a b one x l' (λ t. not_taken (taken_seed G H a b one x t))))

    -- no plan cell of a bank off the trail differs
    pub off_trail_cells : SameCells m.slices s' x
    off_trail_cells = record {
      row = λ i h. is.rowed.rows x i l' h ∙ ap (λ (r : List ℕ). get_or r i 65535) kept_neighbours ∙ sym (was.rowed.rows x i l h);
      degree = is.rowed.degrees x l' ∙ degree_same ∙ sym (was.rowed.degrees x l);
      wave = is.waves x l' ∙ sym kept_wave ∙ sym (was.waves x l);
      counts = λ c h. is.counted.cell x c l' h ∙ kept_counts c ∙ sym (was.counted.cell x c l h);
      rank = is.ranked.cells x l' ∙ sym (one.same_ranks x l') ∙ sym (was.ranked.cells x l);
    }

-- back by the inverse
add_strike : (c p : Bool) → (T p → T c → ⊥) → ((c || p) && not p) ≡ c
add_strike true true h = absurd (h tt tt)
add_strike true false h = refl
add_strike false true h = refl
add_strike false false h = refl

strike_add : (c p : Bool) → (T p → T c) → ((c && not p) || p) ≡ c
strike_add true true h = refl
strike_add true false h = refl
strike_add false true h = absurd (h tt)
strike_add false false h = refl

module _ (G : Graph) (a b : ℕ) (c : Clashes G) where
  -- back to the clashes before
  pub edited_back : (k : Kind) → Acceptable k G a b → (x y : ℕ) → (edited (inverse k) (edited k G a b) a b).clash x y ≡ G.clash x y
  unfolding edited
  edited_back Adding ok x y =
      add_strike (G.clash x y) (pair a b x y) (λ t u. ok.allowed (t_along (pair_clash G a b c ok.bank_a ok.bank_b x y t) u))
  edited_back Striking ok x y =
      strike_add (G.clash x y) (pair a b x y) (λ t. t_along (sym (pair_clash G a b c ok.bank_a ok.bank_b x y t)) ok.allowed)

  -- no refusal is due to it
  pub back_due : (k : Kind) → Acceptable k G a b → edit_number (inverse k) (edited k G a b) a b ≡ 0
  unfolding edited
  back_due Adding ok =
      let there = is_true (G.clash a b || pair a b a b) (or_r (G.clash a b) (pair a b a b) (pair_here a b)) in
      two_banks (added G a b) a b ok.bank_a ok.bank_b Striking ok.differ ∙ rw there (strike_fine (degree (added G a b) a) (degree (added G a b) b))
  back_due Striking ok =
      let r = degrees_less G a b ok.bank_a ok.bank_b ok.differ ok.allowed (t_along (c.symmetric a b ok.bank_a ok.bank_b) ok.allowed) in
      let gone = is_false (G.clash a b && not (pair a b a b)) (λ t. T_not (pair a b a b) (and_r (G.clash a b) (not (pair a b a b)) t) (pair_here a b)) in
      two_banks (struck G a b) a b ok.bank_a ok.bank_b Adding ok.differ
      ∙ rw gone (add_fine (degree (struck G a b) a) (degree (struck G a b) b) (omega (arith, r.0, c.few a ok.bank_a)) (omega (arith, r.1, c.few b ok.bank_b)))

module _ (k : Kind) (G : Graph) (a b : ℕ) (m : Memory) (ready : Ready G m) (due : edit_number k G a b ≡ 0) where
  abbrev back : Memory
  back = (accepted (inverse k) (edited k G a b) a b (accepted k G a b m).memory).memory

  back_banks : (edited (inverse k) (edited k G a b) a b).banks ≡ G.banks
  back_banks = edited_banks (inverse k) (edited k G a b) a b ∙ edited_banks k G a b

  -- back to the clashes and ranks before
  back_same : Same (edited (inverse k) (edited k G a b) a b) G
  back_same = record {
    banks = back_banks;
    clash = λ x y lx ly. edited_back G a b ready.plan.clashes k (acceptable G a b k due) x y;
    rank = λ x l. ap (λ (f : ℕ → ℕ). f x) (edited_ranks (inverse k) (edited k G a b) a b ∙ edited_ranks k G a b);
  }

  -- an accepted edit and then its inverse, which is accepted too, give back the plan cell by cell, and the tally
  pub inverse_due : edit_number (inverse k) (edited k G a b) a b ≡ 0
  inverse_due = back_due G a b ready.plan.clashes k (acceptable G a b k due)

  pub inverse_cells : back.slices ≡ m.slices
  unfolding accepted
  inverse_cells =
      let K = edited (inverse k) (edited k G a b) a b in
      plan_over (edited k G a b) K m.slices (edited_banks (inverse k) (edited k G a b) a b)
      ∙ plan_in_agree back_same m.slices
      ∙ ready.plan.cells

  pub inverse_tally : back.tally ≡ m.tally
  unfolding accepted tally_of
  inverse_tally = tally_agree back_same m.tally.cap ∙ sym ready.plan.tally
