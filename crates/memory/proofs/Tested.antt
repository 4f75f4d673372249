-- What the code tests is true exactly if memory holds the plan of the clashes that its rows name.
use mathlib.Core.List.{List, map}
use mathlib.Core.Path.{◌≡◌, refl, sym, ap, ◌∙◌, subst}
use Prim.Native.Nat.{ℕ, zero, suc, ◌≤◌, ◌<◌}
use native.Mathlib.Omega.{arith}
use lib.Dec.{T}
use lib.ListN.{get_or}
use Rattle.rule.specs.Lists.{memb}
use Rattle.rule.specs.Graph.{Graph, earlier_neighbours}
use Rattle.rule.specs.Wave.{lowest_free, wave}
use Rattle.rule.proofs.Booleans.{test_ext, t_along}
use Rattle.rule.proofs.Lists.{map_cong}
use Rattle.rule.proofs.Theorems.{wave_equation, wave_unique, lowest_free_free, lowest_free_smaller, lowest_free_only}
use Rattle.rule.proofs.Waves.{earlier_neighbours_in}
use Rattle.memory.specs.declared.Tally.{Tally}
use Rattle.memory.specs.inner.Counts.{standing}
use Rattle.memory.specs.Plan.{Slices, tally_of, PlanOf}
use Rattle.memory.specs.inner.View.{Long, Ranked, Rowed, Held}
use Rattle.memory.specs.inner.Test.{row, part, RowsRight, Rows, PartRight, counts_of, Tested}
use Rattle.memory.proofs.Fronts.{pos}
use Rattle.memory.proofs.Standing.{standing_cong, standing_pos, pos_standing}
use Rattle.memory.proofs.Agree.{tally_eq}
use Rattle.memory.proofs.Views.{held_of, plan_of, held_small}
use Rattle.memory.proofs.Rows.{group_at, in_rows, rowed, row_right-law}
use Rattle.memory.proofs.Tallies.{shown, counts_are}
use Rattle.memory.proofs.Sums.{clash_count_is, wave_count_is}

-- rows that are right, in slices that are long enough
pub rows_of : {s : Slices} {n : ℕ} → n ≤ 1024 → Long n s → RowsRight s.neighbours s.degrees n → Rows s.neighbours s.degrees n
rows_of most l right = record { most = most; long_neighbours = l.neighbours; long_degrees = l.degrees; right = right }

zero_if : (k : ℕ) → (0 < k → ⊥) → k ≡ 0
zero_if zero h = refl
zero_if (suc k) h = absurd (h (omega arith))

module _ (s : Slices) (t : Tally) where
  abbrev n : ℕ
  n = t.banks

  abbrev K : Graph
  K = in_rows n s.neighbours s.ranks

  abbrev w : ℕ → ℕ
  w v = get_or s.waves v 0

  abbrev E : ℕ → List ℕ
  E b = earlier_neighbours K b

  -- from the tests to the plan
  module _ (most : n ≤ 1024) (l : Long n s) (ts : Tested s t) where
    rows_shown : Rowed K s.neighbours s.degrees
    rows_shown =
        rowed s.ranks (rows_of most l ts.rows) (λ x y hx hy.
        test_ext (memb y (row s.neighbours x)) (memb x (row s.neighbours y)) (ts.symmetric x y hx hy) (ts.symmetric y x hy hx))

    ranks_shown : Ranked K s.ranks
    ranks_shown = record { wide = l.ranks; cells = λ b h. refl }

    count_is : (b c : ℕ) → b < n → counts_of s.neighbours s.degrees s.ranks s.waves b c ≡ standing w c (E b)
    count_is b c h = counts_are (shown rows_shown ranks_shown) s.waves b c h

    -- each wave is the lowest that no earlier neighbour has, so it is the rule wave
    lowest : (b : ℕ) → b < n → w b ≡ lowest_free (map w (E b))
    lowest b h =
        lowest_free_only (map w (E b)) (w b)
        (λ m. omega (arith, pos_standing w (w b) (E b) m, count_is b (w b) h, (ts.counts b h).lowest.at))
        (λ c k. standing_pos w c (E b) (pos (standing w c (E b)) (λ e. (ts.counts b h).lowest.below c k (count_is b c h ∙ e))))

    waves_are : (b : ℕ) → b < n → w b ≡ wave K b
    waves_are = wave_unique K w lowest

    held : Held K s n
    held = record {
      banks = refl;
      rowed = rows_shown;
      wide_waves = l.waves;
      waves = waves_are;
      counted = record {
        wide_counts = omega (arith, l.counts);
        cell = λ b c h k. sym (group_at 24 s.counts b c k) ∙ (ts.counts b h).same c k ∙ count_is b c h ∙ standing_cong w (wave K) c (E b)
            (λ v m. waves_are v (earlier_neighbours_in K b v m).0);
      };
      ranked = ranks_shown;
      low = λ x h. omega (arith, ts.ranks x h);
    }

    pub tested_plan : PlanOf K s t
    unfolding tally_of
    tested_plan =
        plan_of K s t n held (tally_eq refl (ts.clashes ∙ clash_count_is K s.degrees rows_shown.degrees) (ts.waves ∙ wave_count_is K s.waves waves_are))

  -- and from the plan to the tests
  module _ (p : PlanOf K s t) where
    view : Held K s n
    view = held_of K s t p

    counted : (b c : ℕ) → b < n → standing w c (E b) ≡ standing (wave K) c (E b)
    counted b c h = standing_cong w (wave K) c (E b) (λ v m. view.waves v (earlier_neighbours_in K b v m).0)

    obeys : (b : ℕ) → b < n → w b ≡ lowest_free (map w (E b))
    obeys b h =
        view.waves b h ∙ wave_equation K b h
        ∙ ap lowest_free (map_cong (wave K) w (E b) (λ v m. sym (view.waves v (earlier_neighbours_in K b v m).0)))

    count_was : (b c : ℕ) → b < n → counts_of s.neighbours s.degrees s.ranks s.waves b c ≡ standing w c (E b)
    count_was b c h = counts_are (shown view.rowed view.ranked) s.waves b c h

    part_was : (b : ℕ) → b < n → PartRight (part s.counts b) (counts_of s.neighbours s.degrees s.ranks s.waves b) (w b)
    part_was b h = record {
      same = λ c k. group_at 24 s.counts b c k ∙ view.counted.cell b c h k ∙ sym (count_was b c h ∙ counted b c h);
      lowest = record {
        below = λ c l e. omega (arith, count_was b c h, pos_standing w c (E b) (lowest_free_smaller (map w (E b)) c (omega (arith, obeys b h))));
        at = count_was b (w b) h ∙ zero_if (standing w (w b) (E b)) (λ l.
            lowest_free_free (map w (E b)) (subst (λ (x : ℕ). T (memb x (map w (E b)))) (obeys b h) (standing_pos w (w b) (E b) l)));
      };
    }

    pub plan_tested : Tested s t
    unfolding tally_of
    plan_tested = record {
      rows = λ b h. row_right-law view.rowed b h;
      symmetric = λ x y hx hy m. t_along (view.rowed.symmetric x y hx hy) m;
      small = held_small view;
      ranks = λ x h. omega (arith, p.clashes.ranks x h);
      counts = part_was;
      clashes = ap (λ (u : Tally). u.clashes) p.tally ∙ sym (clash_count_is K s.degrees view.rowed.degrees);
      waves = ap (λ (u : Tally). u.waves) p.tally ∙ sym (wave_count_is K s.waves view.waves);
    }
