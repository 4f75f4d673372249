-- Counts of one seed after the other, counted anew.
use mathlib.Core.Bool.{true, ◌||◌}
use mathlib.Core.List.{List}
use mathlib.Core.Logic.{inl, inr, ◌≢◌}
use mathlib.Core.Path.{◌≡◌, sym, ◌∙◌}
use Prim.Native.Nat.{ℕ, ◌+◌, ◌*◌, ◌-◌, ◌≤◌, ◌<◌}
use native.Mathlib.Decide.{ℕ_discrete, dec_lt}
use native.Mathlib.Numerals.{lt_of_le_of_ne}
use native.Mathlib.Omega.{arith}
use lib.Dec.{T, eqb, eqb→eq}
use lib.ListN.{length, get_or}
use borrow.Rule.Slice.PartMut.{put_mid}
use Rattle.rule.specs.Graph.{Graph, earlier_neighbours}
use Rattle.rule.proofs.Booleans.{or_l, or_r, or_cases, t_along, eq→eqb}
use Rattle.memory.specs.inner.Counts.{standing, Countable, Tallied}
use Rattle.memory.specs.Plan.{Slices}
use Rattle.memory.specs.inner.Test.{counts_of}
use Rattle.memory.proofs.Parts.{put_below, put_in, put_above}
use Rattle.memory.proofs.Theorems.{countable, counts_are}
use Rattle.queue.specs.Queue.{waits, Enqueuable, Enqueued}
use Rattle.edits.specs.inner.Recount.{Recounted, Recounting, SeedQueued, with_counts}
use Rattle.recolouring.proofs.Shows.{enqueuable_of}

-- the part of b, put back into Counts
pub part_back : (cs row : List ℕ) (b : ℕ) (counts : ℕ → ℕ) → b * 24 + 24 ≤ length cs → Tallied row counts → Recounted cs (put_mid (b * 24) (b * 24 + 24 - b * 24) cs row) b counts
part_back cs row b counts l t =
    let k : length row ≡ b * 24 + 24 - b * 24 = omega (arith, t.long) in
    record {
      cells = λ c h. put_in (b * 24) (b * 24 + 24) cs row (omega arith) l k c (omega arith) ∙ t.counts c h;
      below = put_below (b * 24) (b * 24 + 24) cs row (omega arith) l k;
      above = put_above (b * 24) (b * 24 + 24) cs row (omega arith) l k;
    }

module _ {G : Graph} {s : Slices} {was queue : List ℕ} {n v : ℕ} (rc : Recounting G s was queue n) (lt : v < n) where
  v_bank : v < G.banks
  v_bank = omega (arith, rc.banks)

  pub v_countable : Countable s.neighbours s.degrees s.ranks s.waves n v
  v_countable = countable rc.shown rc.banks rc.wide_waves rc.small lt

  pub part_in : v * 24 + 24 ≤ length s.counts
  part_in = omega (arith, v_bank, rc.wide_counts)

  pub own_cell : v < length s.degrees
  own_cell = omega (arith, v_bank, rc.shown.wide_degrees)

  pub enqueuable : Enqueuable G queue v (get_or s.degrees v 0)
  enqueuable = enqueuable_of rc.shown rc.queue v_bank

  module _ {cs queue' : List ℕ} (same : length cs ≡ length s.counts)
      (one : Recounted s.counts cs v (counts_of s.neighbours s.degrees s.ranks s.waves v)) (put : Enqueued G queue queue' v true) where
    other : (y c : ℕ) → y ≢ v → c < 24 → get_or cs (y * 24 + c) 0 ≡ get_or s.counts (y * 24 + c) 0
    other y c d l = go (dec_lt y v)
      where
        go : Dec (y < v) → get_or cs (y * 24 + c) 0 ≡ get_or s.counts (y * 24 + c) 0
        go (yes h) = one.below (y * 24 + c) (omega arith)
        go (no h) = let k : v < y = lt_of_le_of_ne (omega arith) (λ e. d (sym e)) in one.above (y * 24 + c) (omega arith)

    pub seed_queued : SeedQueued G (with_counts s cs) was queue queue' n v
    seed_queued = record {
      counts = record {
        banks = rc.banks;
        shown = rc.shown;
        wide_waves = rc.wide_waves;
        small = rc.small;
        wide_counts = omega (arith, rc.wide_counts);
        queue = put.queue;
        right = λ y c h m l. pick y c h l (ℕ_discrete y v) (t_along (put.members y h) m);
        kept = λ y c h m l. (let d : y ≢ v = λ e. m (t_along (sym (put.members y h)) (or_r (waits G queue y) (eqb y v) (eq→eqb y v e))) in
            other y c d l ∙ rc.kept y c h (λ t. m (t_along (sym (put.members y h)) (or_l (waits G queue y) (eqb y v) t))) l);
        beyond = record { long = same ∙ rc.beyond.long; same = λ j l. one.above j (omega (arith, v_bank)) ∙ rc.beyond.same j l };
      };
      put = put;
    }
      where
        pick : (y c : ℕ) → y < G.banks → c < 24 → Dec (y ≡ v) → T (waits G queue y || eqb y v)
            → get_or cs (y * 24 + c) 0 ≡ standing (λ x. get_or s.waves x 0) c (earlier_neighbours G y)
        pick y c h l (yes e) t = rw e (one.cells c l ∙ counts_are rc.shown s.waves v c v_bank)
        pick y c h l (no d) t = other y c d l ∙ rc.right y c h (elim (or_cases (waits G queue y) (eqb y v) t) [ inl u ↦ u | inr u ↦ absurd (d (eqb→eq y v u)) ]) l
