-- What an accepted coming back leaves.
use mathlib.Core.Bool.{Bool, true, ◌&&◌, not}
use mathlib.Core.List.{List}
use mathlib.Core.Path.{◌≡◌, refl, sym, ap, ◌∙◌, subst}
use Prim.Native.Nat.{ℕ, zero, suc, ◌*◌, ◌≤◌, ◌<◌}
use native.Mathlib.Omega.{arith}
use borrow.Author.Tests.{leb-true}
use lib.Dec.{T, leb, ltb, eqb, eqb→eq, ltb→lt, lt→ltb}
use lib.ListN.{length, get_or, take, drop, length-take}
use lib.Seq.{take_all}
use Rattle.rule.specs.Lists.{upto, memb, filter, Sorted}
use Rattle.rule.specs.Graph.{Graph}
use Rattle.rule.specs.Wave.{wave}
use Rattle.rule.proofs.Booleans.{both_true, t_along, and_l, and_r, both, test_ext}
use Rattle.rule.proofs.Lists.{in_filter, filter_in, in_upto, filter_cong, upto_below}
use Rattle.rule.proofs.Sorting.{sorted_filter, sorted_upto}
use Rattle.memory.specs.declared.Tally.{Tally}
use Rattle.memory.specs.Cells.{over}
use Rattle.memory.specs.Plan.{Slices, long_enough, plan_in, graph_in, cap_fits, holds, PlanOf}
use Rattle.memory.proofs.Theorems.{holds_plan-law, plan_again, long_again, held_of}
use Rattle.planner.proofs.Numbers.{none}
use Rattle.shelf.specs.Names.{place_of, known}
use Rattle.shelf.specs.Shelf.{degrees_at, waves_at, counts_at, ranks_at, place_size, part, place, used, slices_in, tally_in, holds_in, shelf_right}
use Rattle.checkpoints.specs.Calls.{shelf_long, back_number, differing, over_all, came_back, back_by, come_back, back_result}
use Rattle.checkpoints.specs.Between.{clashes_kept}
use Rattle.shelf.proofs.Putting.{first}
use Rattle.checkpoints.proofs.Kept.{fronts, exactly, fronts_exactly, over_exactly}
use Rattle.checkpoints.proofs.Shelves.{used_holds, used_plan, used_cap}

-- an accepted coming back, to whatever is kept
module _ (name : List ℕ) (s : Slices) (t : Tally) (moved shelf : List ℕ) where
  abbrev banks : ℕ
  banks = t.banks

  abbrev cells : List ℕ
  cells = place banks (place_of name) shelf

  -- what its number 0 says
  accepted_number : (come_back name s t moved shelf).number ≡ 0 → back_number s t moved name shelf ≡ 0
  unfolding come_back back_by
  accepted_number e = go (back_number s t moved name shelf) e
    where
      go : (c : ℕ) → (back_by c name s t moved shelf).number ≡ 0 → c ≡ 0
      go zero f = refl
      go (suc c) f = f

  pub record Accepted : Type 0 where
    pub few : banks ≤ 1024
    pub enough : long_enough banks s ≡ true
    pub list_room : banks ≤ length moved
    pub room : 3 * place_size banks ≤ length shelf
    pub right : shelf_right banks shelf ≡ true
    pub near : place_of name < 3
    pub is_used : used cells ≡ true

  accepted : back_number s t moved name shelf ≡ 0 → Accepted
  unfolding back_number shelf_long known
  accepted e =
      let q₁ = none (leb banks 1024) 0 _ e in
      let q₂ = none (long_enough banks s && (leb banks (length moved) && leb (3 * place_size banks) (length shelf))) 1 _ q₁.1 in
      let q₃ = none (holds s t && shelf_right banks shelf) 2 _ q₂.1 in
      let q₄ = none (ltb (place_of name) 3) 15 _ q₃.1 in
      let q₅ = none (used cells) 16 _ q₄.1 in
      let rooms = both_true (long_enough banks s) (leb banks (length moved) && leb (3 * place_size banks) (length shelf)) q₂.0 in
      let lists = both_true (leb banks (length moved)) (leb (3 * place_size banks) (length shelf)) rooms.1 in
      record {
        few = leb-true banks 1024 q₁.0;
        enough = rooms.0;
        list_room = leb-true banks (length moved) lists.0;
        room = leb-true (3 * place_size banks) (length shelf) lists.1;
        right = (both_true (holds s t) (shelf_right banks shelf) q₃.0).1;
        near = ltb→lt (place_of name) 3 (t_along (sym q₄.0) tt);
        is_used = q₅.0;
      }

  module _ (e : (come_back name s t moved shelf).number ≡ 0) where
    abbrev ok : Accepted
    ok = accepted (accepted_number e)

    -- the place holds a plan of as many banks
    place_holds : holds_in banks cells ≡ true
    place_holds = used_holds banks shelf ok.right (place_of name) ok.near ok.is_used

    kept_banks : (tally_in banks cells).banks ≡ banks
    unfolding holds_in
    kept_banks =
        eqb→eq (tally_in banks cells).banks banks
        (t_along (sym (both_true (eqb (tally_in banks cells).banks banks) (holds (slices_in banks cells) (tally_in banks cells)) place_holds).0) tt)

    kept_holds : T (holds (slices_in banks cells) (tally_in banks cells))
    kept_holds = used_plan banks shelf ok.right (place_of name) ok.near ok.is_used

    -- of the clashes that its rows name
    kept_plan : PlanOf (clashes_kept banks name shelf) (slices_in banks cells) (tally_in banks cells)
    kept_plan =
        subst (λ (m : ℕ). PlanOf (graph_in m (slices_in banks cells)) (slices_in banks cells) (tally_in banks cells)) kept_banks
        (holds_plan-law (slices_in banks cells) (tally_in banks cells) (omega (arith, kept_banks, ok.few)) kept_holds)

    -- its parts have just the plan's cells
    fronts_whole : fronts banks (slices_in banks cells) ≡ slices_in banks cells
    unfolding slices_in
    fronts_whole =
        rw (
          whole 1 (23 * banks),
          whole (degrees_at banks) banks,
          whole (waves_at banks) banks,
          whole (counts_at banks) (24 * banks),
          whole (ranks_at banks) banks,
        ) refl
      where
        whole : (from k : ℕ) → take k (part from k cells) ≡ part from k cells
        whole from k = take_all k (part from k cells) (omega (arith, length-take k (drop from cells)))

    abbrev G : Graph
    G = clashes_kept banks name shelf

    slices_exactly : slices_in banks cells ≡ exactly G
    slices_exactly =
        sym fronts_whole
        ∙ subst (λ (m : ℕ). fronts m (slices_in banks cells) ≡ exactly G) kept_banks
        (fronts_exactly G (slices_in banks cells) (tally_in banks cells) kept_plan)

    came : come_back name s t moved shelf ≡ came_back banks cells s moved
    unfolding come_back back_by
    came = rw (accepted_number e) refl

    pub back_slices : (come_back name s t moved shelf).slices ≡ plan_in G s
    unfolding came_back
    back_slices =
        rw came (ap (λ (c : Slices). over_all c s) slices_exactly ∙ over_exactly G (slices_in banks cells) (tally_in banks cells) kept_plan s)

    pub back_tally : (come_back name s t moved shelf).tally ≡ tally_in banks cells
    unfolding came_back
    back_tally = rw came refl

    -- the kept cap fits it
    pub back_cap : T (cap_fits (come_back name s t moved shelf).tally)
    back_cap = rw back_tally (used_cap banks shelf ok.right (place_of name) ok.near ok.is_used)

    -- memory holds the plan of the clashes of the state returned to,
    pub back_plan : PlanOf G (come_back name s t moved shelf).slices (come_back name s t moved shelf).tally
    unfolding graph_in
    back_plan =
        rw (back_slices, back_tally) (record {
          clashes = kept_plan.clashes;
          long = long_again G s ok.enough;
          cells = plan_again G s;
          tally = kept_plan.tally;
        })

    -- and its waves are the rule's
    pub back_waves : (x : ℕ) → x < banks → get_or (come_back name s t moved shelf).slices.waves x 0 ≡ wave G x
    unfolding graph_in
    back_waves x h = (held_of G (come_back name s t moved shelf).slices (come_back name s t moved shelf).tally back_plan).waves x h

    -- the front of the moved slice lists the banks whose wave differs, ascending
    same_waves-law : (x : ℕ) → x < banks → get_or (slices_in banks cells).waves x 0 ≡ get_or (come_back name s t moved shelf).slices.waves x 0
    unfolding graph_in
    same_waves-law x h = (held_of G (slices_in banks cells) (tally_in banks cells) kept_plan).waves x h ∙ sym (back_waves x h)

    differ_same : differing banks s.waves (slices_in banks cells).waves ≡ differing banks s.waves (come_back name s t moved shelf).slices.waves
    unfolding differing
    differ_same =
        filter_cong _ _ (upto banks) (λ x m. ap (λ (w : ℕ). not (eqb (get_or s.waves x 0) w)) (same_waves-law x (upto_below banks x m)))

    pub back_count : (come_back name s t moved shelf).count ≡ length (differing banks s.waves (come_back name s t moved shelf).slices.waves)
    unfolding came_back
    back_count = counted ∙ ap length differ_same
      where
        counted : (come_back name s t moved shelf).count ≡ length (differing banks s.waves (slices_in banks cells).waves)
        counted = rw came refl

    pub back_moved : take (come_back name s t moved shelf).count (come_back name s t moved shelf).moved
        ≡ differing banks s.waves (come_back name s t moved shelf).slices.waves
    unfolding came_back over
    back_moved = listed ∙ differ_same
      where
        listed : take (come_back name s t moved shelf).count (come_back name s t moved shelf).moved
            ≡ differing banks s.waves (slices_in banks cells).waves
        listed =
            rw came
            (first (differing banks s.waves (slices_in banks cells).waves) (drop (length (differing banks s.waves (slices_in banks cells).waves)) moved)
            (length (differing banks s.waves (slices_in banks cells).waves)) refl)

-- a refused one answers its number and the count 0, and leaves all as it was
pub back_unchanged : (name : List ℕ) (s : Slices) (t : Tally) (moved shelf : List ℕ) → ((come_back name s t moved shelf).number ≡ 0 → ⊥)
    → come_back name s t moved shelf ≡ back_result (come_back name s t moved shelf).number 0 s t moved
unfolding come_back back_by came_back
back_unchanged name s t moved shelf d = go (back_number s t moved name shelf) d
  where
    go : (c : ℕ) → ((back_by c name s t moved shelf).number ≡ 0 → ⊥)
        → back_by c name s t moved shelf ≡ back_result (back_by c name s t moved shelf).number 0 s t moved
    go zero d = absurd (d refl)
    go (suc c) d = refl

-- who is listed: just the banks whose wave differs, ascending
module _ (n : ℕ) (old new : List ℕ) where
  abbrev test : ℕ → Bool
  test x = not (eqb (get_or old x 0) (get_or new x 0))

  pub differing_members : (b : ℕ) → memb b (differing n old new) ≡ (ltb b n && not (eqb (get_or old b 0) (get_or new b 0)))
  unfolding differing
  differing_members b =
      test_ext (memb b (filter test (upto n))) (ltb b n && test b)
      (λ m. let r = filter_in test (upto n) b m in both (ltb b n) (test b) (lt→ltb b n (upto_below n b r.0)) r.1)
      (λ u. in_filter test (upto n) b (in_upto n b (ltb→lt b n (and_l (ltb b n) (test b) u))) (and_r (ltb b n) (test b) u))

  pub differing_sorted : Sorted ltb (differing n old new)
  unfolding differing
  differing_sorted = sorted_filter ltb test (upto n) (sorted_upto n)
