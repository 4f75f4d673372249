-- Coming back to a plan that is kept gives it back, with its cap.
use mathlib.Core.Bool.{true}
use mathlib.Core.List.{List}
use mathlib.Core.Path.{◌≡◌, refl, ◌∙◌}
use Prim.Native.Nat.{ℕ, ◌*◌, ◌≤◌, ◌<◌}
use native.Mathlib.Omega.{arith}
use lib.Dec.{T}
use lib.ListN.{length, take, drop}
use lib.Seq.{length-take-le}
use Rattle.rule.specs.Graph.{Graph}
use Rattle.memory.specs.declared.Tally.{Tally}
use Rattle.memory.specs.Cells.{over}
use Rattle.memory.specs.Plan.{Slices, long_enough, cap_fits, PlanOf}
use Rattle.memory.proofs.Views.{tally_banks}
use Rattle.memory.proofs.Theorems.{long}
use Rattle.planner.proofs.Numbers.{held_number}
use Rattle.shelf.specs.Names.{place_of}
use Rattle.shelf.specs.Shelf.{place, used, place_cells}
use Rattle.checkpoints.specs.Calls.{keep_number, back_number, over_all, came_back, back_by, come_back}
use Rattle.checkpoints.specs.Between.{GivesBack}
use Rattle.shelf.proofs.Putting.{first}
use Rattle.checkpoints.proofs.Numbers.{shelf_fine, keep_fine, back_used}
use Rattle.checkpoints.proofs.Kept.{kept_cell, kept_slices, kept_tally}
use Rattle.checkpoints.proofs.Returns.{KeptOn}

-- cells of a front
over_front : (k : ℕ) (xs ys : List ℕ) → k ≤ length xs → take k (over (take k xs) ys) ≡ take k xs
unfolding over
over_front k xs ys h = first (take k xs) (drop (length (take k xs)) ys) k (length-take-le k xs h)

-- coming back to a plan that is kept
module _ (name : List ℕ) (near : place_of name < 3) (s : Slices) (t : Tally) (enough : long_enough t.banks s ≡ true) (shelf : List ℕ)
    (kept : KeptOn name s t shelf) (G : Graph) (s' : Slices) (t' : Tally) (plan : PlanOf G s' t') (fits : T (cap_fits t')) (same : t'.banks ≡ t.banks)
    (moved : List ℕ) (room : t.banks ≤ length moved) where
  abbrev n : ℕ
  n = t.banks

  few : t'.banks ≤ 1024
  few = omega (arith, tally_banks t' G plan.tally, plan.clashes.most)

  can_keep : keep_number s' t' name shelf ≡ 0
  can_keep =
      keep_fine s' t' name shelf (shelf_fine t'.banks shelf few (rw same kept.room)) (held_number G s' t' plan fits)
      (rw same kept.right) near

  here_used : used (place n (place_of name) shelf) ≡ true
  unfolding used
  here_used = rw (kept.here, kept_cell s t (long n s enough)) refl

  back_accepted : back_number s' t' moved name shelf ≡ 0
  back_accepted = back_used s' t' moved name shelf (rw same room) can_keep ∙ rw (same, here_used) refl

  came_back-law : come_back name s' t' moved shelf ≡ came_back n (place_cells s t) s' moved
  unfolding come_back back_by
  came_back-law = rw (back_accepted, same, kept.here) refl

  pub gives_back : GivesBack n s t (come_back name s' t' moved shelf)
  unfolding came_back over_all
  gives_back =
      let l = long n s enough in
      rw came_back-law (record {
        number = refl;
        cells =
            rw (
              kept_slices s t l,
              over_front (23 * n) s.neighbours s'.neighbours l.neighbours,
              over_front n s.degrees s'.degrees l.degrees,
              over_front n s.waves s'.waves l.waves,
              over_front (24 * n) s.counts s'.counts l.counts,
              over_front n s.ranks s'.ranks l.ranks,
            ) refl;
        tally = kept_tally s t l;
      })
