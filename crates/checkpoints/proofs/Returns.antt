-- Coming back to what was kept, whatever keepings under other names lie between.
use mathlib.Core.Bool.{true, ◌&&◌}
use mathlib.Core.List.{List, [], ◌∷◌}
use mathlib.Core.Path.{◌≡◌, refl, sym, ap, ◌∙◌, subst}
use Prim.Native.Nat.{ℕ, zero, suc, ◌*◌, ◌≤◌, ◌<◌}
use native.Mathlib.Omega.{arith}
use native.Mathlib.Decide.{ℕ_discrete}
use borrow.Author.Tests.{leb-true}
use lib.Dec.{T, leb, ltb, ltb→lt}
use lib.ListN.{length, drop}
use Rattle.rule.proofs.Booleans.{both_true, t_along}
use Rattle.memory.specs.declared.Tally.{Tally}
use Rattle.memory.specs.Plan.{Slices, long_enough, graph_in, cap_fits, holds, PlanOf}
use Rattle.memory.proofs.Theorems.{long, holds_plan-law, holds_cap}
use Rattle.planner.proofs.Numbers.{none, held_number}
use Rattle.text.specs.Places.{put}
use Rattle.shelf.specs.Names.{place_of, known}
use Rattle.shelf.specs.Shelf.{place_size, place, place_right, shelf_right, place_cells}
use Rattle.checkpoints.specs.Calls.{shelf_long, keep_number, kept_under, keep_by, keep}
use Rattle.checkpoints.specs.Between.{Keeping, after_keepings, Other, Others}
use Rattle.shelf.proofs.Putting.{drop_after, put_again}
use Rattle.shelf.proofs.Places.{place_room}
use Rattle.checkpoints.proofs.Numbers.{shelf_fine, keep_fine}
use Rattle.checkpoints.proofs.Calls.{length_place_cells}
use Rattle.checkpoints.proofs.Shelves.{length_after, place_here, place_other, kept_right, all_right, each_right}

-- what the number 0 of a keeping says
pub record Keepable (s : Slices) (t : Tally) (name shelf : List ℕ) : Type 0 where
  pub few : t.banks ≤ 1024
  pub long : long_enough t.banks s ≡ true
  pub room : 3 * place_size t.banks ≤ length shelf
  pub plan : PlanOf (graph_in t.banks s) s t
  pub cap : T (cap_fits t)
  pub right : shelf_right t.banks shelf ≡ true
  pub near : place_of name < 3

module _ (s : Slices) (t : Tally) (name shelf : List ℕ) where
  abbrev n : ℕ
  n = t.banks

  pub keepable : keep_number s t name shelf ≡ 0 → Keepable s t name shelf
  unfolding keep_number shelf_long known
  keepable e =
      let first = none (leb n 1024) 0 _ e in
      let second = none (long_enough n s && leb (3 * place_size n) (length shelf)) 1 _ first.1 in
      let third = none (holds s t && shelf_right n shelf) 2 _ second.1 in
      let fourth = none (ltb (place_of name) 3) 15 _ third.1 in
      let few = leb-true n 1024 first.0 in
      let rooms = both_true (long_enough n s) (leb (3 * place_size n) (length shelf)) second.0 in
      let plans = both_true (holds s t) (shelf_right n shelf) third.0 in
      record {
        few = few;
        long = rooms.0;
        room = leb-true (3 * place_size n) (length shelf) rooms.1;
        plan = holds_plan-law s t few (t_along (sym plans.0) tt);
        cap = holds_cap s t (t_along (sym plans.0) tt);
        right = plans.1;
        near = ltb→lt (place_of name) 3 (t_along (sym fourth.0) tt);
      }

  -- an accepted keeping
  module _ (z : keep_number s t name shelf ≡ 0) where
    abbrev can : Keepable s t name shelf
    can = keepable z

    pub kept_shelf : (keep name s t shelf).shelf ≡ put (place_cells s t) (place_of name * place_size n) shelf
    unfolding keep keep_by kept_under
    kept_shelf = rw z refl

    size : length (place_cells s t) ≡ place_size n
    size = length_place_cells s t (long n s can.long)

    pub kept_length : length (keep name s t shelf).shelf ≡ length shelf
    kept_length = rw kept_shelf (length_after n (place_of name) can.near (place_cells s t) shelf size can.room)

    pub kept_here : place n (place_of name) (keep name s t shelf).shelf ≡ place_cells s t
    kept_here = rw kept_shelf (place_here n (place_of name) can.near (place_cells s t) shelf size can.room)

    pub kept_other : (j : ℕ) → j < 3 → (j ≡ place_of name → ⊥) → place n j (keep name s t shelf).shelf ≡ place n j shelf
    kept_other j h d = rw kept_shelf (place_other n (place_of name) can.near (place_cells s t) shelf size can.room j h d)

    pub kept_beyond : drop (3 * place_size n) (keep name s t shelf).shelf ≡ drop (3 * place_size n) shelf
    kept_beyond =
        rw kept_shelf
        (drop_after (place_cells s t) (place_of name * place_size n) shelf (omega (arith, size, place_room (place_of name) (place_size n) can.near, can.room))
        (3 * place_size n) (omega (arith, size, place_room (place_of name) (place_size n) can.near)))

    -- question 5 of the shelf is answered by yes again
    pub kept_shelf_right : shelf_right n (keep name s t shelf).shelf ≡ true
    kept_shelf_right = all_right n (keep name s t shelf).shelf each
      where
        each : (i : ℕ) → i < 3 → place_right n (place n i (keep name s t shelf).shelf) ≡ true
        each i h = go (ℕ_discrete i (place_of name))
          where
            go : Dec (i ≡ place_of name) → place_right n (place n i (keep name s t shelf).shelf) ≡ true
            go (yes e) = rw (e, kept_here) (kept_right (graph_in n s) s t can.plan can.cap)
            go (no d) = rw (kept_other i h d) (each_right n shelf can.right i h)

  -- the call's number
  pub keep_number-law : (keep name s t shelf).number ≡ keep_number s t name shelf
  unfolding keep keep_by
  keep_number-law = go (keep_number s t name shelf)
    where
      go : (c : ℕ) → (keep_by c name s t shelf).number ≡ c
      go zero = refl
      go (suc c) = refl

  -- a refused one
  pub keep_unchanged : (keep_number s t name shelf ≡ 0 → ⊥) → (keep name s t shelf).shelf ≡ shelf
  unfolding keep keep_by
  keep_unchanged d = go (keep_number s t name shelf) d
    where
      go : (c : ℕ) → (c ≡ 0 → ⊥) → (keep_by c name s t shelf).shelf ≡ shelf
      go zero d = absurd (d refl)
      go (suc c) d = refl

-- a second keeping of as many banks would be accepted without the first
pub accepted_before : (s : Slices) (t : Tally) (name shelf : List ℕ) → keep_number s t name shelf ≡ 0 → (s' : Slices) (t' : Tally) → t'.banks ≡ t.banks
    → keep_number s' t' name (keep name s t shelf).shelf ≡ 0 → keep_number s' t' name shelf ≡ 0
accepted_before s t name shelf z s' t' e y =
    let can = keepable s t name shelf z in
    let can' = keepable s' t' name (keep name s t shelf).shelf y in
    keep_fine s' t' name shelf (shelf_fine t'.banks shelf can'.few (rw e can.room)) (held_number (graph_in t'.banks s') s' t' can'.plan can'.cap)
    (rw e can.right) can.near

-- and replaces it
pub kept_again : (s : Slices) (t : Tally) (name shelf : List ℕ) → keep_number s t name shelf ≡ 0 → (s' : Slices) (t' : Tally) → t'.banks ≡ t.banks
    → keep_number s' t' name (keep name s t shelf).shelf ≡ 0
    → (keep name s' t' (keep name s t shelf).shelf).shelf ≡ (keep name s' t' shelf).shelf
kept_again s t name shelf z s' t' e y =
    let z' = accepted_before s t name shelf z s' t' e y in
    let can = keepable s t name shelf z in
    let can' = keepable s' t' name shelf z' in
    let new = place_cells s' t' in
    let old = place_cells s t in
    let at = place_of name * place_size t'.banks in
    let l = length_place_cells s t (long t.banks s can.long) in
    let l' = length_place_cells s' t' (long t'.banks s' can'.long) in
    let room = place_room (place_of name) (place_size t'.banks) can.near in
    kept_shelf s' t' name (keep name s t shelf).shelf y
    ∙ ap (put new at) (kept_shelf s t name shelf z)
    ∙ ap (λ (m : ℕ). put new at (put old (place_of name * place_size m) shelf)) (sym e)
    ∙ put_again old at shelf (omega (arith, l, e, room, can'.room)) new (omega (arith, l, l', e))
    ∙ sym (kept_shelf s' t' name shelf z')

-- a shelf on which the plan in s and t is kept under the name
pub record KeptOn (name : List ℕ) (s : Slices) (t : Tally) (shelf : List ℕ) : Type 0 where
  pub room : 3 * place_size t.banks ≤ length shelf
  pub right : shelf_right t.banks shelf ≡ true
  pub here : place t.banks (place_of name) shelf ≡ place_cells s t

pub kept_on : (name : List ℕ) (s : Slices) (t : Tally) (shelf : List ℕ) → keep_number s t name shelf ≡ 0 → KeptOn name s t (keep name s t shelf).shelf
kept_on name s t shelf z = record {
  room = omega (arith, kept_length s t name shelf z, (keepable s t name shelf z).room);
  right = kept_shelf_right s t name shelf z;
  here = kept_here s t name shelf z;
}

-- a keeping leaves it there that is refused, or of as many banks and under another name; and so do any number of them
module _ (name : List ℕ) (near : place_of name < 3) (s : Slices) (t : Tally) where
  keep_leaves : (shelf : List ℕ) → KeptOn name s t shelf → (k : Keeping) → ((keep k.name k.slices k.tally shelf).number ≡ 0 → Other t.banks name k)
      → KeptOn name s t (keep k.name k.slices k.tally shelf).shelf
  keep_leaves shelf h k o = go (ℕ_discrete (keep_number k.slices k.tally k.name shelf) 0)
    where
      after : List ℕ
      after = (keep k.name k.slices k.tally shelf).shelf

      go : Dec (keep_number k.slices k.tally k.name shelf ≡ 0) → KeptOn name s t (keep k.name k.slices k.tally shelf).shelf
      go (yes z) =
          let other = o (keep_number-law k.slices k.tally k.name shelf ∙ z) in
          record {
            room = omega (arith, kept_length k.slices k.tally k.name shelf z, h.room);
            right = subst (λ (m : ℕ). shelf_right m after ≡ true) other.banks (kept_shelf_right k.slices k.tally k.name shelf z);
            here =
                subst (λ (m : ℕ). place m (place_of name) after ≡ place m (place_of name) shelf) other.banks
                (kept_other k.slices k.tally k.name shelf z (place_of name) near (λ f. other.differs (sym f)))
                ∙ h.here;
          }
      go (no c) = rw (keep_unchanged k.slices k.tally k.name shelf c) h

  pub keepings_leave : (ks : List Keeping) (shelf : List ℕ) → Others t.banks name ks shelf → KeptOn name s t shelf → KeptOn name s t (after_keepings ks shelf)
  unfolding after_keepings
  keepings_leave [] shelf o h = h
  keepings_leave (k ∷ ks) shelf o h = keepings_leave ks (keep k.name k.slices k.tally shelf).shelf o.1 (keep_leaves shelf h k o.0)
