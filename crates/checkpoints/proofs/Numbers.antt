-- The numbers of the calls on the shelf, case by case.
use mathlib.Core.Bool.{Bool, true, false, cond, ◌&&◌}
use mathlib.Core.List.{List, [], ◌∷◌}
use mathlib.Core.Logic.{◌≢◌}
use mathlib.Core.Path.{◌≡◌, refl, sym, ◌∙◌}
use native.Mathlib.Omega.{arith}
use Prim.Native.Nat.{ℕ, ◌+◌, ◌*◌, ◌≤◌, ◌<◌}
use borrow.Author.Tests.{le-leb, lt-leb, leb-true, lt-ltb, le-ltb}
use lib.Dec.{leb}
use lib.ListN.{length, get_or}
use Rattle.rule.proofs.Booleans.{and_false}
use Rattle.memory.specs.declared.Tally.{Tally}
use Rattle.memory.specs.Plan.{Slices, long_enough, holds}
use Rattle.planner.specs.Questions.{first_no}
use Rattle.planner.specs.Calls.{plan_number}
use Rattle.planner.proofs.Numbers.{none, Passed, plan_passed}
use Rattle.shelf.specs.Names.{place_of, known}
use Rattle.shelf.specs.Shelf.{place_size, place, used, shelf_right}
use Rattle.checkpoints.specs.Calls.{shelf_long, open_shelf_number, keep_number, back_number}
use Rattle.checkpoints.specs.inner.Steps.{KeepReady}
use Rattle.shelf.proofs.Places.{place_room, cell_used, cell_unused}

-- opening a shelf
module _ (n : ℕ) (shelf : List ℕ) where
  pub shelf_many : 1024 < n → open_shelf_number n shelf ≡ 1
  unfolding open_shelf_number first_no
  shelf_many h = rw (lt-leb n 1024 h)

  pub shelf_short : n ≤ 1024 → length shelf < 3 * place_size n → open_shelf_number n shelf ≡ 2
  unfolding open_shelf_number first_no shelf_long
  shelf_short h k = rw (le-leb n 1024 h, lt-leb (3 * place_size n) (length shelf) k)

  pub shelf_fine : n ≤ 1024 → 3 * place_size n ≤ length shelf → open_shelf_number n shelf ≡ 0
  unfolding open_shelf_number first_no shelf_long
  shelf_fine h k = rw (le-leb n 1024 h, le-leb (3 * place_size n) (length shelf) k)

  pub shelf_passed : open_shelf_number n shelf ≡ 0 → (n ≤ 1024) × (3 * place_size n ≤ length shelf)
  unfolding open_shelf_number shelf_long
  shelf_passed e =
      let q = none (leb n 1024) 0 (record { holds = leb (3 * place_size n) (length shelf); number = 2 } ∷ []) e in
      let r = none (leb (3 * place_size n) (length shelf)) 1 [] q.1 in
      (leb-true n 1024 q.0, leb-true (3 * place_size n) (length shelf) r.0)

-- keeping
module _ (s : Slices) (t : Tally) (name shelf : List ℕ) where
  abbrev n : ℕ
  n = t.banks

  -- the shelf's own refusals
  pub keep_shelf : (c : ℕ) → open_shelf_number n shelf ≡ c → c ≢ 0 → keep_number s t name shelf ≡ c
  unfolding keep_number open_shelf_number first_no
  keep_shelf c e d = go (leb n 1024) (long_enough n s) (shelf_long n shelf) e
    where
      go : (x y z : Bool) → cond x (cond z 0 2) 1 ≡ c
          → cond x (cond (y && z) (cond (holds s t && shelf_right n shelf) (cond (known name) 0 16) 3) 2) 1 ≡ c
      go true y true f = absurd (d (sym f))
      go true true false f = f
      go true false false f = f
      go false y z f = f

  -- with room on the shelf, the plan's refusals
  pub keep_plan : (c : ℕ) → open_shelf_number n shelf ≡ 0 → plan_number s t ≡ c → c ≢ 0 → keep_number s t name shelf ≡ c
  unfolding keep_number open_shelf_number plan_number first_no
  keep_plan c o e d = go (leb n 1024) (long_enough n s) (shelf_long n shelf) (holds s t) o e
    where
      go : (x y z h : Bool) → ◌≡◌ {A = ℕ} (cond x (cond z 0 2) 1) 0 → cond x (cond y (cond h 0 3) 2) 1 ≡ c
          → cond x (cond (y && z) (cond (h && shelf_right n shelf) (cond (known name) 0 16) 3) 2) 1 ≡ c
      go true true true true o f = absurd (d (sym f))
      go true true true false o f = f
      go true true false h o f = absurd (omega arith)
      go true false z h o f = f
      go false y z h o f = absurd (omega arith)

  module _ (o : open_shelf_number n shelf ≡ 0) (p : plan_number s t ≡ 0) where
    abbrev room : (n ≤ 1024) × (3 * place_size n ≤ length shelf)
    room = shelf_passed n shelf o

    abbrev plan : Passed s t
    plan = plan_passed s t p

    pub keep_wrong : shelf_right n shelf ≡ false → keep_number s t name shelf ≡ 3
    unfolding keep_number first_no shelf_long
    keep_wrong f =
        rw (le-leb n 1024 room.0, plan.long, le-leb (3 * place_size n) (length shelf) room.1, plan.plan, f)

    pub keep_unknown : shelf_right n shelf ≡ true → 3 ≤ place_of name → keep_number s t name shelf ≡ 16
    unfolding keep_number first_no shelf_long known
    keep_unknown f k =
        rw (
          le-leb n 1024 room.0,
          plan.long,
          le-leb (3 * place_size n) (length shelf) room.1,
          plan.plan,
          f,
          le-ltb (place_of name) 3 k,
        )

    pub keep_fine : shelf_right n shelf ≡ true → place_of name < 3 → keep_number s t name shelf ≡ 0
    unfolding keep_number first_no shelf_long known
    keep_fine f k =
        rw (
          le-leb n 1024 room.0,
          plan.long,
          le-leb (3 * place_size n) (length shelf) room.1,
          plan.plan,
          f,
          lt-ltb (place_of name) 3 k,
        )

    pub keep_ready : place_of name < 3 → KeepReady s t name shelf
    keep_ready k = record { few = room.0; long = plan.long; room = room.1; known = k }

-- the place of the name stands on the shelf
pub place_lent : {s : Slices} {t : Tally} {name shelf : List ℕ} → KeepReady s t name shelf → {i size : ℕ} → i ≡ place_of name → size ≡ place_size t.banks
    → (i * size + size ≤ length shelf) × (i * size + size ≤ 153615)
place_lent ready {i} {size} is e =
    let room = place_room i size (omega (arith, ready.known, is)) in
    (omega (arith, room, ready.room, e), omega (arith, room, ready.few, e))

-- coming back
module _ (s : Slices) (t : Tally) (moved name shelf : List ℕ) where
  abbrev banks : ℕ
  banks = t.banks

  pub back_many : 1024 < banks → back_number s t moved name shelf ≡ 1
  unfolding back_number first_no
  back_many h = rw (lt-leb banks 1024 h)

  pub back_short : banks ≤ 1024 → length moved < banks → back_number s t moved name shelf ≡ 2
  unfolding back_number first_no
  back_short h k = rw (le-leb banks 1024 h, lt-leb banks (length moved) k, and_false)

  -- with room for moved, the refusals of keeping, and then whether the place is used
  pub back_keep : (c : ℕ) → banks ≤ length moved → keep_number s t name shelf ≡ c → c ≢ 0 → back_number s t moved name shelf ≡ c
  unfolding keep_number back_number first_no
  back_keep c h e d =
      rw (le-leb banks (length moved) h)
      (go (leb banks 1024) (long_enough banks s && shelf_long banks shelf) (holds s t && shelf_right banks shelf) (known name) e)
    where
      go : (x y z k : Bool) → cond x (cond y (cond z (cond k 0 16) 3) 2) 1 ≡ c
          → cond x (cond y (cond z (cond k (cond (used (place banks (place_of name) shelf)) 0 17) 16) 3) 2) 1 ≡ c
      go true true true true f = absurd (d (sym f))
      go true true true false f = f
      go true true false k f = f
      go true false z k f = f
      go false y z k f = f

  pub back_used : banks ≤ length moved → keep_number s t name shelf ≡ 0
      → back_number s t moved name shelf ≡ cond (used (place banks (place_of name) shelf)) 0 17
  unfolding keep_number back_number first_no
  back_used h e =
      rw (le-leb banks (length moved) h)
      (go (leb banks 1024) (long_enough banks s && shelf_long banks shelf) (holds s t && shelf_right banks shelf) (known name) e)
    where
      go : (x y z k : Bool) → ◌≡◌ {A = ℕ} (cond x (cond y (cond z (cond k 0 16) 3) 2) 1) 0
          → ◌≡◌ {A = ℕ} (cond x (cond y (cond z (cond k (cond (used (place banks (place_of name) shelf)) 0 17) 16) 3) 2) 1)
          (cond (used (place banks (place_of name) shelf)) 0 17)
      go true true true true f = refl
      go true true true false f = absurd (omega arith)
      go true true false k f = absurd (omega arith)
      go true false z k f = absurd (omega arith)
      go false y z k f = absurd (omega arith)

  -- by the used cell of the name's place
  module _ (at : ℕ) (h : banks ≤ length moved) (z : keep_number s t name shelf ≡ 0) (e : at ≡ place_of name * place_size banks) where
    pub back_unused : (get_or shelf at 0 ≡ 1 → ⊥) → back_number s t moved name shelf ≡ 17
    back_unused d = back_used h z ∙ rw (cell_unused banks (place_of name) at shelf e d) refl

    pub back_fine : get_or shelf at 0 ≡ 1 → back_number s t moved name shelf ≡ 0
    back_fine u = back_used h z ∙ rw (cell_used banks (place_of name) at shelf e u) refl
