-- What is counted as kept stands on the shelf, with its total in its tally: after a keeping, and where a state comes back.
use mathlib.Core.Bool.{Bool, true, false, cond, ◌&&◌}
use mathlib.Core.List.{List, [], ◌∷◌}
use mathlib.Core.Path.{◌≡◌, refl, sym, ap, subst, ◌∙◌}
use Prim.Native.Nat.{ℕ, zero, suc, ◌<◌}
use native.Mathlib.Omega.{arith}
use lib.Dec.{leb, ltb, eqb}
use lib.ListN.{length}
use borrow.Author.Tests.{ltb-true, eqb-true, eqb-false}
use Rattle.memory.specs.declared.Tally.{Tally}
use Rattle.memory.specs.Plan.{Slices, long_enough, holds}
use Rattle.memory.proofs.Theorems.{long}
use Rattle.planner.proofs.Numbers.{none}
use Rattle.shelf.specs.Names.{place_of, known}
use Rattle.shelf.specs.Shelf.{place, tally_in, shelf_right}
use Rattle.checkpoints.specs.Calls.{shelf_long, keep, back_number, came_back, back_by, come_back}
use Rattle.checkpoints.proofs.Theorems.{kept_here, kept_other}
use Rattle.checkpoints.proofs.Kept.{kept_tally}
use Rattle.checkpoints.proofs.Returns.{keepable, keep_number-law}
use Rattle.totals.specs.Totals.{Kept, Count, of_banks, kept_in, kept_total}

-- the states of place i: the tally that stands there has their total
abbrev pub Stored : ℕ → List ℕ → List Kept → Type 0
Stored i shelf [] = Unit {0}
Stored i shelf (k ∷ ks) = ((tally_in k.banks (place k.banks i shelf)).clashes ≡ k.total) × Stored i shelf ks

-- where the place of n banks stays, those of n banks do
stays : (n i : ℕ) (shelf shelf' : List ℕ) → place n i shelf' ≡ place n i shelf → (ks : List Kept) → Stored i shelf ks → Stored i shelf' (of_banks n ks)
unfolding of_banks
stays n i shelf shelf' e [] st = tt
stays n i shelf shelf' e (k ∷ ks) st = go (eqb k.banks n) refl (stays n i shelf shelf' e ks st.1)
  where
    go : (t : Bool) → eqb k.banks n ≡ t → Stored i shelf' (of_banks n ks) → Stored i shelf' (cond t (k ∷ of_banks n ks) (of_banks n ks))
    go true q rest =
        let same : place k.banks i shelf' ≡ place k.banks i shelf =
        subst (λ (x : ℕ). place x i shelf' ≡ place x i shelf) (sym (eqb-true k.banks n q)) e in
        (ap (λ (cells : List ℕ). (tally_in k.banks cells).clashes) same ∙ st.0, rest)
    go false q rest = rest

-- one of n banks: the tally that stands there has its total
pub own_total : (n i : ℕ) (shelf : List ℕ) (t : ℕ) (ks : List Kept) → Stored i shelf ks → (of_banks n ks ≡ [] → ⊥)
    → (tally_in n (place n i shelf)).clashes ≡ kept_total (of_banks n ks) t
unfolding of_banks kept_total
own_total n i shelf t [] st own = absurd (own refl)
own_total n i shelf t (k ∷ ks) st own = go (eqb k.banks n) refl own (own_total n i shelf t ks st.1)
  where
    go : (b : Bool) → eqb k.banks n ≡ b → (cond b (k ∷ of_banks n ks) (of_banks n ks) ≡ [] → ⊥)
        → ((of_banks n ks ≡ [] → ⊥) → (tally_in n (place n i shelf)).clashes ≡ kept_total (of_banks n ks) t)
        → (tally_in n (place n i shelf)).clashes ≡ kept_total (cond b (k ∷ of_banks n ks) (of_banks n ks)) t
    go true q o rest = subst (λ (x : ℕ). (tally_in x (place x i shelf)).clashes ≡ k.total) (eqb-true k.banks n q) st.0
    go false q o rest = rest o

-- an accepted keeping
module _ (name : List ℕ) (s : Slices) (t : Tally) (shelf : List ℕ) (accepted : (keep name s t shelf).number ≡ 0) where
  abbrev after : List ℕ
  after = (keep name s t shelf).shelf

  here : (tally_in t.banks (place t.banks (place_of name) after)).clashes ≡ t.clashes
  here =
      let can = keepable s t name shelf (sym (keep_number-law s t name shelf) ∙ accepted) in
      ap (λ (cells : List ℕ). (tally_in t.banks cells).clashes) (kept_here name s t shelf accepted)
      ∙ ap (λ (u : Tally). u.clashes) (kept_tally s t (long t.banks s can.long))

  pub keep_stored : (q : Count) → t.banks ≡ q.banks → t.clashes ≡ q.total → ((i : ℕ) → i < 3 → Stored i shelf (q.kept i))
      → (i : ℕ) → i < 3 → Stored i (keep name s t shelf).shelf (kept_in (place_of name) q i)
  unfolding kept_in
  keep_stored q banks clashes stored i h = go (eqb i (place_of name)) refl
    where
      go : (b : Bool) → eqb i (place_of name) ≡ b
          → Stored i after (cond b (record { banks = q.banks; total = q.total } ∷ []) (of_banks q.banks (q.kept i)))
      go true e =
          let at_place : (tally_in t.banks (place t.banks i after)).clashes ≡ q.total =
          rw (eqb-true i (place_of name) e) (here ∙ clashes) in
          (subst (λ (n : ℕ). (tally_in n (place n i after)).clashes ≡ q.total) banks at_place, tt)
      go false e =
          let same = kept_other name s t shelf accepted i h (eqb-false i (place_of name) e) in
          stays q.banks i shelf after (subst (λ (n : ℕ). place n i after ≡ place n i shelf) banks same) (q.kept i) (stored i h)

-- an accepted return
module _ (name : List ℕ) (s : Slices) (t : Tally) (moved shelf : List ℕ) where
  by_number : (c : ℕ) → (back_by c name s t moved shelf).number ≡ 0
      → (c ≡ 0) × ((back_by c name s t moved shelf).tally ≡ tally_in t.banks (place t.banks (place_of name) shelf))
  unfolding back_by came_back
  by_number zero e = (refl, refl)
  by_number (suc c) e = absurd (omega (arith, e))

  pub back_tally : (come_back name s t moved shelf).number ≡ 0
      → (come_back name s t moved shelf).tally ≡ tally_in t.banks (place t.banks (place_of name) shelf)
  unfolding come_back
  back_tally e = (by_number (back_number s t moved name shelf) e).1

  pub back_near : (come_back name s t moved shelf).number ≡ 0 → place_of name < 3
  unfolding come_back back_number known
  back_near e =
      let n = t.banks in
      let q₁ = none (leb n 1024) 0 _ (by_number (back_number s t moved name shelf) e).0 in
      let q₂ = none (long_enough n s && (leb n (length moved) && shelf_long n shelf)) 1 _ q₁.1 in
      let q₃ = none (holds s t && shelf_right n shelf) 2 _ q₂.1 in
      ltb-true (place_of name) 3 (none (ltb (place_of name) 3) 15 _ q₃.1).0
