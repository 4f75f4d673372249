-- A shelf that the run opened and uses for one bank count: what is used on it, the run kept. So its returns are to its own states.
use mathlib.Core.Bool.{Bool, true, false, cond, ◌&&◌}
use mathlib.Core.List.{List, [], ◌∷◌}
use mathlib.Core.Path.{◌≡◌, refl, sym, ap, subst, ◌∙◌}
use Prim.Native.Nat.{ℕ, zero, suc, ◌<◌}
use native.Mathlib.Omega.{arith}
use lib.Dec.{leb, ltb, eqb}
use lib.ListN.{length}
use borrow.Author.Tests.{eqb-false, eq-eqb}
use Rattle.memory.specs.declared.Tally.{Tally}
use Rattle.memory.specs.Plan.{Slices, long_enough, holds}
use Rattle.planner.proofs.Numbers.{none}
use Rattle.list_rows.specs.declared.row.Row.{Row}
use Rattle.list_rows.specs.declared.row.Row.TheVariants as Rows
use Rattle.list_rows.specs.Rows.{rows_of, first_row}
use Rattle.shelf.specs.Names.{place_of, known}
use Rattle.shelf.specs.Shelf.{place, used, shelf_right}
use Rattle.checkpoints.specs.Calls.{shelf_long, open_shelf, keep, back_number, back_by, come_back}
use Rattle.checkpoints.proofs.Theorems.{none_used, kept_other, open_unchanged, keep_unchanged}
use Rattle.totals.specs.Runs.{Depot, Call, Open, Edit, Record, SetCap, Read, Replay, OpenShelf, Keep, Return, Answer, made}
use Rattle.totals.specs.Totals.{edit_total, Kept, Count, count_of, kept_total, if_accepted, opens_plan, rows_count, entries_count, of_banks, kept_in, counted, Own, Ours, Fits, OneCount}
use Rattle.totals.proofs.Shelves.{back_near}
use Rattle.totals.proofs.Counting.{Agrees, not_both, agrees_after}

-- each used place of n banks has a state that the run kept
abbrev pub Owned : ℕ → List ℕ → (ℕ → List Kept) → Type 0
Owned n shelf kept = (i : ℕ) → i < 3 → used (place n i shelf) ≡ true → of_banks n (kept i) ≡ [] → ⊥

pub some : {k : Kept} {ks : List Kept} → k ∷ ks ≡ [] → ⊥
some e = let q : ◌≡◌ {A = ℕ} 0 1 = cc in omega arith

-- those of n banks are so once more
of_again : (n : ℕ) (ks : List Kept) → of_banks n (of_banks n ks) ≡ of_banks n ks
unfolding of_banks
of_again n [] = refl
of_again n (k ∷ ks) = go (eqb k.banks n) refl (of_again n ks)
  where
    go : (b : Bool) → eqb k.banks n ≡ b → of_banks n (of_banks n ks) ≡ of_banks n ks
        → of_banks n (cond b (k ∷ of_banks n ks) (of_banks n ks)) ≡ cond b (k ∷ of_banks n ks) (of_banks n ks)
    go true e rest = unfold of_banks in rw e (ap (◌∷◌ k) rest)
    go false e rest = rest

-- opened, nothing is used
pub opened_owned : (n : ℕ) (shelf : List ℕ) → (open_shelf n shelf).number ≡ 0 → (kept : ℕ → List Kept) → Owned n (open_shelf n shelf).shelf kept
opened_owned n shelf z kept i h u e = not_both (sym (none_used n shelf z i h) ∙ u)

-- an accepted keeping of n banks
module _ (name : List ℕ) (s : Slices) (t : Tally) (shelf : List ℕ) (accepted : (keep name s t shelf).number ≡ 0) where
  keep_owned : (n : ℕ) (q : Count) → t.banks ≡ n → q.banks ≡ n → Owned n shelf q.kept → Owned n (keep name s t shelf).shelf (kept_in (place_of name) q)
  unfolding kept_in
  keep_owned n q e f owned i h u = go (eqb i (place_of name)) refl
    where
      go : (b : Bool) → eqb i (place_of name) ≡ b
          → of_banks n (cond b (record { banks = q.banks; total = q.total } ∷ []) (of_banks q.banks (q.kept i))) ≡ [] → ⊥
      go true at_place none = unfold of_banks in some (rw (eq-eqb q.banks n f) at none)
      go false other none =
          let same : place n i (keep name s t shelf).shelf ≡ place n i shelf =
          subst (λ (x : ℕ). place x i (keep name s t shelf).shelf ≡ place x i shelf) e (kept_other name s t shelf accepted i h (eqb-false i (place_of name) other)) in
          let twice : of_banks n (of_banks q.banks (q.kept i)) ≡ of_banks n (q.kept i) = rw f (of_again n (q.kept i)) in
          owned i h (sym (ap used same) ∙ u) (sym twice ∙ none)

-- an accepted return is to a used place
back_used : (name : List ℕ) (s : Slices) (t : Tally) (moved shelf : List ℕ) → (come_back name s t moved shelf).number ≡ 0
    → used (place t.banks (place_of name) shelf) ≡ true
unfolding come_back back_number known
back_used name s t moved shelf e =
    let n = t.banks in
    let q₁ = none (leb n 1024) 0 _ (zeroth (back_number s t moved name shelf) e) in
    let q₂ = none (long_enough n s && (leb n (length moved) && shelf_long n shelf)) 1 _ q₁.1 in
    let q₃ = none (holds s t && shelf_right n shelf) 2 _ q₂.1 in
    let q₄ = none (ltb (place_of name) 3) 15 _ q₃.1 in
    (none (used (place n (place_of name) shelf)) 16 [] q₄.1).0
  where
    zeroth : (c : ℕ) → (back_by c name s t moved shelf).number ≡ 0 → c ≡ 0
    zeroth zero f = refl
    zeroth (suc c) f = unfold back_by in f

-- what is counted as kept changes with the shelf alone
if_same : (c banks total : ℕ) (q : Count) → (if_accepted c (count_of banks total q.kept) q).kept ≡ q.kept
unfolding if_accepted
if_same zero banks total q = refl
if_same (suc c) banks total q = refl

rows_same : (b : Bool) (i : ℕ) (rs : List Row) (a : Answer) (q : Count) → (rows_count b i rs a q).kept ≡ q.kept
unfolding rows_count
rows_same true i [] a q = refl
rows_same true i (Rows.Banks n ∷ rs) a q = refl
rows_same true i (Rows.Edit c ∷ rs) a q = refl
rows_same true i (Rows.Unreadable ∷ rs) a q = refl
rows_same true i (Rows.Retired ∷ rs) a q = refl
rows_same false i rs a q = refl

entries_same : (b : Bool) (bytes : List ℕ) (a : Answer) (q : Count) → (entries_count b bytes a q).kept ≡ q.kept
unfolding entries_count
entries_same true bytes a q = refl
entries_same false bytes a q = refl

module _ (n : ℕ) (d : Depot) (q : Count) (agrees : Agrees d q) (owned : Owned n d.shelf q.kept) where
  same_kept : (kept : ℕ → List Kept) → kept ≡ q.kept → Owned n d.shelf kept
  same_kept kept e = rw e owned

  open_by : (x c : ℕ) → (open_shelf x d.shelf).number ≡ c → (c ≡ 0 → x ≡ n) → (new : ℕ → List Kept)
      → Owned n (open_shelf x d.shelf).shelf (if_accepted c (record { banks = q.banks; total = q.total; kept = new }) q).kept
  unfolding if_accepted
  open_by x zero z fits new = subst (λ (y : ℕ). Owned y (open_shelf x d.shelf).shelf new) (fits refl) (opened_owned x d.shelf z new)
  open_by x (suc c) z fits new =
      subst (λ (shelf : List ℕ). Owned n shelf q.kept) (sym (open_unchanged x d.shelf (λ e. omega arith))) owned

  keep_by-law : (name : List ℕ) (c : ℕ) → (keep name d.memory.slices d.memory.tally d.shelf).number ≡ c → (c ≡ 0 → q.banks ≡ n)
      → Owned n (keep name d.memory.slices d.memory.tally d.shelf).shelf
      (if_accepted c (record { banks = q.banks; total = q.total; kept = kept_in (place_of name) q }) q).kept
  unfolding if_accepted
  keep_by-law name zero z fits =
      keep_owned name d.memory.slices d.memory.tally d.shelf z n q (agrees.banks ∙ fits refl) (fits refl) owned
  keep_by-law name (suc c) z fits =
      let same = keep_unchanged name d.memory.slices d.memory.tally d.shelf (λ e. omega arith) in
      subst (λ (shelf : List ℕ). Owned n shelf q.kept) (sym same) owned

  -- every call leaves the shelf the run's own
  pub owned_after : (c : Call) → Fits n c (made c d).answer q → Owned n (made c d).depot.shelf (counted c (made c d).answer q).kept
  unfolding made counted
  owned_after (Open x) fits = same_kept _ (if_same (made (Open x) d).answer.number x 0 q)
  owned_after (Edit k x y) fits = same_kept _ (if_same (made (Edit k x y) d).answer.number q.banks (edit_total k q.total) q)
  owned_after (Record k x y size journal) fits =
      same_kept _ (if_same (made (Record k x y size journal) d).answer.number q.banks (edit_total k q.total) q)
  owned_after (SetCap most) fits = owned
  owned_after (Read bytes) fits = let a = (made (Read bytes) d).answer in same_kept _ (rows_same (opens_plan (first_row bytes) a) (first_row bytes) (rows_of bytes) a q)
  owned_after (Replay bytes) fits = let a = (made (Replay bytes) d).answer in same_kept _ (entries_same (opens_plan 1 a) bytes a q)
  owned_after (OpenShelf x) fits = open_by x (open_shelf x d.shelf).number refl fits (λ i. [])
  owned_after (Keep name) fits = keep_by-law name (keep name d.memory.slices d.memory.tally d.shelf).number refl fits
  owned_after (Return name) fits =
      let total = kept_total (of_banks q.banks (q.kept (place_of name))) q.total in
      same_kept _ (if_same (made (Return name) d).answer.number q.banks total q)

  -- and a return is to a state of the run
  pub own_now : (c : Call) → Fits n c (made c d).answer q → Own c (made c d).answer q
  unfolding made
  own_now (Open x) fits = tt
  own_now (Edit k x y) fits = tt
  own_now (Record k x y size journal) fits = tt
  own_now (SetCap most) fits = tt
  own_now (Read bytes) fits = tt
  own_now (Replay bytes) fits = tt
  own_now (OpenShelf x) fits = tt
  own_now (Keep name) fits = tt
  own_now (Return name) fits = λ accepted nothing.
      let m = d.memory in
      let banks : m.tally.banks ≡ n = agrees.banks ∙ fits accepted in
      let is_used : used (place n (place_of name) d.shelf) ≡ true =
      subst (λ (x : ℕ). used (place x (place_of name) d.shelf) ≡ true) banks (back_used name m.slices m.tally m.moved d.shelf accepted) in
      owned (place_of name) (back_near name m.slices m.tally m.moved d.shelf accepted) is_used
      (subst (λ (x : ℕ). of_banks x (q.kept (place_of name)) ≡ []) (fits accepted) nothing)

-- so it goes on
pub one_count : (n : ℕ) (cs : List Call) (d : Depot) (q : Count) → Agrees d q → Owned n d.shelf q.kept → OneCount n cs d q → Ours cs d q
one_count n [] d q agrees owned fits = tt
one_count n (c ∷ cs) d q agrees owned fits =
    let own = own_now n d q agrees owned c fits.0 in
    let after = agrees_after c d q agrees own in
    (own, one_count n cs (made c d).depot (counted c (made c d).answer q) after (owned_after n d q agrees owned c fits.0) fits.1)
