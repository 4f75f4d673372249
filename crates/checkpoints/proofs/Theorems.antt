-- What others may cite of kept states. Each is restated in full.
use mathlib.Core.Bool.{true, false, ◌&&◌, not}
use mathlib.Core.List.{List}
use mathlib.Core.Logic.{◌↔◌}
use mathlib.Core.Path.{◌≡◌, sym, ◌∙◌}
use Prim.Native.Nat.{ℕ, ◌≤◌, ◌<◌}
use lib.Dec.{T, ltb, eqb}
use lib.ListN.{length, get_or, take, drop}
use Rattle.rule.specs.Graph.{Graph}
use Rattle.rule.specs.Lists.{memb, Sorted}
use Rattle.rule.specs.Wave.{wave}
use Rattle.memory.specs.declared.Tally.{Tally}
use Rattle.memory.specs.Plan.{Slices, cap_fits, PlanOf}
use Rattle.shelf.specs.Names.{morning, noon, close, place_of}
use Rattle.shelf.specs.Shelf.{shelf_size, place, used, tally_in, shelf_right, place_cells}
use Rattle.checkpoints.specs.Calls.{keep_number, open_shelf, keep, back_result, differing, come_back}
use Rattle.checkpoints.specs.Between.{Keeping, after_keepings, Others, GivesBack, clashes_kept}
use Rattle.shelf.proofs.Bytes as Bytes
use Rattle.checkpoints.proofs.Shelves as Shelves
use Rattle.checkpoints.proofs.Opened as Opened
use Rattle.checkpoints.proofs.Returns as Returns
use Rattle.checkpoints.proofs.GivenBack as GivenBack
use Rattle.checkpoints.proofs.Restored as Restored

-- 1. the three names are known, each with its place, and no other bytes are
pub name_first : (name : List ℕ) → place_of name ≡ 0 ↔ (name ≡ morning)
name_first = Bytes.name_first

pub name_second : (name : List ℕ) → place_of name ≡ 1 ↔ (name ≡ noon)
name_second = Bytes.name_second

pub name_third : (name : List ℕ) → place_of name ≡ 2 ↔ (name ≡ close)
name_third = Bytes.name_third

-- 2. on a shelf that was opened, whatever it held before, nothing is used, and question 5 is answered by yes
module _ (n : ℕ) (shelf : List ℕ) (accepted : (open_shelf n shelf).number ≡ 0) where
  pub none_used : (i : ℕ) → i < 3 → used (place n i (open_shelf n shelf).shelf) ≡ false
  none_used = Opened.none_used n shelf (sym (Opened.open_number-law n shelf) ∙ accepted)

  pub opened_right : shelf_right n (open_shelf n shelf).shelf ≡ true
  opened_right = Opened.opened_right n shelf (sym (Opened.open_number-law n shelf) ∙ accepted)

-- on any shelf that question 5 takes, each used place's cap is from 1 to 24 and not below its waves: any other gets 3
pub used_cap : (n : ℕ) (shelf : List ℕ) → shelf_right n shelf ≡ true → (i : ℕ) → i < 3 → used (place n i shelf) ≡ true
    → T (cap_fits (tally_in n (place n i shelf)))
used_cap = Shelves.used_cap

-- 3. an accepted keeping
module _ (name : List ℕ) (s : Slices) (t : Tally) (shelf : List ℕ) (accepted : (keep name s t shelf).number ≡ 0) where
  yes : keep_number s t name shelf ≡ 0
  yes = sym (Returns.keep_number-law s t name shelf) ∙ accepted

  -- fills the place of the name,
  pub kept_here : place t.banks (place_of name) (keep name s t shelf).shelf ≡ place_cells s t
  kept_here = Returns.kept_here s t name shelf yes

  -- leaves the others, and what lies beyond them, cell by cell,
  pub kept_other : (j : ℕ) → j < 3 → (j ≡ place_of name → ⊥) → place t.banks j (keep name s t shelf).shelf ≡ place t.banks j shelf
  kept_other = Returns.kept_other s t name shelf yes

  pub kept_beyond : drop (shelf_size t.banks) (keep name s t shelf).shelf ≡ drop (shelf_size t.banks) shelf
  kept_beyond = Returns.kept_beyond s t name shelf yes

  -- leaves a shelf that question 5 takes,
  pub kept_right : shelf_right t.banks (keep name s t shelf).shelf ≡ true
  kept_right = Returns.kept_shelf_right s t name shelf yes

  -- and replaces what was kept under the name, as if that had not been
  pub kept_again : (s' : Slices) (t' : Tally) → t'.banks ≡ t.banks → (keep name s' t' (keep name s t shelf).shelf).number ≡ 0
      → (keep name s' t' (keep name s t shelf).shelf).shelf ≡ (keep name s' t' shelf).shelf
  kept_again s' t' e again =
      Returns.kept_again s t name shelf yes s' t' e (sym (Returns.keep_number-law s' t' name (keep name s t shelf).shelf) ∙ again)

-- 4. keeping and coming back: the plan cells, ranks included, and the tally of the moment of keeping, cap included, whatever memory s', t' and moved the calls
-- between left, if it holds a plan of as many banks, under any cap that fits it, and whatever keepings were made, if those accepted are of as many banks and under
-- other names
pub come_back_kept : (name : List ℕ) (s : Slices) (t : Tally) (shelf : List ℕ) → (keep name s t shelf).number ≡ 0
    → (ks : List Keeping) → Others t.banks name ks (keep name s t shelf).shelf
    → (G : Graph) (s' : Slices) (t' : Tally) → PlanOf G s' t' → T (cap_fits t') → t'.banks ≡ t.banks → (moved : List ℕ) → t.banks ≤ length moved
    → GivesBack t.banks s t (come_back name s' t' moved (after_keepings ks (keep name s t shelf).shelf))
come_back_kept name s t shelf accepted ks o G s' t' plan fits same moved room =
    let z = sym (Returns.keep_number-law s t name shelf) ∙ accepted in
    let can = Returns.keepable s t name shelf z in
    GivenBack.gives_back name can.near s t can.long (after_keepings ks (keep name s t shelf).shelf)
    (Returns.keepings_leave name can.near s t ks (keep name s t shelf).shelf o (Returns.kept_on name s t shelf z)) G s' t' plan fits same moved room

-- 5. after an accepted coming back
module _ (name : List ℕ) (s : Slices) (t : Tally) (moved shelf : List ℕ) (accepted : (come_back name s t moved shelf).number ≡ 0) where
  -- memory holds the plan of the clashes and ranks of the state returned to,
  pub back_plan : PlanOf (clashes_kept t.banks name shelf) (come_back name s t moved shelf).slices (come_back name s t moved shelf).tally
  back_plan = Restored.back_plan name s t moved shelf accepted

  -- its tally is the kept one, cap included, and that cap fits it,
  pub back_tally : (come_back name s t moved shelf).tally ≡ tally_in t.banks (place t.banks (place_of name) shelf)
  back_tally = Restored.back_tally name s t moved shelf accepted

  pub back_cap : T (cap_fits (come_back name s t moved shelf).tally)
  back_cap = Restored.back_cap name s t moved shelf accepted

  -- its waves are the rule's on them,
  pub back_waves : (x : ℕ) → x < t.banks → get_or (come_back name s t moved shelf).slices.waves x 0 ≡ wave (clashes_kept t.banks name shelf) x
  back_waves = Restored.back_waves name s t moved shelf accepted

  -- the moved slice's front lists the banks whose wave differs, and their number is returned;
  pub back_moved : take (come_back name s t moved shelf).count (come_back name s t moved shelf).moved
      ≡ differing t.banks s.waves (come_back name s t moved shelf).slices.waves
  back_moved = Restored.back_moved name s t moved shelf accepted

  pub back_count : (come_back name s t moved shelf).count ≡ length (differing t.banks s.waves (come_back name s t moved shelf).slices.waves)
  back_count = Restored.back_count name s t moved shelf accepted

-- the list names just those banks, ascending
pub differing_members : (n : ℕ) (old new : List ℕ) (b : ℕ) → memb b (differing n old new) ≡ (ltb b n && not (eqb (get_or old b 0) (get_or new b 0)))
differing_members = Restored.differing_members

pub differing_sorted : (n : ℕ) (old new : List ℕ) → Sorted ltb (differing n old new)
differing_sorted = Restored.differing_sorted

-- 6. a refused call leaves all as it was
pub open_unchanged : (n : ℕ) (shelf : List ℕ) → ((open_shelf n shelf).number ≡ 0 → ⊥) → (open_shelf n shelf).shelf ≡ shelf
open_unchanged = Opened.open_unchanged

pub keep_unchanged : (name : List ℕ) (s : Slices) (t : Tally) (shelf : List ℕ) → ((keep name s t shelf).number ≡ 0 → ⊥) → (keep name s t shelf).shelf ≡ shelf
keep_unchanged name s t shelf d = Returns.keep_unchanged s t name shelf (λ z. d (Returns.keep_number-law s t name shelf ∙ z))

pub back_unchanged : (name : List ℕ) (s : Slices) (t : Tally) (moved shelf : List ℕ) → ((come_back name s t moved shelf).number ≡ 0 → ⊥)
    → come_back name s t moved shelf ≡ back_result (come_back name s t moved shelf).number 0 s t moved
back_unchanged = Restored.back_unchanged
