-- The clashes of a plan as adds, bank by bank.
use mathlib.Core.List.{List, [], ◌∷◌, ◌++◌, map, map-append}
use mathlib.Core.Path.{◌≡◌, refl, sym, ap, ◌∙◌, subst}
use Prim.Native.Nat.{ℕ, zero, suc, ◌+◌, ◌≤◌, ◌<◌}
use native.Mathlib.Numerals.{add-one}
use native.Mathlib.Omega.{arith}
use lib.Dec.{ltb}
use lib.ListN.{length, get_or, take, drop, length-append, take-append-drop}
use lib.Seq.{take-suc}
use borrow.Author.Tests.{lt-ltb, le-ltb}
use Rattle.rule.specs.Lists.{filter}
use Rattle.rule.specs.Graph.{Graph, neighbours}
use Rattle.rule.specs.declared.Kind.TheVariants.{Adding}
use Rattle.rule.specs.declared.Entry.{Entry}
use Rattle.rule.proofs.Lists.{filter_append}
use Rattle.memory.specs.declared.Tally.{Tally}
use Rattle.memory.specs.Plan.{Slices, PlanOf}
use Rattle.memory.proofs.Views.{tally_banks}
use Rattle.memory.proofs.Theorems.{held_of}
use Rattle.journal_fields.specs.Fields.{rank_fits}
use Rattle.journal_fields.specs.Bounds.{RanksFit}
use Rattle.journal_fields.proofs.Entries.{fit_append}
use Rattle.journal.specs.Calls.{entry_for, adds_of, adds_below}
use Rattle.journal.specs.inner.Adds.{PutsEntries, Fit}
use Rattle.journal.proofs.Writing.{entries_then, fit_fewer, fit_after}
use Rattle.journal.proofs.Growing.{grow_fit, grow_put}

-- one bank after others
pub adds_append : (a : ℕ) (xs ys : List ℕ) → adds_of a (xs ++ ys) ≡ adds_of a xs ++ adds_of a ys
unfolding adds_of
adds_append a xs ys = ap (map (entry_for Adding a)) (filter_append (ltb a) xs ys) ∙ map-append (entry_for Adding a) (filter (ltb a) xs) (filter (ltb a) ys)

pub adds_smaller : (a b : ℕ) → b ≤ a → adds_of a (b ∷ []) ≡ []
unfolding adds_of filter
adds_smaller a b h = rw (le-ltb a b h)

pub adds_larger : (a b : ℕ) → a < b → adds_of a (b ∷ []) ≡ entry_for Adding a b ∷ []
unfolding adds_of filter
adds_larger a b h = rw (lt-ltb a b h)

-- the first i of a row's banks, and one more
pub adds_next : (a : ℕ) (row : List ℕ) (i : ℕ) → i < length row → adds_of a (take (i + 1) row) ≡ adds_of a (take i row) ++ adds_of a (get_or row i 0 ∷ [])
adds_next a row i h =
    ap (λ (n : ℕ). adds_of a (take n row)) (add-one i) ∙ ap (adds_of a) (take-suc row i 0 h) ∙ adds_append a (take i row) (get_or row i 0 ∷ [])

pub adds_none : (a : ℕ) → adds_of a [] ≡ []
unfolding adds_of filter
adds_none a = refl

module _ (a : ℕ) (row : List ℕ) (i : ℕ) (h : i < length row) where
  adds_room : length (adds_of a (take i row)) + length (adds_of a (get_or row i 0 ∷ [])) ≤ length (adds_of a row)
  adds_room =
      let front : List ℕ = take (i + 1) row in
      let back : List ℕ = drop (i + 1) row in
      omega (
        arith,
        ap (λ (l : List ℕ). length (adds_of a l)) (sym (take-append-drop (i + 1) row)),
        ap length (adds_append a front back),
        length-append (adds_of a front) (adds_of a back),
        ap length (adds_next a row i h),
        length-append (adds_of a (take i row)) (adds_of a (get_or row i 0 ∷ [])),
      )

  -- one more is written
  module _ (k : ℕ) (out : List ℕ) (fit : Fit (adds_of a row) k out) (r₁ : ℕ) (out₁ : List ℕ) (p : PutsEntries (adds_of a (take i row)) k out r₁ out₁) where
    pub adds_fit_next : length out₁ ≡ length out → Fit (adds_of a (get_or row i 0 ∷ [])) r₁ out₁
    adds_fit_next l = fit_after (adds_of a (take i row)) (adds_of a (get_or row i 0 ∷ [])) (adds_of a row) k r₁ out out₁ adds_room fit p l

    pub adds_put : (r₂ : ℕ) (out₂ : List ℕ) → PutsEntries (adds_of a (get_or row i 0 ∷ [])) r₁ out₁ r₂ out₂ → PutsEntries (adds_of a (take (i + 1) row)) k out r₂ out₂
    adds_put r₂ out₂ q =
        let front : List Entry = adds_of a (take i row) in
        let one : List Entry = adds_of a (get_or row i 0 ∷ []) in
        let fewer = fit_fewer (front ++ one) (adds_of a row) k out (omega (arith, length-append front one, adds_room)) fit in
        subst (λ (l : List Entry). PutsEntries l k out r₂ out₂) (sym (adds_next a row i h)) (entries_then front one k out fewer r₁ r₂ out₁ out₂ p q)

-- of all banks below k
module _ (G : Graph) where
  abbrev of : ℕ → List Entry
  of a = adds_of a (neighbours G a)

  pub below_none : adds_below G 0 ≡ []
  unfolding adds_below
  below_none = refl

  below_step : (a : ℕ) → adds_below G (suc a) ≡ adds_below G a ++ of a
  unfolding adds_below
  below_step a = refl

  -- they set no rank
  rows_fit : (a : ℕ) (bs : List ℕ) → RanksFit (map (entry_for Adding a) bs)
  unfolding rank_fits
  rows_fit a [] = tt
  rows_fit a (b ∷ bs) = (refl, rows_fit a bs)

  pub adds_fit : (k : ℕ) → RanksFit (adds_below G k)
  unfolding adds_below adds_of
  adds_fit zero = tt
  adds_fit (suc a) = fit_append (adds_below G a) (of a) (adds_fit a) (rows_fit a (filter (ltb a) (neighbours G a)))

-- in a plan
module _ (G : Graph) (s : Slices) (t : Tally) (p : PlanOf G s t) where
  pub plan_banks : t.banks ≡ G.banks
  plan_banks = tally_banks t G p.tally

  -- each bank has a rank
  pub plan_ranks : t.banks ≤ length s.ranks
  plan_ranks = omega (arith, plan_banks, (held_of G s t p).ranked.wide)

  -- a row that names the clashes of a: room for its adds, and all of them written
  module _ (a : ℕ) (h : a < t.banks) (row : List ℕ) (e : row ≡ neighbours G a) (k : ℕ) (out : List ℕ) (fit : Fit (adds_below G G.banks) k out)
      (r₁ : ℕ) (out₁ : List ℕ) (w : PutsEntries (adds_below G a) k out r₁ out₁) where
    below : a < G.banks
    below = omega (arith, plan_banks)

    pub row_fit : length out₁ ≡ length out → Fit (adds_of a row) r₁ out₁
    row_fit l = rw e (grow_fit (adds_below G) (of G) (below_step G) a G.banks k below out fit r₁ out₁ w l)

    pub row_put : (r₂ : ℕ) (out₂ : List ℕ) → PutsEntries (adds_of a row) r₁ out₁ r₂ out₂ → PutsEntries (adds_below G (a + 1)) k out r₂ out₂
    row_put r₂ out₂ q =
        grow_put (adds_below G) (of G) (below_step G) a G.banks k below out fit r₁ out₁ w r₂ out₂ (subst (λ (l : List ℕ). PutsEntries (adds_of a l) r₁ out₁ r₂ out₂) e q)
