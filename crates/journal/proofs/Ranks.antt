-- The ranks of a plan as entries, bank by bank.
use mathlib.Core.Bool.{Bool, true, false, cond, not}
use mathlib.Core.List.{List, [], ◌∷◌, ◌++◌}
use mathlib.Core.Path.{◌≡◌, refl, sym, ap, ◌∙◌, subst}
use Prim.Native.Nat.{ℕ, zero, suc, ◌+◌, ◌≤◌, ◌<◌}
use native.Mathlib.Omega.{arith}
use lib.Dec.{eqb}
use lib.ListN.{length, get_or, take, length-append}
use native.Mathlib.Numerals.{add-one}
use Rattle.std.proofs.lemmas.List.Sums.{count_by_more_yes, count_by_more_no}
use Rattle.std.proofs.Common.{count_by}
use borrow.Author.Tests.{le-leb, eq-eqb, ne_eqb}
use Rattle.rule.specs.Numbers.{bank}
use Rattle.rule.specs.declared.Entry.{Entry}
use Rattle.rule.specs.declared.Entry.TheVariants.{Rank}
use Rattle.journal_fields.specs.Fields.{rank_fits}
use Rattle.journal_fields.specs.Bounds.{RanksFit}
use Rattle.journal_fields.proofs.Entries.{fit_append}
use Rattle.journal.specs.Calls.{rank_of, ranks_below}
use Rattle.journal.specs.inner.Adds.{rank_in, PutsEntries, Fit}
use Rattle.journal.proofs.Growing.{grow_fit, grow_put}

-- of one bank
pub rank_zero : (b r : ℕ) → r ≡ 0 → rank_of b r ≡ []
unfolding rank_of
rank_zero b r z = rw (eq-eqb r 0 z)

pub rank_some : (b r : ℕ) → (r ≡ 0 → ⊥) → rank_of b r ≡ Rank (bank b) r ∷ []
unfolding rank_of
rank_some b r z = rw (ne_eqb r 0 z)

-- of all banks below k
module _ (rank : ℕ → ℕ) where
  abbrev of : ℕ → List Entry
  of b = rank_of b (rank b)

  pub ranks_none : ranks_below rank 0 ≡ []
  unfolding ranks_below
  ranks_none = refl

  pub ranks_step : (b : ℕ) → ranks_below rank (suc b) ≡ ranks_below rank b ++ of b
  unfolding ranks_below
  ranks_step b = refl

  -- ranks that fit can be written
  rank_fits-law : (b : ℕ) → rank b ≤ 9999 → RanksFit (of b)
  unfolding rank_of rank_fits
  rank_fits-law b h = by (eqb (rank b) 0)
    where
      by : (t : Bool) → RanksFit (cond t [] (Rank (bank b) (rank b) ∷ []))
      by true = tt
      by false = (le-leb (rank b) 9999 h, tt)

  pub ranks_fit : (k : ℕ) → ((b : ℕ) → b < k → rank b ≤ 9999) → RanksFit (ranks_below rank k)
  unfolding ranks_below
  ranks_fit zero h = tt
  ranks_fit (suc b) h = fit_append (ranks_below rank b) (of b) (ranks_fit b (λ x l. h x (omega arith))) (rank_fits-law b (h b (omega arith)))

-- one rank more: room for it, and it is written
module _ (cells : List ℕ) (b n k : ℕ) (h : b < n) (out : List ℕ) (fit : Fit (ranks_below (rank_in cells) n) k out) (x : ℕ) (e : x ≡ b) (r₁ : ℕ) (out₁ : List ℕ)
    (p : PutsEntries (ranks_below (rank_in cells) b) k out r₁ out₁) where
  pub rank_fit : length out₁ ≡ length out → Fit (rank_of b (get_or cells x 0)) r₁ out₁
  rank_fit l = rw e (grow_fit (ranks_below (rank_in cells)) (of (rank_in cells)) (ranks_step (rank_in cells)) b n k h out fit r₁ out₁ p l)

  pub rank_put : (r₂ : ℕ) (out₂ : List ℕ) → PutsEntries (rank_of b (get_or cells x 0)) r₁ out₁ r₂ out₂ → PutsEntries (ranks_below (rank_in cells) (b + 1)) k out r₂ out₂
  rank_put r₂ out₂ q =
      grow_put (ranks_below (rank_in cells)) (of (rank_in cells)) (ranks_step (rank_in cells)) b n k h out fit r₁ out₁ p r₂ out₂
      (subst (λ (y : ℕ). PutsEntries (rank_of b (get_or cells y 0)) r₁ out₁ r₂ out₂) e q)

-- the ranks other than 0 in the first n cells, counted
abbrev set : ℕ → Bool
set r = not (eqb r 0)

one_counted : (cells : List ℕ) (b : ℕ) → b < length cells → count_by set (take (b + 1) cells) ≡ count_by set (take b cells) + length (rank_of b (get_or cells b 0))
unfolding rank_of
one_counted cells b h = by (eqb (get_or cells b 0) 0) refl
  where
    by : (t : Bool) → eqb (get_or cells b 0) 0 ≡ t
        → count_by set (take (b + 1) cells) ≡ count_by set (take b cells) + length (cond t [] (Rank (bank b) (get_or cells b 0) ∷ []))
    by true e = omega (arith, count_by_more_no set cells b 0 h (ap not e))
    by false e = count_by_more_yes set cells b 0 h (ap not e)

pub ranks_counted : (cells : List ℕ) (n : ℕ) → n ≤ length cells → count_by set (take n cells) ≡ length (ranks_below (rank_in cells) n)
unfolding ranks_below
ranks_counted cells zero h = refl
ranks_counted cells (suc n) h =
    ap (λ (k : ℕ). count_by set (take k cells)) (sym (add-one n))
    ∙ omega (
      arith,
      one_counted cells n (omega arith),
      ranks_counted cells n (omega arith),
      length-append (ranks_below (rank_in cells) n) (rank_of n (get_or cells n 0)),
    )
