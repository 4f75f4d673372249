-- The banks whose wave differs, listed one after the other.
use mathlib.Core.Bool.{Bool, not}
use mathlib.Core.List.{List, [], ◌∷◌, ◌++◌}
use mathlib.Core.Path.{◌≡◌, refl, sym, ap, ◌∙◌}
use Prim.Native.Nat.{ℕ, suc, ◌+◌, ◌≤◌, ◌<◌}
use native.Mathlib.Omega.{arith}
use native.Mathlib.Numerals.{add-one}
use lib.Dec.{eqb, eqb→eq, not_T, T_not, eqb_refl}
use lib.ListN.{length, get_or, set, length-append, length-drop, drop}
use lib.Seq.{set_at, drop-cons, append_snoc}
use Rattle.rule.specs.Lists.{upto, filter}
use Rattle.rule.proofs.Lists.{filter_kept, filter_left, filter_short, length_upto}
use Rattle.memory.specs.Cells.{over}
use Rattle.checkpoints.specs.Calls.{differing}
use Rattle.checkpoints.specs.inner.Steps.{Listed}

pub length_differing : (b : ℕ) (old new : List ℕ) → length (differing b old new) ≤ b
unfolding differing
length_differing b old new = omega (arith, filter_short (λ x. not (eqb (get_or old x 0) (get_or new x 0))) (upto b), length_upto b)

-- one more cell at the end of a front
pub over_more : (front xs : List ℕ) (v : ℕ) → length front < length (over front xs)
    → set (over front xs) (length front) v ≡ over (front ++ (v ∷ [])) xs
unfolding over
over_more front xs v h =
    let room : length front < length xs = omega (arith, length-append front (drop (length front) xs), length-drop (length front) xs) in
    let e : length (front ++ (v ∷ [])) ≡ suc (length front) = omega (arith, length-append front (v ∷ [])) in
    ap (λ (l : List ℕ). set (front ++ l) (length front) v) (drop-cons xs (length front) 0 room)
    ∙ set_at front (get_or xs (length front) 0) (drop (suc (length front)) xs) v (length front) refl
    ∙ rw e (sym (append_snoc front v (drop (suc (length front)) xs)))

pub listed_none : (old new moved : List ℕ) → Listed 0 old new moved 0 moved
unfolding differing over upto filter
listed_none old new moved = record { count = refl; cells = refl }

module _ (b : ℕ) (old new was : List ℕ) (count : ℕ) (moved : List ℕ) (h : Listed b old new was count moved) where
  abbrev test : ℕ → Bool
  test x = not (eqb (get_or old x 0) (get_or new x 0))

  pub listed_same : get_or old b 0 ≡ get_or new b 0 → Listed (b + 1) old new was count moved
  unfolding differing upto
  listed_same e =
      let f : differing (b + 1) old new ≡ differing b old new =
      rw (add-one b) (filter_left test (upto b) b (λ t. T_not (eqb (get_or old b 0) (get_or new b 0)) t (rw e (eqb_refl (get_or new b 0))))) in
      record { count = h.count ∙ ap length (sym f); cells = h.cells ∙ ap (λ (l : List ℕ). over l was) (sym f) }

  pub listed_other : (get_or old b 0 ≡ get_or new b 0 → ⊥) → count < length moved → Listed (b + 1) old new was (count + 1) (set moved count b)
  unfolding differing upto
  listed_other d room =
      let f : differing (b + 1) old new ≡ differing b old new ++ (b ∷ []) =
      rw (add-one b) (filter_kept test (upto b) b (not_T (eqb (get_or old b 0) (get_or new b 0)) (λ t. d (eqb→eq (get_or old b 0) (get_or new b 0) t)))) in
      record {
        count = omega (arith, h.count, ap length f, length-append (differing b old new) (b ∷ []));
        cells =
            ap (λ (l : List ℕ). set l count b) h.cells
            ∙ ap (λ (k : ℕ). set (over (differing b old new) was) k b) h.count
            ∙ over_more (differing b old new) was b (rw (← h.cells, ← h.count) room)
            ∙ ap (λ (l : List ℕ). over l was) (sym f);
      }
