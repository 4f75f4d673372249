-- The sum and the most of the first cells, and the tally's numbers.
use mathlib.Core.List.{List, [], ◌∷◌, ◌++◌, foldr}
use mathlib.Core.Path.{◌≡◌, refl, ap, ◌∙◌}
use Prim.Native.Nat.{ℕ, zero, suc, ◌+◌, ◌*◌, ◌/◌, ◌≤◌, ◌<◌, max}
use native.Mathlib.Numerals.{add-one}
use native.Mathlib.Omega.{arith}
use lib.ListN.{get_or}
use Rattle.rule.specs.Lists.{upto}
use Rattle.rule.specs.Graph.{Graph, degree}
use Rattle.rule.specs.Wave.{wave, wave_count}
use Rattle.rule.proofs.Lists.{upto_below}
use Rattle.memory.specs.Plan.{clash_count}
use Rattle.memory.specs.inner.Counts.{most_of}
use Rattle.memory.specs.inner.Test.{Small, sum}
use Rattle.memory.proofs.Agree.{fold_cong}

fold_snoc : (op : ℕ → ℕ → ℕ) (z : ℕ) (xs : List ℕ) (x : ℕ) → foldr op z (xs ++ (x ∷ [])) ≡ foldr op (op x z) xs
fold_snoc op z [] x = refl
fold_snoc op z (y ∷ ys) x = ap (op y) (fold_snoc op z ys x)

sum_from : (g : ℕ → ℕ) (a : ℕ) (xs : List ℕ) → foldr (λ (b m : ℕ). g b + m) a xs ≡ foldr (λ (b m : ℕ). g b + m) 0 xs + a
sum_from g a [] = omega arith
sum_from g a (x ∷ xs) = omega (arith, sum_from g a xs)

pub sum_upto : (g : ℕ → ℕ) (n : ℕ) → foldr (λ (b m : ℕ). g b + m) 0 (upto (suc n)) ≡ foldr (λ (b m : ℕ). g b + m) 0 (upto n) + g n
unfolding upto
sum_upto g n = fold_snoc (λ b m. g b + m) 0 (upto n) n ∙ sum_from g (g n + 0) (upto n) ∙ omega arith

most_from : (g : ℕ → ℕ) (a : ℕ) (xs : List ℕ) → foldr (λ (b k : ℕ). max (suc (g b)) k) a xs ≡ max a (foldr (λ (b k : ℕ). max (suc (g b)) k) 0 xs)
most_from g a [] = omega arith
most_from g a (x ∷ xs) = omega (arith, most_from g a xs)

module _ (cells : List ℕ) where
  pub sum_none : 0 ≡ sum cells 0
  unfolding sum upto
  sum_none = refl

  sum_suc : (n : ℕ) → sum cells (suc n) ≡ sum cells n + get_or cells n 0
  unfolding sum
  sum_suc = sum_upto (λ b. get_or cells b 0)

  pub sum_next : (n : ℕ) → sum cells (n + 1) ≡ sum cells n + get_or cells n 0
  sum_next n = ap (sum cells) (add-one n) ∙ sum_suc n

  pub sum_below : (n m : ℕ) → n ≤ m → Small cells m → sum cells n ≤ 23 * n
  sum_below zero m l h = omega (arith, sum_none)
  sum_below (suc n) m l h = omega (arith, sum_suc n, h n (omega arith), sum_below n m (omega arith) h)

  pub most_none : 0 ≡ most_of cells 0
  unfolding most_of upto
  most_none = refl

  most_suc : (n : ℕ) → most_of cells (suc n) ≡ max (suc (get_or cells n 0)) (most_of cells n)
  unfolding most_of upto
  most_suc n =
      fold_snoc (λ b k. max (suc (get_or cells b 0)) k) 0 (upto n) n
      ∙ most_from (λ b. get_or cells b 0) (max (suc (get_or cells n 0)) 0) (upto n) ∙ omega arith

  pub most_next : (n : ℕ) → most_of cells (n + 1) ≡ max (suc (get_or cells n 0)) (most_of cells n)
  most_next n = ap (most_of cells) (add-one n) ∙ most_suc n

-- of cells that hold the degrees or the waves of G
module _ (G : Graph) (cells : List ℕ) where
  pub clash_count_is : ((x : ℕ) → x < G.banks → get_or cells x 0 ≡ degree G x) → sum cells G.banks / 2 ≡ clash_count G
  unfolding sum clash_count
  clash_count_is h =
      ap (λ (x : ℕ). x / 2) (fold_cong ◌+◌ (λ b. get_or cells b 0) (degree G) (upto G.banks) (λ x m. h x (upto_below G.banks x m)))

  pub wave_count_is : ((x : ℕ) → x < G.banks → get_or cells x 0 ≡ wave G x) → most_of cells G.banks ≡ wave_count G
  unfolding most_of wave_count
  wave_count_is h =
      fold_cong (λ x k. max (suc x) k) (λ b. get_or cells b 0) (wave G) (upto G.banks) (λ x m. h x (upto_below G.banks x m))
