-- How many banks of a list stand in a wave.
use mathlib.Core.Bool.{Bool, true, false, cond}
use mathlib.Core.List.{List, [], ◌∷◌, ◌++◌, map}
use mathlib.Core.Logic.{inl, inr}
use mathlib.Core.Path.{◌≡◌, refl, sym, ap}
use Prim.Native.Nat.{ℕ, ◌+◌, ◌<◌, ◌≤◌}
use native.Mathlib.Decide.{ℕ_discrete}
use native.Mathlib.Omega.{arith}
use borrow.Author.Tests.{eq-eqb, ne_eqb}
use lib.Dec.{T, eqb}
use lib.ListN.{length}
use Rattle.rule.specs.Lists.{memb, filter}
use Rattle.rule.proofs.Lists.{in_head, in_tail, in_cons, in_none, filter_cong, filter_short}
use Rattle.memory.specs.inner.Counts.{standing}

pub bit : Bool → ℕ
bit true = 1
bit false = 0

pub bit_none : (t : Bool) → (T t → ⊥) → bit t ≡ 0
unfolding bit
bit_none true n = absurd (n tt)
bit_none false n = refl

pub bit_yes : (m n : ℕ) → m ≡ n → bit (eqb m n) ≡ 1
unfolding bit
bit_yes m n e = rw (eq-eqb m n e)

pub bit_no : (m n : ℕ) → (m ≡ n → ⊥) → bit (eqb m n) ≡ 0
unfolding bit
bit_no m n e = rw (ne_eqb m n e)

pub kept : (t : Bool) (y : ℕ) (ys : List ℕ) → length (cond t (y ∷ ys) ys) ≡ bit t + length ys
unfolding bit
kept true y ys = omega arith
kept false y ys = omega arith

pub standing_cons : (f : ℕ → ℕ) (c y : ℕ) (ys : List ℕ) → standing f c (y ∷ ys) ≡ bit (eqb (f y) c) + standing f c ys
unfolding standing filter
standing_cons f c y ys = kept (eqb (f y) c) y (filter (λ v. eqb (f v) c) ys)

pub standing_snoc : (f : ℕ → ℕ) (c : ℕ) (xs : List ℕ) (y : ℕ) → standing f c (xs ++ (y ∷ [])) ≡ standing f c xs + bit (eqb (f y) c)
standing_snoc f c [] y = omega (arith, standing_cons f c y [])
standing_snoc f c (x ∷ xs) y = omega (arith, standing_cons f c x xs, standing_cons f c x (xs ++ (y ∷ [])), standing_snoc f c xs y)

pub standing_cong : (f g : ℕ → ℕ) (c : ℕ) (xs : List ℕ) → ((v : ℕ) → T (memb v xs) → f v ≡ g v) → standing f c xs ≡ standing g c xs
unfolding standing
standing_cong f g c xs h = ap length (filter_cong (λ v. eqb (f v) c) (λ v. eqb (g v) c) xs (λ v m. ap (λ (k : ℕ). eqb k c) (h v m)))

pub standing_le : (f : ℕ → ℕ) (c : ℕ) (xs : List ℕ) → standing f c xs ≤ length xs
unfolding standing
standing_le f c xs = filter_short (λ v. eqb (f v) c) xs

-- a wave is held if a bank stands in it
pub standing_pos : (f : ℕ → ℕ) (c : ℕ) (xs : List ℕ) → 0 < standing f c xs → T (memb c (map f xs))
standing_pos f c [] l = absurd (unfold standing filter in omega arith)
standing_pos f c (y ∷ ys) l = go (ℕ_discrete (f y) c) (standing_pos f c ys)
  where
    go : Dec (f y ≡ c) → (0 < standing f c ys → T (memb c (map f ys))) → T (memb c (map f (y ∷ ys)))
    go (yes e) more = in_head c (f y) (map f ys) (sym e)
    go (no d) more = in_tail c (f y) (map f ys) (more (omega (arith, standing_cons f c y ys, bit_no (f y) c d)))

-- and a bank stands in it if it is held
pub pos_standing : (f : ℕ → ℕ) (c : ℕ) (xs : List ℕ) → T (memb c (map f xs)) → 0 < standing f c xs
pos_standing f c [] m = absurd (in_none c m)
pos_standing f c (y ∷ ys) m =
    elim (in_cons c (f y) (map f ys) m) [
      | inl e ↦ omega (arith, standing_cons f c y ys, bit_yes (f y) c (sym e))
      | inr u ↦ omega (arith, standing_cons f c y ys, pos_standing f c ys u)
    ]
