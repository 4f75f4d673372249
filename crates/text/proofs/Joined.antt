-- Texts put together, one after the other.
use mathlib.Core.List.{List, [], ◌∷◌, ◌++◌, map, map-append, append_assoc, append-nil}
use mathlib.Core.Path.{◌≡◌, refl, sym, ap, ◌∙◌}
use Prim.Native.Nat.{ℕ, zero, suc, ◌+◌, ◌-◌, ◌≤◌, ◌<◌}
use native.Mathlib.Nat.{add-zero, add-suc}
use native.Mathlib.Numerals.{add-one}
use native.Mathlib.Omega.{arith}
use lib.ListN.{length, length-append}
use Rattle.rule.specs.Lists.{upto}
use Rattle.text.specs.Text.{joined}

pub joined_append : (ts us : List (List ℕ)) → joined (ts ++ us) ≡ joined ts ++ joined us
unfolding joined
joined_append [] us = refl
joined_append (t ∷ ts) us = ap (λ (l : List ℕ). t ++ l) (joined_append ts us) ∙ sym (append_assoc t (joined ts) (joined us))

-- the texts of some numbers, then of others
pub texts_append : (f : ℕ → List ℕ) (xs ys : List ℕ) → joined (map f (xs ++ ys)) ≡ joined (map f xs) ++ joined (map f ys)
texts_append f xs ys = ap joined (map-append f xs ys) ∙ joined_append (map f xs) (map f ys)

-- the texts of the numbers below n, and one more
pub texts_next : (f : ℕ → List ℕ) (n : ℕ) → joined (map f (upto (suc n))) ≡ joined (map f (upto n)) ++ f n
unfolding upto joined
texts_next f n = texts_append f (upto n) (n ∷ []) ∙ ap (λ (l : List ℕ). joined (map f (upto n)) ++ l) (append-nil (f n))

-- those of fewer numbers are no longer
texts_le : (f : ℕ → List ℕ) (m n : ℕ) → m ≤ n → length (joined (map f (upto m))) ≤ length (joined (map f (upto n)))
texts_le f m n h = rw e at (more (n - m))
  where
    e : m + (n - m) ≡ n
    e = omega arith

    more : (d : ℕ) → length (joined (map f (upto m))) ≤ length (joined (map f (upto (m + d))))
    more zero = rw (add-zero m) (omega arith)
    more (suc d) =
        let next = ap length (texts_next f (m + d)) ∙ length-append (joined (map f (upto (m + d)))) (f (m + d)) in
        rw (add-suc m d) (omega (arith, more d, next))

-- the same by c + 1, and room for one more where there is room for k
module _ (f : ℕ → List ℕ) (c : ℕ) where
  pub texts_more : joined (map f (upto (c + 1))) ≡ joined (map f (upto c)) ++ f c
  texts_more = ap (λ (k : ℕ). joined (map f (upto k))) (add-one c) ∙ texts_next f c

  pub texts_room : (k : ℕ) → c < k → length (joined (map f (upto c))) + length (f c) ≤ length (joined (map f (upto k)))
  texts_room k h = omega (arith, texts_le f (c + 1) k (omega arith), ap length texts_more, length-append (joined (map f (upto c))) (f c))
