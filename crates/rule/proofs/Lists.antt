-- Lists by their members: `T (memb x xs)` is "x is in xs".
use mathlib.Core.Bool.{Bool, true, false, cond, ◌&&◌}
use mathlib.Core.List.{List, [], ◌∷◌, ◌++◌, map, foldr, append-nil}
use mathlib.Core.Logic.{◌⊎◌, inl, inr, ⊎_elim}
use mathlib.Core.Path.{◌≡◌, refl, sym, ap, subst, ◌∙◌}
use native.Mathlib.Nat.{eq-or-lt_of_le}
use native.Mathlib.Omega.{arith}
use Prim.Native.Nat.{ℕ, zero, suc, ◌≤◌, ◌<◌, max}
use lib.Dec.{T, eqb, eqb→eq}
use lib.ListN.{length, length-append}
use Rattle.rule.specs.Lists.{upto, filter, some, memb}
use Rattle.rule.proofs.Booleans.{or_l, or_r, or_cases, test_ext, eq→eqb}

pub in_head : (x y : ℕ) (ys : List ℕ) → x ≡ y → T (memb x (y ∷ ys))
unfolding memb some
in_head x y ys e = or_l (eqb x y) _ (eq→eqb x y e)

pub in_tail : (x y : ℕ) (ys : List ℕ) → T (memb x ys) → T (memb x (y ∷ ys))
unfolding memb some
in_tail x y ys m = or_r (eqb x y) _ m

pub in_cons : (x y : ℕ) (ys : List ℕ) → T (memb x (y ∷ ys)) → (x ≡ y) ⊎ T (memb x ys)
unfolding memb some
in_cons x y ys m = elim (or_cases (eqb x y) _ m) [ inl t ↦ inl (eqb→eq x y t) | inr t ↦ inr t ]

pub in_none : (x : ℕ) → T (memb x []) → ⊥
unfolding memb some
in_none x m = m

pub in_append_l : (x : ℕ) (xs ys : List ℕ) → T (memb x xs) → T (memb x (xs ++ ys))
in_append_l x [] ys m = absurd (in_none x m)
in_append_l x (z ∷ zs) ys m =
    elim (in_cons x z zs m) [ inl e ↦ in_head x z (zs ++ ys) e | inr t ↦ in_tail x z (zs ++ ys) (in_append_l x zs ys t) ]

pub in_append_r : (x : ℕ) (xs ys : List ℕ) → T (memb x ys) → T (memb x (xs ++ ys))
in_append_r x [] ys m = m
in_append_r x (z ∷ zs) ys m = in_tail x z (zs ++ ys) (in_append_r x zs ys m)

pub in_append : (x : ℕ) (xs ys : List ℕ) → T (memb x (xs ++ ys)) → T (memb x xs) ⊎ T (memb x ys)
in_append x [] ys m = inr m
in_append x (z ∷ zs) ys m =
    elim (in_cons x z (zs ++ ys) m) [
      | inl e ↦ inl (in_head x z zs e)
      | inr t ↦ ⊎_elim (λ u. inl (in_tail x z zs u)) (λ u. inr u) (in_append x zs ys t)
    ]

pub in_upto : (n x : ℕ) → x < n → T (memb x (upto n))
unfolding upto
in_upto zero x h = absurd (omega arith)
in_upto (suc n) x h =
    let k : x ≤ n = omega arith in
    elim (eq-or-lt_of_le k) [
      | inl e ↦ in_append_r x (upto n) (n ∷ []) (in_head x n [] e)
      | inr l ↦ in_append_l x (upto n) (n ∷ []) (in_upto n x l)
    ]

pub upto_below : (n x : ℕ) → T (memb x (upto n)) → x < n
unfolding upto
upto_below zero x m = absurd (in_none x m)
upto_below (suc n) x m =
    elim (in_append x (upto n) (n ∷ []) m) [
      | inl t ↦ let h : x < n = upto_below n x t in omega arith
      | inr t ↦ elim (in_cons x n [] t) [ inl e ↦ omega arith | inr u ↦ absurd (in_none x u) ]
    ]

pub length_upto : (n : ℕ) → length (upto n) ≡ n
unfolding upto
length_upto zero = refl
length_upto (suc n) = omega (arith, length-append (upto n) (n ∷ []), length_upto n)

-- one element, kept or not
keep_head : (b : Bool) (x y : ℕ) (zs : List ℕ) → T b → x ≡ y → T (memb x (cond b (y ∷ zs) zs))
keep_head true x y zs t e = in_head x y zs e
keep_head false x y zs t e = absurd t

keep_tail : (b : Bool) (x y : ℕ) (zs : List ℕ) → T (memb x zs) → T (memb x (cond b (y ∷ zs) zs))
keep_tail true x y zs m = in_tail x y zs m
keep_tail false x y zs m = m

keep_cases : (b : Bool) (x y : ℕ) (zs : List ℕ) → T (memb x (cond b (y ∷ zs) zs)) → (T b × (x ≡ y)) ⊎ T (memb x zs)
keep_cases true x y zs m = elim (in_cons x y zs m) [ inl e ↦ inl (tt, e) | inr t ↦ inr t ]
keep_cases false x y zs m = inr m

pub in_filter : (p : ℕ → Bool) (xs : List ℕ) (x : ℕ) → T (memb x xs) → T (p x) → T (memb x (filter p xs))
unfolding filter
in_filter p [] x m t = absurd (in_none x m)
in_filter p (y ∷ ys) x m t =
    elim (in_cons x y ys m) [
      | inl e ↦ keep_head (p y) x y (filter p ys) (subst (λ (k : ℕ). T (p k)) e t) e
      | inr u ↦ keep_tail (p y) x y (filter p ys) (in_filter p ys x u t)
    ]

pub filter_in : (p : ℕ → Bool) (xs : List ℕ) (x : ℕ) → T (memb x (filter p xs)) → T (memb x xs) × T (p x)
unfolding filter
filter_in p [] x m = absurd (in_none x m)
filter_in p (y ∷ ys) x m =
    elim (keep_cases (p y) x y (filter p ys) m) [
      | inl h ↦ (in_head x y ys h.1, subst (λ (k : ℕ). T (p k)) (sym h.1) h.0)
      | inr u ↦ let r = filter_in p ys x u in (in_tail x y ys r.0, r.1)
    ]

pub filter_cong : (p q : ℕ → Bool) (xs : List ℕ) → ((x : ℕ) → T (memb x xs) → p x ≡ q x) → filter p xs ≡ filter q xs
unfolding filter
filter_cong p q [] h = refl
filter_cong p q (y ∷ ys) h =
    let e : p y ≡ q y = h y (in_head y y ys refl) in
    let r : filter p ys ≡ filter q ys = filter_cong p q ys (λ x m. h x (in_tail x y ys m)) in
    cc

pub map_cong : (f g : ℕ → ℕ) (xs : List ℕ) → ((x : ℕ) → T (memb x xs) → f x ≡ g x) → map f xs ≡ map g xs
map_cong f g [] h = refl
map_cong f g (y ∷ ys) h =
    let e : f y ≡ g y = h y (in_head y y ys refl) in
    let r : map f ys ≡ map g ys = map_cong f g ys (λ x m. h x (in_tail x y ys m)) in
    cc

pub filter_true : (xs : List ℕ) → filter (λ x. true) xs ≡ xs
unfolding filter
filter_true [] = refl
filter_true (y ∷ ys) = ap (◌∷◌ y) (filter_true ys)

pub filter_none : (xs : List ℕ) → filter (λ x. false) xs ≡ []
unfolding filter
filter_none [] = refl
filter_none (y ∷ ys) = filter_none ys

-- one test after another
pub filter_filter : (p q : ℕ → Bool) (xs : List ℕ) → filter q (filter p xs) ≡ filter (λ x. p x && q x) xs
unfolding filter
filter_filter p q [] = refl
filter_filter p q (x ∷ xs) = go (p x) (filter_filter p q xs)
  where
    go : (b : Bool) → filter q (filter p xs) ≡ filter (λ x. p x && q x) xs
        → filter q (cond b (x ∷ filter p xs) (filter p xs)) ≡ cond (b && q x) (x ∷ filter (λ x. p x && q x) xs) (filter (λ x. p x && q x) xs)
    go true e = ap (λ (r : List ℕ). cond (q x) (x ∷ r) r) e
    go false e = e

-- one list after another
pub filter_append : (p : ℕ → Bool) (xs ys : List ℕ) → filter p (xs ++ ys) ≡ filter p xs ++ filter p ys
unfolding filter
filter_append p [] ys = refl
filter_append p (x ∷ xs) ys = go (p x) (filter_append p xs ys)
  where
    go : (b : Bool) → filter p (xs ++ ys) ≡ filter p xs ++ filter p ys
        → cond b (x ∷ filter p (xs ++ ys)) (filter p (xs ++ ys)) ≡ cond b (x ∷ filter p xs) (filter p xs) ++ filter p ys
    go true e = ap (◌∷◌ x) e
    go false e = e

-- one more at the end
filter_snoc : (p : ℕ → Bool) (xs : List ℕ) (y : ℕ) → filter p (xs ++ (y ∷ [])) ≡ filter p xs ++ cond (p y) (y ∷ []) []
unfolding filter
filter_snoc p xs y = filter_append p xs (y ∷ [])

pub filter_kept : (p : ℕ → Bool) (xs : List ℕ) (y : ℕ) → T (p y) → filter p (xs ++ (y ∷ [])) ≡ filter p xs ++ (y ∷ [])
filter_kept p xs y t =
    filter_snoc p xs y ∙ ap (λ (b : Bool). filter p xs ++ cond b (y ∷ []) []) (test_ext (p y) true (λ u. tt) (λ u. t))

pub filter_left : (p : ℕ → Bool) (xs : List ℕ) (y : ℕ) → (T (p y) → ⊥) → filter p (xs ++ (y ∷ [])) ≡ filter p xs
filter_left p xs y n =
    filter_snoc p xs y
    ∙ ap (λ (b : Bool). filter p xs ++ cond b (y ∷ []) []) (test_ext (p y) false n (λ u. absurd u))
    ∙ append-nil (filter p xs)

keep_le : (s t : Bool) (y : ℕ) (ks ls : List ℕ) → length ks ≤ length ls → (T s → T t) → length (cond s (y ∷ ks) ks) ≤ length (cond t (y ∷ ls) ls)
keep_le true true y ks ls h k = omega arith
keep_le true false y ks ls h k = absurd (k tt)
keep_le false true y ks ls h k = omega arith
keep_le false false y ks ls h k = h

keep_lt : (s t : Bool) (y : ℕ) (ks ls : List ℕ) → length ks < length ls → (T s → T t) → length (cond s (y ∷ ks) ks) < length (cond t (y ∷ ls) ls)
keep_lt true true y ks ls h k = omega arith
keep_lt true false y ks ls h k = absurd (k tt)
keep_lt false true y ks ls h k = omega arith
keep_lt false false y ks ls h k = h

keep_drop : (s t : Bool) (y : ℕ) (ks ls : List ℕ) → length ks ≤ length ls → (T s → ⊥) → T t → length (cond s (y ∷ ks) ks) < length (cond t (y ∷ ls) ls)
keep_drop true t y ks ls h n k = absurd (n tt)
keep_drop false true y ks ls h n k = omega arith
keep_drop false false y ks ls h n k = absurd k

-- a test that passes less often keeps fewer
pub count_le : (p q : ℕ → Bool) (xs : List ℕ) → ((x : ℕ) → T (memb x xs) → T (p x) → T (q x)) → length (filter p xs) ≤ length (filter q xs)
unfolding filter
count_le p q [] h = omega arith
count_le p q (y ∷ ys) h =
    keep_le (p y) (q y) y (filter p ys) (filter q ys) (count_le p q ys (λ x m. h x (in_tail x y ys m))) (h y (in_head y y ys refl))

pub count_lt : (p q : ℕ → Bool) (xs : List ℕ) → ((x : ℕ) → T (memb x xs) → T (p x) → T (q x))
    → (z : ℕ) → T (memb z xs) → (T (p z) → ⊥) → T (q z) → length (filter p xs) < length (filter q xs)
unfolding filter
count_lt p q [] h z m n t = absurd (in_none z m)
count_lt p q (y ∷ ys) h z m n t =
    let rest : (x : ℕ) → T (memb x ys) → T (p x) → T (q x) = λ x u. h x (in_tail x y ys u) in
    elim (in_cons z y ys m) [
      | inl e ↦ keep_drop (p y) (q y) y (filter p ys) (filter q ys) (count_le p q ys rest) (λ u. n (subst (λ (k : ℕ). T (p k)) (sym e) u)) (subst (λ (k : ℕ). T (q k)) e t)
      | inr u ↦ keep_lt (p y) (q y) y (filter p ys) (filter q ys) (count_lt p q ys rest z u n t) (h y (in_head y y ys refl))
    ]

pub count_below : (p : ℕ → Bool) (xs : List ℕ) (z : ℕ) → T (memb z xs) → (T (p z) → ⊥) → length (filter p xs) < length xs
count_below p xs z m n = rw filter_true at (count_lt p (λ x. true) xs (λ x u t. tt) z m n tt)

pub filter_short : (p : ℕ → Bool) (xs : List ℕ) → length (filter p xs) ≤ length xs
filter_short p xs = rw filter_true at (count_le p (λ x. true) xs (λ x m t. tt))

-- one member that passes makes `some` pass, and the other way
pub some_in : (p : ℕ → Bool) (xs : List ℕ) (x : ℕ) → T (memb x xs) → T (p x) → T (some p xs)
unfolding some
some_in p [] x m t = absurd (in_none x m)
some_in p (y ∷ ys) x m t =
    elim (in_cons x y ys m) [
      | inl e ↦ or_l (p y) (some p ys) (subst (λ (k : ℕ). T (p k)) e t)
      | inr u ↦ or_r (p y) (some p ys) (some_in p ys x u t)
    ]

pub in_some : (p : ℕ → Bool) (xs : List ℕ) → T (some p xs) → (x : ℕ) × T (memb x xs) × T (p x)
unfolding some
in_some p [] t = absurd t
in_some p (y ∷ ys) t =
    elim (or_cases (p y) (some p ys) t) [
      | inl u ↦ (y, in_head y y ys refl, u)
      | inr u ↦ let r = in_some p ys u in (r.0, in_tail r.0 y ys r.1, r.2)
    ]

-- the members of a list of values
pub in_map : (f : ℕ → ℕ) (xs : List ℕ) (x : ℕ) → T (memb x xs) → T (memb (f x) (map f xs))
in_map f [] x m = absurd (in_none x m)
in_map f (y ∷ ys) x m = elim (in_cons x y ys m) [ inl e ↦ in_head (f x) (f y) (map f ys) (ap f e) | inr u ↦ in_tail (f x) (f y) (map f ys) (in_map f ys x u) ]

pub map_in : (f : ℕ → ℕ) (xs : List ℕ) (y : ℕ) → T (memb y (map f xs)) → (x : ℕ) × T (memb x xs) × (y ≡ f x)
map_in f [] y m = absurd (in_none y m)
map_in f (x ∷ xs) y m =
    elim (in_cons y (f x) (map f xs) m) [
      | inl e ↦ (x, in_head x x xs refl, e)
      | inr t ↦ let r = map_in f xs y t in (r.0, in_tail r.0 x xs r.1, r.2)
    ]

pub count_map : (p : ℕ → Bool) (f : ℕ → ℕ) (xs : List ℕ) → length (filter p (map f xs)) ≡ length (filter (λ x. p (f x)) xs)
unfolding filter
count_map p f [] = refl
count_map p f (x ∷ xs) = go (p (f x)) (count_map p f xs)
  where
    go : (t : Bool) → length (filter p (map f xs)) ≡ length (filter (λ x. p (f x)) xs)
        → length (cond t (f x ∷ filter p (map f xs)) (filter p (map f xs))) ≡ length (cond t (x ∷ filter (λ x. p (f x)) xs) (filter (λ x. p (f x)) xs))
    go true e = omega arith
    go false e = e

-- the largest value is no smaller than each, and no larger than what bounds each
pub most_above : (f : ℕ → ℕ) (xs : List ℕ) (x : ℕ) → T (memb x xs) → f x ≤ foldr (λ b k. max (f b) k) 0 xs
most_above f [] x m = absurd (in_none x m)
most_above f (y ∷ ys) x m = elim (in_cons x y ys m) [ inl e ↦ rw e (omega arith) | inr u ↦ omega (arith, most_above f ys x u) ]

pub most_below : (f : ℕ → ℕ) (xs : List ℕ) (m : ℕ) → ((x : ℕ) → T (memb x xs) → f x ≤ m) → foldr (λ b k. max (f b) k) 0 xs ≤ m
most_below f [] m h = omega arith
most_below f (y ∷ ys) m h = omega (arith, h y (in_head y y ys refl), most_below f ys m (λ x i. h x (in_tail x y ys i)))
