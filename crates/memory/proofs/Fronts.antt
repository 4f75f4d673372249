-- Fronts of slices: `take`, `drop`, `get_or`, `memb` and `over` together.
use mathlib.Core.Bool.{◌||◌}
use mathlib.Core.List.{List, [], ◌∷◌, ◌++◌, map}
use mathlib.Core.Logic.{◌⊎◌, inl, inr}
use mathlib.Core.Path.{◌≡◌, refl, sym, ap, ◌∙◌, subst}
use Prim.Native.Nat.{ℕ, zero, suc, ◌+◌, ◌<◌, ◌≤◌}
use native.Mathlib.Omega.{arith}
use native.Mathlib.Numerals.{add-one}
use native.Mathlib.Decide.{ℕ_discrete}
use lib.Dec.{T, eqb, eqb→eq}
use lib.ListN.{length, get_or, set, take, drop, length-set, length-take, length-drop, length-append, length-map, take-append-drop, get_or-append}
use lib.Seq.{take-suc, drop-cons, get_or-set_other, get_or-take, get_or-drop, get_or_at, take-suc-set, ext_get_or}
use Rattle.rule.specs.Lists.{upto, memb}
use Rattle.rule.proofs.Booleans.{or_l, or_r, or_cases, test_ext, eq→eqb}
use Rattle.rule.proofs.Lists.{in_head, in_tail, in_cons, in_none, in_append, in_append_l, in_append_r, length_upto}
use Rattle.memory.specs.Cells.{over, Beyond}

pub pos : (x : ℕ) → (x ≡ 0 → ⊥) → 0 < x
pos zero h = absurd (h refl)
pos (suc x) h = omega arith

-- the cell after a front
pub take_next : (k : ℕ) (xs : List ℕ) → k < length xs → take (k + 1) xs ≡ take k xs ++ (get_or xs k 0 ∷ [])
take_next k xs h = rw add-one (take-suc xs k 0 h)

pub drop_next : (k : ℕ) (xs : List ℕ) → k < length xs → drop k xs ≡ get_or xs k 0 ∷ drop (k + 1) xs
drop_next k xs h = rw add-one (drop-cons xs k 0 h)

-- whatever stands for cells beyond the end
pub get_d_any : (xs : List ℕ) (i p r : ℕ) → i < length xs → get_or xs i p ≡ get_or xs i r
get_d_any [] i p r h = absurd (omega arith)
get_d_any (x ∷ xs) zero p r h = refl
get_d_any (x ∷ xs) (suc i) p r h = get_d_any xs i p r (omega arith)

-- a member stands in some cell
pub in_cell : (k : ℕ) (xs : List ℕ) → k < length xs → T (memb (get_or xs k 0) xs)
in_cell k [] h = absurd (omega arith)
in_cell zero (x ∷ xs) h = in_head x x xs refl
in_cell (suc k) (x ∷ xs) h = in_tail (get_or xs k 0) x xs (in_cell k xs (omega arith))

pub cell_of : (xs : List ℕ) (x : ℕ) → T (memb x xs) → (i : ℕ) × (i < length xs) × (get_or xs i 0 ≡ x)
cell_of [] x m = absurd (in_none x m)
cell_of (y ∷ ys) x m =
    elim (in_cons x y ys m) [
      | inl e ↦ (zero, omega arith, sym e)
      | inr u ↦ let r = cell_of ys x u in (suc r.0, omega (arith, r.1), r.2)
    ]

-- a cell of a front
pub in_front : (k i : ℕ) (xs : List ℕ) → i < k → k ≤ length xs → T (memb (get_or xs i 0) (take k xs))
in_front k i xs l h =
    subst (λ (y : ℕ). T (memb y (take k xs))) (get_or-take k xs i 0 l) (in_cell i (take k xs) (omega (arith, length-take k xs)))

-- members of a list cut in two
pub in_cut : (k : ℕ) (xs : List ℕ) (x : ℕ) → T (memb x xs) → T (memb x (take k xs)) ⊎ T (memb x (drop k xs))
in_cut k xs x m = in_append x (take k xs) (drop k xs) (rw (take-append-drop k xs) m)

pub in_take : (k : ℕ) (xs : List ℕ) (x : ℕ) → T (memb x (take k xs)) → T (memb x xs)
in_take k xs x m = rw take-append-drop at (in_append_l x (take k xs) (drop k xs) m)

pub in_drop : (k : ℕ) (xs : List ℕ) (x : ℕ) → T (memb x (drop k xs)) → T (memb x xs)
in_drop k xs x m = rw take-append-drop at (in_append_r x (take k xs) (drop k xs) m)

-- one member more at the end
pub memb_snoc : (xs : List ℕ) (y x : ℕ) → memb x (xs ++ (y ∷ [])) ≡ (memb x xs || eqb x y)
memb_snoc xs y x =
    test_ext (memb x (xs ++ (y ∷ []))) (memb x xs || eqb x y)
    (λ m. elim (in_append x xs (y ∷ []) m) [
      | inl u ↦ or_l (memb x xs) (eqb x y) u
      | inr u ↦ elim (in_cons x y [] u) [ inl e ↦ or_r (memb x xs) (eqb x y) (eq→eqb x y e) | inr w ↦ absurd (in_none x w) ]
    ])
    (λ m. elim (or_cases (memb x xs) (eqb x y) m) [
      | inl u ↦ in_append_l x xs (y ∷ []) u
      | inr u ↦ in_append_r x xs (y ∷ []) (in_head x y [] (eqb→eq x y u))
    ])

-- the rest of a slice
pub beyond_refl : (k : ℕ) (xs : List ℕ) → Beyond k xs xs
beyond_refl k xs = record { long = refl; same = λ i l. refl }

pub beyond_set : (k j v : ℕ) (xs was : List ℕ) → j < k → Beyond k xs was → Beyond k (set xs j v) was
beyond_set k j v xs was l b = record {
  long = length-set xs j v ∙ b.long;
  same = λ i h. get_or-set_other xs j i v 0 (λ e. omega arith) ∙ b.same i h;
}

pub beyond_next : (k v : ℕ) (xs was : List ℕ) → Beyond k xs was → Beyond (k + 1) (set xs k v) was
beyond_next k v xs was b = record {
  long = length-set xs k v ∙ b.long;
  same = λ i h. get_or-set_other xs k i v 0 (λ e. omega arith) ∙ b.same i (omega arith);
}

pub beyond_trans : (k : ℕ) (xs ys zs : List ℕ) → Beyond k xs ys → Beyond k ys zs → Beyond k xs zs
beyond_trans k xs ys zs p q = record { long = p.long ∙ q.long; same = λ i h. p.same i h ∙ q.same i h }

-- a slice by its front and what lies beyond
pub front_over : (k : ℕ) (xs was front : List ℕ) → take k xs ≡ front → k ≤ length xs → Beyond k xs was → xs ≡ over front was
unfolding over
front_over k xs was front e l b =
    let n : length front ≡ k = rw (← e) (omega (arith, length-take k xs)) in
    sym (take-append-drop k xs) ∙ rw (e, n) (ap (λ (r : List ℕ). front ++ r) (ext_get_or 0 (drop k xs) (drop k was)
    (omega (arith, length-drop k xs, length-drop k was, b.long))
    (λ i h. get_or-drop k xs i 0 ∙ b.same (k + i) (omega arith) ∙ sym (get_or-drop k was i 0))))

pub over_long : (front xs was : List ℕ) → length front ≤ length was → xs ≡ over front was → length xs ≡ length was
unfolding over
over_long front xs was l e = ap length e ∙ (omega (arith, length-append front (drop (length front) was), length-drop (length front) was))

-- a front after a store at its end
pub take_store : (k v : ℕ) (xs : List ℕ) → k < length xs → take (k + 1) (set xs k v) ≡ take k xs ++ (v ∷ [])
take_store k v xs h = rw add-one (take-suc-set xs k v h)

-- cells by their place
pub get_d_map : (f : ℕ → ℕ) (xs : List ℕ) (i : ℕ) → i < length xs → get_or (map f xs) i 0 ≡ f (get_or xs i 0)
get_d_map f [] i l = absurd (omega arith)
get_d_map f (x ∷ xs) zero l = refl
get_d_map f (x ∷ xs) (suc i) l = get_d_map f xs i (omega arith)

pub get_d_upto : (n i : ℕ) → i < n → get_or (upto n) i 0 ≡ i
unfolding upto
get_d_upto zero i l = absurd (omega arith)
get_d_upto (suc n) i l = go (ℕ_discrete i n) (get_d_upto n i)
  where
    go : Dec (i ≡ n) → (i < n → get_or (upto n) i 0 ≡ i) → get_or (upto n ++ (n ∷ [])) i 0 ≡ i
    go (yes e) more = rw e (get_or_at (upto n) n [] 0 n (length_upto n))
    go (no d) more =
        let s : i < n = omega arith in
        get_or-append (upto n) (n ∷ []) 0 i (omega (arith, length_upto n)) ∙ more s

pub front_cells : (k : ℕ) (f : ℕ → ℕ) (xs : List ℕ) → k ≤ length xs → ((i : ℕ) → i < k → get_or xs i 0 ≡ f i) → take k xs ≡ map f (upto k)
front_cells k f xs l h =
    ext_get_or 0 (take k xs) (map f (upto k)) (omega (arith, length-take k xs, length-map (upto k) f, length_upto k)) (λ i s.
    let t : i < k = omega (arith, length-take k xs) in
    get_or-take k xs i 0 t ∙ h i t ∙ ap f (sym (get_d_upto k i t)) ∙ sym (get_d_map f (upto k) i (omega (arith, length_upto k))))

-- one cell more of a front that is put cell by cell
pub over_next : (front xs : List ℕ) (i : ℕ) → i < length front → length front ≤ length xs
    → set (over (take i front) xs) i (get_or front i 0) ≡ over (take (suc i) front) xs
unfolding over
over_next [] xs i h k = absurd (omega arith)
over_next (f ∷ fs) [] i h k = absurd (omega arith)
over_next (f ∷ fs) (x ∷ xs) zero h k = refl
over_next (f ∷ fs) (x ∷ xs) (suc i) h k = ap (λ (l : List ℕ). f ∷ l) (over_next fs xs i (omega arith) (omega arith))
