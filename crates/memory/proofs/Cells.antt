-- Cells given by their places, at the front of a slice: `cells`, `over` and `starts`.
use mathlib.Core.List.{List, [], ◌∷◌, ◌++◌}
use mathlib.Core.Path.{◌≡◌, refl, sym, ap, ap₂, ◌∙◌, subst}
use Prim.Native.Nat.{ℕ, ◌+◌, ◌*◌, ◌/◌, ◌%◌, ◌≤◌, ◌<◌}
use native.Mathlib.Nat.{add-zero, mul_comm, mod-lt, mod-eq_of_lt, div-eq_of_lt, div-add-mod', mul-add-div_right, mul-add-mod_self_right, div-lt_iff_lt-mul}
use native.Mathlib.Omega.{arith}
use lib.Dec.{T, eqb, eqb→eq}
use lib.ListN.{length, get_or, drop, length-append, length-map, get_or-append}
use lib.Seq.{drop_at}
use Rattle.rule.specs.Lists.{upto}
use Rattle.rule.proofs.Booleans.{and_l, and_r, both, eq→eqb}
use Rattle.rule.proofs.Lists.{length_upto, upto_below, map_cong}
use Rattle.memory.specs.Cells.{cells, over, starts, Beyond}
use Rattle.memory.proofs.Fronts.{get_d_map, get_d_upto, front_cells, front_over, beyond_refl}

pub length_cells : (k : ℕ) (f : ℕ → ℕ) → length (cells k f) ≡ k
unfolding cells
length_cells k f = length-map (upto k) f ∙ length_upto k

get_d_cells : (k : ℕ) (f : ℕ → ℕ) (i : ℕ) → i < k → get_or (cells k f) i 0 ≡ f i
unfolding cells
get_d_cells k f i h = get_d_map f (upto k) i (omega (arith, length_upto k)) ∙ ap f (get_d_upto k i h)

pub cells_cong : (k : ℕ) (f g : ℕ → ℕ) → ((i : ℕ) → i < k → f i ≡ g i) → cells k f ≡ cells k g
unfolding cells
cells_cong k f g h = map_cong f g (upto k) (λ i m. h i (upto_below k i m))

-- a slice begins with these cells exactly if they are at its front already
pub starts_over : (front xs : List ℕ) → T (starts front xs) → over front xs ≡ xs
unfolding starts over
starts_over [] xs t = refl
starts_over (x ∷ front) [] t = absurd t
starts_over (x ∷ front) (y ∷ ys) t =
    ap₂ ◌∷◌ (eqb→eq x y (and_l (eqb x y) (starts front ys) t)) (starts_over front ys (and_r (eqb x y) (starts front ys) t))

starts_append : (front rest : List ℕ) → T (starts front (front ++ rest))
unfolding starts
starts_append [] rest = tt
starts_append (x ∷ front) rest = both (eqb x x) (starts front (front ++ rest)) (eq→eqb x x refl) (starts_append front rest)

pub over_starts : (front xs : List ℕ) → over front xs ≡ xs → T (starts front xs)
unfolding over
over_starts front xs e = subst (λ (l : List ℕ). T (starts front l)) e (starts_append front (drop (length front) xs))

-- cells put over as many others
pub over_over : (f g xs : List ℕ) → length f ≡ length g → over f (over g xs) ≡ over f xs
unfolding over
over_over f g xs e =
    ap (λ (l : List ℕ). f ++ l) (drop_at g (drop (length g) xs) (length f) (sym e) ∙ ap (λ (k : ℕ). drop k xs) (sym e))

-- cells at the front of a slice, one by one
module _ (k : ℕ) (f : ℕ → ℕ) (xs : List ℕ) where
  pub cells_long : over (cells k f) xs ≡ xs → k ≤ length xs
  unfolding over
  cells_long e = omega (arith, ap length e, length-append (cells k f) (drop (length (cells k f)) xs), length_cells k f)

  pub cells_at : over (cells k f) xs ≡ xs → (i : ℕ) → i < k → get_or xs i 0 ≡ f i
  unfolding over
  cells_at e i h =
      ap (λ (l : List ℕ). get_or l i 0) (sym e)
      ∙ get_or-append (cells k f) (drop (length (cells k f)) xs) 0 i (omega (arith, length_cells k f)) ∙ get_d_cells k f i h

  pub cells_over : (was : List ℕ) → k ≤ length xs → ((i : ℕ) → i < k → get_or xs i 0 ≡ f i) → Beyond k xs was → xs ≡ over (cells k f) was
  unfolding cells
  cells_over was l h b = front_over k xs was (cells k f) (front_cells k f xs l h) l b

  pub cells_by : k ≤ length xs → ((i : ℕ) → i < k → get_or xs i 0 ≡ f i) → over (cells k f) xs ≡ xs
  cells_by l h = sym (cells_over xs l h (beyond_refl k xs))

-- a table of w cells for each of n banks
module _ (w n : ℕ) (f : ℕ → ℕ → ℕ) (xs : List ℕ) (wide : 0 < w) where
  abbrev place : ℕ → ℕ
  place i = f (i / w) (i % w)

  pub table_at : over (cells (w * n) place) xs ≡ xs → (b i : ℕ) → b < n → i < w → get_or xs (b * w + i) 0 ≡ f b i
  table_at e b i hb hi =
      let p : (b * w + i) / w ≡ b = mul-add-div_right wide b i ∙ ap (λ (k : ℕ). b + k) (div-eq_of_lt hi) ∙ add-zero b in
      let q : (b * w + i) % w ≡ i = mul-add-mod_self_right b w i ∙ mod-eq_of_lt hi in
      let l : b * w + i < w * n = rw (mul_comm w n) ((div-lt_iff_lt-mul wide).0 (rw p hb)) in
      cells_at (w * n) place xs e (b * w + i) l ∙ ap₂ f p q

  pub table_by : w * n ≤ length xs → ((b i : ℕ) → b < n → i < w → get_or xs (b * w + i) 0 ≡ f b i) → over (cells (w * n) place) xs ≡ xs
  table_by l h =
      cells_by (w * n) place xs l (λ i k.
      let b : i / w < n = (div-lt_iff_lt-mul wide).1 (rw (mul_comm w n) at k) in
      ap (λ (j : ℕ). get_or xs j 0) (sym (div-add-mod' i w)) ∙ h (i / w) (i % w) b (mod-lt i wide))
