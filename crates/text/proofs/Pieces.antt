-- The first row of some bytes, and the first part of a row: the bytes up to the first separator.
use mathlib.Core.Bool.{Bool, true, false, cond}
use mathlib.Core.List.{List, [], ◌∷◌}
use mathlib.Core.Path.{◌≡◌, refl, ap, ◌∙◌}
use Prim.Native.Nat.{ℕ, suc, ◌+◌, ◌-◌, ◌≤◌, ◌<◌}
use native.Mathlib.Omega.{arith}
use lib.Dec.{eqb}
use lib.ListN.{length, take, drop, length-drop}
use lib.Seq.{drop-drop}
use Rattle.text.specs.Text.{onto, rows, parts}
use Rattle.text.specs.Places.{before, Finds}

-- one more byte, which is a line feed or not, in front of the rows
rows_cons : (b : Bool) (x : ℕ) (s : List ℕ) (k : ℕ) → onto x (rows s) ≡ take (suc k) (x ∷ s) ∷ rows (drop (suc (suc k)) (x ∷ s))
    → cond b ([] ∷ rows s) (onto x (rows s)) ≡ take (cond b 0 (suc k)) (x ∷ s) ∷ rows (drop (suc (cond b 0 (suc k))) (x ∷ s))
rows_cons true x s k e = refl
rows_cons false x s k e = e

-- the first row, and the rows after its line feed
rows_first : (s : List ℕ) → 0 < length s → rows s ≡ take (before 10 s) s ∷ rows (drop (suc (before 10 s)) s)
unfolding rows before onto
rows_first [] h = absurd (omega arith)
rows_first (x ∷ []) h = rows_cons (eqb x 10) x [] 0 refl
rows_first (x ∷ y ∷ ys) h = rows_cons (eqb x 10) x (y ∷ ys) (before 10 (y ∷ ys)) (ap (onto x) (rows_first (y ∷ ys) (omega arith)))

-- one more byte, which is a space or not, in front of the parts
parts_cons : (b : Bool) (x : ℕ) (s : List ℕ) (k : ℕ) → cond b 0 (suc k) < suc (length s)
    → (k < length s → parts s ≡ take k s ∷ parts (drop (suc k) s))
    → cond b ([] ∷ parts s) (onto x (parts s)) ≡ take (cond b 0 (suc k)) (x ∷ s) ∷ parts (drop (suc (cond b 0 (suc k))) (x ∷ s))
unfolding onto
parts_cons true x s k h e = refl
parts_cons false x s k h e = ap (onto x) (e (omega arith))

-- the first part, where a space follows it
parts_first : (s : List ℕ) → before 32 s < length s → parts s ≡ take (before 32 s) s ∷ parts (drop (suc (before 32 s)) s)
unfolding parts before
parts_first [] h = absurd (omega arith)
parts_first (x ∷ s) h = parts_cons (eqb x 32) x s (before 32 s) h (parts_first s)

last_cons : (b : Bool) (x : ℕ) (s : List ℕ) (k : ℕ) → suc (length s) ≤ cond b 0 (suc k) → (length s ≤ k → parts s ≡ take k s ∷ [])
    → cond b ([] ∷ parts s) (onto x (parts s)) ≡ take (cond b 0 (suc k)) (x ∷ s) ∷ []
unfolding onto
last_cons true x s k h e = absurd (omega arith)
last_cons false x s k h e = ap (onto x) (e (omega arith))

-- the only part, where none does
parts_last : (s : List ℕ) → length s ≤ before 32 s → parts s ≡ take (before 32 s) s ∷ []
unfolding parts before
parts_last [] h = refl
parts_last (x ∷ s) h = last_cons (eqb x 32) x s (before 32 s) h (parts_last s)

-- the same from place a on, where the first separator stands at e
module _ (l : List ℕ) (a e : ℕ) where
  past : (k : ℕ) → e ≡ a + k → drop (suc k) (drop a l) ≡ drop (e + 1) l
  past k h =
      let u : a + suc k ≡ e + 1 = omega arith in
      drop-drop (suc k) a l ∙ ap (λ (n : ℕ). drop n l) u

  size : (k : ℕ) → e ≡ a + k → k ≡ e - a
  size k h = omega arith

  pub rows_at : a < length l → Finds l a 10 e → rows (drop a l) ≡ take (e - a) (drop a l) ∷ rows (drop (e + 1) l)
  rows_at h f =
      let k : ℕ = before 10 (drop a l) in
      rows_first (drop a l) (rw length-drop (omega arith))
      ∙ ap (λ (t : List ℕ). take k (drop a l) ∷ rows t) (past k f.is)
      ∙ ap (λ (n : ℕ). take n (drop a l) ∷ rows (drop (e + 1) l)) (size k f.is)

  pub parts_at : Finds l a 32 e → e < length l → parts (drop a l) ≡ take (e - a) (drop a l) ∷ parts (drop (e + 1) l)
  parts_at f h =
      let k : ℕ = before 32 (drop a l) in
      let q : e ≡ a + k = f.is in
      parts_first (drop a l) (rw length-drop (omega arith))
      ∙ ap (λ (t : List ℕ). take k (drop a l) ∷ parts t) (past k q)
      ∙ ap (λ (n : ℕ). take n (drop a l) ∷ parts (drop (e + 1) l)) (size k q)

  pub parts_end : Finds l a 32 e → length l ≤ e → parts (drop a l) ≡ take (e - a) (drop a l) ∷ []
  parts_end f h =
      let k : ℕ = before 32 (drop a l) in
      let q : e ≡ a + k = f.is in
      parts_last (drop a l) (rw length-drop (omega arith)) ∙ ap (λ (n : ℕ). take n (drop a l) ∷ []) (size k q)
