-- The highest wave in use: at the start of an edit, after a step, and at its end.
use mathlib.Core.Bool.{false}
use mathlib.Core.List.{List}
use mathlib.Core.Logic.{inl, inr, ◌≢◌}
use mathlib.Core.Path.{◌≡◌, sym, ap, ◌∙◌}
use Prim.Native.Nat.{ℕ, zero, suc, ◌+◌, ◌≤◌, ◌<◌, max}
use native.Mathlib.Decide.{ℕ_discrete}
use native.Mathlib.Numerals.{add-one}
use native.Mathlib.Omega.{arith}
use lib.ListN.{length, get_or, set}
use lib.Seq.{get_or-set_same, get_or-set_other}
use Rattle.rule.proofs.Booleans.{lt_or_ge}
use Rattle.memory.specs.inner.Counts.{most_of}
use Rattle.memory.proofs.Sums.{most_none, most_next}
use Rattle.recolouring.specs.declared.highest.Highest.{Highest}
use Rattle.recolouring.specs.inner.Tops.{Top}

-- the largest of the first cells plus 1, cell by cell
module _ (ws : List ℕ) where
  most_suc : (n : ℕ) → most_of ws (suc n) ≡ max (suc (get_or ws n 0)) (most_of ws n)
  most_suc n = ap (most_of ws) (sym (add-one n)) ∙ most_next ws n

  most_above : (n x : ℕ) → x < n → get_or ws x 0 < most_of ws n
  most_above zero x l = absurd (omega arith)
  most_above (suc n) x l = go (ℕ_discrete x n) (most_above n x)
    where
      go : Dec (x ≡ n) → (x < n → get_or ws x 0 < most_of ws n) → get_or ws x 0 < most_of ws (suc n)
      go (yes e) less = rw e (omega (arith, most_suc n))
      go (no d) less = omega (arith, most_suc n, less (omega arith))

  most_there : (n : ℕ) → 0 < most_of ws n → (x : ℕ) × ((x < n) × (get_or ws x 0 + 1 ≡ most_of ws n))
  most_there zero l = absurd (omega (arith, most_none ws))
  most_there (suc n) l =
      elim (lt_or_ge (get_or ws n 0) (most_of ws n)) [
        | inl lower ↦ let one = most_there n (omega arith) in (one.0, (omega (arith, one.1.0), omega (arith, most_suc n, one.1.1)))
        | inr high ↦ (n, (omega arith, omega (arith, most_suc n)))
      ]

  -- at the start
  pub top_of : {n k : ℕ} → 0 < n → k ≡ most_of ws n → Top n ws (record { most = k; left = false })
  top_of {n} {k} some is =
      let one = most_there n (omega (arith, most_above n 0 some)) in
      record {
        below = λ x l. omega (arith, most_above n x l);
        there = λ _. (one.0, (one.1.0, one.1.1 ∙ sym is));
      }

  -- and at the end, where no mark is set
  pub top_is : {n : ℕ} {top : Highest} → Top n ws top → top.left ≡ false → top.most ≡ most_of ws n
  top_is {n} {top} tp e =
      let one = tp.there e in
      let high = most_above n one.0 one.1.0 in
      let two = most_there n (omega arith) in
      omega (arith, one.1.1, high, two.1.1, tp.below two.0 two.1.0)

-- bank b goes from wave o to wave w
module _ {n b : ℕ} {ws : List ℕ} {top : Highest} (bank : b < n) (wide : n ≤ length ws) (tp : Top n ws top) (w : ℕ) where
  at_b : get_or (set ws b w) b 0 ≡ w
  at_b = get_or-set_same ws b w 0 (omega arith)

  at_other : (x : ℕ) → x ≢ b → get_or (set ws b w) x 0 ≡ get_or ws x 0
  at_other x d = get_or-set_other ws b x w 0 d

  below_after : (k : ℕ) → w < k → top.most ≤ k → (x : ℕ) → x < n → get_or (set ws b w) x 0 < k
  below_after k low lk x l = go (ℕ_discrete x b)
    where
      go : Dec (x ≡ b) → get_or (set ws b w) x 0 < k
      go (yes e) = rw e (omega (arith, at_b))
      go (no d) = omega (arith, at_other x d, tp.below x l)

  -- to the highest, or above it
  pub top_came : top.most ≤ w + 1 → Top n (set ws b w) (record { most = w + 1; left = false })
  top_came l = record { below = below_after (w + 1) (omega arith) l; there = λ _. (b, (bank, ap (λ (k : ℕ). k + 1) at_b)) }
