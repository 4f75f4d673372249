-- A number divided and rounded up.
use mathlib.Core.Logic.{inl, inr}
use mathlib.Core.Path.{◌≡◌, ap}
use native.Mathlib.Nat.{zero-add, div-eq_of_lt, add-div_right, div-lt_iff_lt-mul, lt-div-mul-add, div-mul-le_self, mul-le-mul_left}
use native.Mathlib.Omega.{arith}
use Prim.Native.Nat.{ℕ, zero, suc, ◌+◌, ◌*◌, ◌-◌, ◌≤◌, ◌<◌}
use Rattle.rule.proofs.Booleans.{lt_or_ge}
use Rattle.crews.specs.Day.{divided_up, sum_up}

-- nothing takes no step, and q more take one more
module _ (q : ℕ) (some : 1 ≤ q) where
  pub divided_none : divided_up 0 q ≡ 0
  unfolding divided_up
  divided_none = div-eq_of_lt {n = 0 + (q - 1)} {m = q} (omega arith)

  pub divided_one : (m : ℕ) → 1 ≤ m → divided_up m q ≡ suc (divided_up (m - q) q)
  unfolding divided_up
  divided_one m l =
      elim (lt_or_ge q m) [
        | inl k ↦
            let e : m + (q - 1) ≡ m - q + (q - 1) + q = omega arith in
            rw e (omega (arith, add-div_right (m - q + (q - 1)) {k = q} some))
        | inr k ↦
            let e : m + (q - 1) ≡ m - 1 + q = omega arith in
            let f : m - q ≡ 0 = omega arith in
            rw (e, f) (omega (arith, add-div_right (m - 1) {k = q} some, div-eq_of_lt {n = m - 1} {m = q} (omega arith), div-eq_of_lt {n = 0 + (q - 1)} {m = q} (omega arith)))
      ]

  -- q times as many are not fewer, and not q more
  pub divided_enough : (m : ℕ) → m ≤ divided_up m q * q
  unfolding divided_up
  divided_enough m = omega (arith, lt-div-mul-add {a = m + (q - 1)} {b = q} some)

  pub divided_close : (m : ℕ) → divided_up m q * q < m + q
  unfolding divided_up
  divided_close m = omega (arith, div-mul-le_self (m + (q - 1)) q)

-- a larger divisor gives no more
pub divided_falls : (m p q : ℕ) → 1 ≤ p → p ≤ q → divided_up m q ≤ divided_up m p
divided_falls m p q some l =
    let below : m + (q - 1) < suc (divided_up m p) * q =
    omega (arith, divided_enough p some m, mul-le-mul_left (divided_up m p) l) in
    unfold divided_up in omega (arith, (div-lt_iff_lt-mul {k = q} {x = m + (q - 1)} {y = suc (divided_up m p)} (omega arith)).1 below)

pub sum_falls : (size : ℕ → ℕ) (p q : ℕ) → 1 ≤ p → p ≤ q → (k : ℕ) → sum_up q size k ≤ sum_up p size k
unfolding sum_up
sum_falls size p q some l zero = omega arith
sum_falls size p q some l (suc k) = omega (arith, sum_falls size p q some l k, divided_falls (size k) p q some l)

-- waves of no bank add nothing
pub sum_none : (q : ℕ) → 1 ≤ q → (size : ℕ → ℕ) (k d : ℕ) → ((w : ℕ) → k ≤ w → size w ≡ 0) → sum_up q size (d + k) ≡ sum_up q size k
unfolding sum_up
sum_none q some size k zero none = rw zero-add
sum_none q some size k (suc d) none =
    let next : suc d + k ≡ suc (d + k) = omega arith in
    rw next (omega (arith, sum_none q some size k d none, ap (λ (m : ℕ). divided_up m q) (none (d + k) (omega arith)), divided_none q some))
