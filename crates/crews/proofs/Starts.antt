-- The steps before each wave, as they are added up.
use mathlib.Core.List.{List}
use mathlib.Core.Path.{◌≡◌, refl, sym, ap, ap₂, ◌∙◌}
use native.Mathlib.Decide.{ℕ_discrete}
use native.Mathlib.Nat.{div-le_self}
use Rattle.std.proofs.Math.Nat.{div-eq_of_lt-le, add-mul}
use Rattle.std.specs.Int.{div_ceil}
use Rattle.std.proofs.lemmas.Grind.{div_ceil_times}
use native.Mathlib.Numerals.{add-one}
use native.Mathlib.Omega.{arith}
use Prim.Native.Nat.{ℕ, zero, suc, ◌+◌, ◌*◌, ◌-◌, ◌/◌, ◌≤◌, ◌<◌}
use lib.ListN.{get_or, set, replicate, length-replicate, length-set}
use lib.Seq.{get_or-set_same, get_or-set_other}
use Rattle.crews.specs.Day.{divided_up, sum_up}
use Rattle.crews.specs.inner.Serving.{Crew, Sizes, steps_to, StartsTo}

pub sum_up_cong : (q : ℕ) (f g : ℕ → ℕ) (k : ℕ) → ((w : ℕ) → w < k → f w ≡ g w) → sum_up q f k ≡ sum_up q g k
unfolding sum_up
sum_up_cong q f g zero h = refl
sum_up_cong q f g (suc k) h = ap₂ ◌+◌ (sum_up_cong q f g k (λ w l. h w (omega arith))) (ap (λ (m : ℕ). divided_up m q) (h k (omega arith)))

-- a wave of at most 1,024 banks takes few steps, and so do the first w
pub divided_few : (m q : ℕ) → m ≤ 1024 → q ≤ 64 → (m + (q - 1)) / q ≤ 1087
divided_few m q l k = omega (arith, div-le_self (m + (q - 1)) q)

-- rounded up: with q - 1 added first
ceil_is : (m q : ℕ) → 1 ≤ q → div_ceil m q ≡ (m + (q - 1)) / q
ceil_is m q some =
    let p = div_ceil_times m q (omega arith) in
    sym (div-eq_of_lt-le q (omega (arith, p.1)) (rw (add-mul (div_ceil m q) 1 q) (omega (arith, p.0))))

module _ {sizes : List ℕ} {q : ℕ} (sz : Sizes sizes) (crew : Crew q) where
  pub steps_few : (w : ℕ) → w ≤ 24 → steps_to sizes q w ≤ 1087 * w
  unfolding sum_up divided_up
  steps_few zero l = omega arith
  steps_few (suc w) l = omega (arith, steps_few w (omega arith), divided_few (get_or sizes w 0) q (sz.few w (omega arith)) crew.few)

  -- before the first wave
  pub starts_none : StartsTo sizes q 0 (replicate 24 0) 0
  unfolding sum_up
  starts_none = record { long = length-replicate {A = ℕ} 24 0; before = λ v l. absurd (omega arith); total = refl }

  module _ {w : ℕ} {starts : List ℕ} {sum : ℕ} (st : StartsTo sizes q w starts sum) (l : w < 24) where
    -- what is added fits
    pub sum_fits : sum + div_ceil (get_or sizes w 0) q < 65536
    sum_fits =
        omega (arith, st.total, steps_few w (omega arith), ceil_is (get_or sizes w 0) q crew.some, divided_few (get_or sizes w 0) q (sz.few w l) crew.few)

    -- the next wave is added
    pub starts_next : StartsTo sizes q (w + 1) (set starts w sum) (sum + div_ceil (get_or sizes w 0) q)
    unfolding sum_up divided_up
    starts_next = record {
      long = length-set starts w sum ∙ st.long;
      before = λ v k. at v k (ℕ_discrete v w);
      total = rw (add-one, ceil_is (get_or sizes w 0) q crew.some) (ap (λ (x : ℕ). x + (get_or sizes w 0 + (q - 1)) / q) st.total);
    }
      where
        at : (v : ℕ) → v < w + 1 → Dec (v ≡ w) → get_or (set starts w sum) v 0 ≡ steps_to sizes q v
        at v k (yes e) = rw e (get_or-set_same starts w sum 0 (omega (arith, st.long)) ∙ st.total)
        at v k (no d) = get_or-set_other starts w v sum 0 d ∙ st.before v (omega arith)
