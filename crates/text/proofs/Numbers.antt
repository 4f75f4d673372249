-- What a number is at most, and that parts of the unpadded form read as they did.
use mathlib.Core.Bool.{Bool, true, false, cond, ◌&&◌, ◌||◌, not}
use mathlib.Core.List.{List}
use mathlib.Core.Path.{◌≡◌, refl}
use Prim.Native.Nat.{ℕ, ◌≤◌}
use native.Mathlib.Omega.{arith}
use lib.Dec.{T, leb, eqb}
use lib.ListN.{length, get_or}
use borrow.Author.Tests.{leb-true}
use Rattle.rule.proofs.Booleans.{both_true}
use Rattle.std.proofs.Common.{Some, None}
use Rattle.text.specs.Numbers.{digits, is_number, value_from, number}
use Rattle.text.proofs.Digits.{tens, value_below}
use Rattle.text.specs.Unpadded.{is_unpadded, unpadded_number, is_plain}

-- what reads as a number is at most 9,999
small_by : (b : Bool) (p : List ℕ) (x : ℕ) → is_number p ≡ b → cond b (Some (value_from 0 p)) None ≡ Some x → x ≤ 9999
unfolding is_number
small_by true p x e q =
    let r = both_true (leb 1 (length p)) (leb (length p) 4 && digits p) e in
    let u = both_true (leb (length p) 4) (digits p) r.1 in
    let v : value_from 0 p ≡ x = cc in
    omega (arith, tens (value_from 0 p) (length p) (value_below 0 0 p u.1 (omega arith)) (leb-true (length p) 4 u.0))
small_by false p x e q = let z : ◌≡◌ {A = ℕ} 0 1 = cc in absurd (omega arith)

pub number_small : (p : List ℕ) (x : ℕ) → number p ≡ Some x → x ≤ 9999
unfolding number
number_small p x q = small_by (is_number p) p x refl q

-- four tests, of which the third is dropped
fewer : (a b c d : Bool) (v x : ℕ) → cond (a && (b && (c && d))) (Some v) None ≡ Some x → cond (a && (b && d)) (Some v) None ≡ Some x
fewer true true true d v x e = e
fewer true true false d v x e = let z : ◌≡◌ {A = ℕ} 0 1 = cc in absurd (omega arith)
fewer true false c d v x e = e
fewer false b c d v x e = e

-- a number of the unpadded form has the value that it had
pub number_kept : (p : List ℕ) (x : ℕ) → unpadded_number p ≡ Some x → number p ≡ Some x
unfolding unpadded_number is_unpadded number is_number
number_kept p x e =
    fewer (leb 1 (length p)) (leb (length p) 4) (leb (length p) 1 || not (eqb (get_or p 0 0) 48)) (digits p) (value_from 0 p) x e

-- the third test is passed where the others are
as_many : (a b c d : Bool) (v : ℕ) → T (not (a && (b && d)) || (a && (b && (c && d))))
    → cond (a && (b && d)) (Some v) None ≡ cond (a && (b && (c && d))) (Some v) None
as_many true true true d v t = refl
as_many true true false true v t = absurd t
as_many true true false false v t = refl
as_many true false c d v t = refl
as_many false b c d v t = refl

-- a part that is no number with a zero in front reads as it did
pub number_same : (p : List ℕ) → T (is_plain p) → number p ≡ unpadded_number p
unfolding is_plain unpadded_number is_unpadded number is_number
number_same p t =
    as_many (leb 1 (length p)) (leb (length p) 4) (leb (length p) 1 || not (eqb (get_or p 0 0) 48)) (digits p) (value_from 0 p) t
