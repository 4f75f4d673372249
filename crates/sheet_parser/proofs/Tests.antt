-- What a test's answer says.
use mathlib.Core.Bool.{Bool, true, false}
use mathlib.Core.List.{List, ◌++◌}
use mathlib.Core.Path.{◌≡◌, refl, sym, ap, subst, ◌∙◌}
use Prim.Native.Nat.{ℕ, ◌-◌, ◌+◌}
use lib.Dec.{T, eqb}
use lib.ListN.{length, take, drop, length-drop}
use lib.Seq.{take_all, drop-drop}
use native.Mathlib.Omega.{arith}
use Rattle.std.proofs.lemmas.Bool.Decides.{Decides-eqb}
use Rattle.std.proofs.lemmas.Slice.Eq.{slice_eq-Decides, starts_is}
use Rattle.std.specs.Bool.{Decides}
use Rattle.std.specs.Cmp.Lexicographic.{pointwise}
use Rattle.std.specs.List.{starts_with}
use Rattle.memory.specs.inner.Test.{Says}
use Rattle.sheet_parser.specs.inner.Numbers.{Stands}

pub not_both : {r : Bool} → r ≡ true → r ≡ false → ⊥
not_both e f = let z : ◌≡◌ {A = Bool} true false = sym e ∙ f in different z
  where
    different : true ≡ false → ⊥
    different z = subst T z tt

decided : (P : Type 0) (r : Bool) → Decides r P → Says P r
decided P true d = d.0 refl
decided P false d = λ p. not_both (d.1 p) refl

-- the bytes from a place on, as a slice of the code
pub rest_from : (s : List ℕ) (at : ℕ) → take (length s - at) (drop at s) ≡ drop at s
rest_from s at = take_all (length s - at) (drop at s) (omega (arith, length-drop at s))

-- by `==`
pub same_says : (xs ys : List ℕ) (r : Bool) → r ≡ pointwise eqb xs ys → Says (xs ≡ ys) r
same_says xs ys r e = decided (xs ≡ ys) r (slice_eq-Decides Decides-eqb xs ys r e)

-- by `starts_with`
pub stands_says : (s : List ℕ) (at : ℕ) (text : List ℕ) (r : Bool) → r ≡ starts_with eqb (take (length s - at) (drop at s)) text → Says (Stands s at text) r
stands_says s at text r e =
    let more : drop (length text) (drop at s) ≡ drop (at + length text) s = drop-drop (length text) at s in
    let is = starts_is Decides-eqb (drop at s) text r (e ∙ ap (λ (l : List ℕ). starts_with eqb l text) (rest_from s at)) in
    decided (Stands s at text) r (λ yes. is.0 yes ∙ ap (λ (l : List ℕ). text ++ l) more, λ stands. is.1 (drop (at + length text) s) stands)
