-- Whether a row names a bank, as the library looks for it.
use mathlib.Core.Bool.{◌||◌}
use mathlib.Core.List.{List, [], ◌∷◌}
use mathlib.Core.Path.{◌≡◌, refl, sym, ap₂}
use Prim.Native.Nat.{ℕ}
use lib.Dec.{eqb, eqb→eq}
use Rattle.std.specs.List.{list_any}
use Rattle.rule.specs.Lists.{some, memb}
use Rattle.rule.proofs.Booleans.{test_ext, eq→eqb}

either_way : (x y : ℕ) → eqb x y ≡ eqb y x
either_way x y = test_ext (eqb x y) (eqb y x) (λ t. eq→eqb y x (sym (eqb→eq x y t))) (λ t. eq→eqb x y (sym (eqb→eq y x t)))

pub named : (v : ℕ) (row : List ℕ) → list_any (λ y. eqb y v) row ≡ memb v row
unfolding memb some
named v [] = refl
named v (x ∷ xs) = ap₂ ◌||◌ (either_way x v) (named v xs)
