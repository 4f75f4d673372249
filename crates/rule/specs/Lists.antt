-- Lists by a test.
use Rattle.std.specs.Prelude.{Bool, false, cond, ◌||◌, List, [], ◌∷◌, ◌++◌, ◌⊎◌, ◌≢◌, ℕ, zero, suc, T, eqb}

-- 0, 1, .., n - 1
unfoldable pub upto : ℕ → List ℕ
upto zero = []
upto (suc n) = upto n ++ (n ∷ [])

-- those that pass the test
unfoldable pub filter : (ℕ → Bool) → List ℕ → List ℕ
filter p [] = []
filter p (x ∷ xs) = cond (p x) (x ∷ filter p xs) (filter p xs)

-- does one of them pass the test?
unfoldable pub some : (ℕ → Bool) → List ℕ → Bool
some p [] = false
some p (x ∷ xs) = p x || some p xs

-- is x in the list?
unfoldable pub memb : ℕ → List ℕ → Bool
memb x xs = some (eqb x) xs

-- x put before the first that it comes before
unfoldable pub insert_by : (ℕ → ℕ → Bool) → ℕ → List ℕ → List ℕ
insert_by before x [] = x ∷ []
insert_by before x (y ∷ ys) = cond (before x y) (x ∷ y ∷ ys) (y ∷ insert_by before x ys)

unfoldable pub sort_by : (ℕ → ℕ → Bool) → List ℕ → List ℕ
sort_by before [] = []
sort_by before (x ∷ xs) = insert_by before x (sort_by before xs)

-- each comes before all that follow it
abbrev pub Sorted : (ℕ → ℕ → Bool) → List ℕ → Type 0
Sorted before [] = Unit {0}
Sorted before (x ∷ xs) = ((y : ℕ) → T (memb y xs) → T (before x y)) × Sorted before xs

-- none stands twice
abbrev pub Once : List ℕ → Type 0
Once [] = Unit {0}
Once (x ∷ xs) = (T (memb x xs) → ⊥) × Once xs

-- a strict total order
pub record Strict (before : ℕ → ℕ → Bool) : Type 0 where
  pub irrefl : (x : ℕ) → T (before x x) → ⊥
  pub trans : (x y z : ℕ) → T (before x y) → T (before y z) → T (before x z)
  pub total : (x y : ℕ) → x ≢ y → T (before x y) ⊎ T (before y x)
