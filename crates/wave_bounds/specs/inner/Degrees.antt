-- The cells of degrees, counted.
use Rattle.std.specs.Prelude.{List, ◌↔◌, ◌≡◌, ℕ, ◌≤◌, ◌<◌, leb, length, get_or}
use Rattle.rule.specs.Lists.{upto, filter}

-- how many of the first n cells hold d or more
unfoldable pub cells_from : List ℕ → ℕ → ℕ → ℕ
cells_from cells n d = length (filter (λ b. leb d (get_or cells b 0)) (upto n))

-- the degrees from d on are looked at: `high` banks have one of them, and none is below the number of banks that have it or more
pub record LookedFrom (many : ℕ → ℕ) (d high : ℕ) : Type 0 where
  pub is : high ≡ many d
  pub low : (e : ℕ) → d ≤ e → many e ≤ e

-- r is above d exactly if d is below `many d`
abbrev pub Above : (ℕ → ℕ) → ℕ → Type 0
Above many r = (d : ℕ) → (d < r) ↔ (d < many d)
